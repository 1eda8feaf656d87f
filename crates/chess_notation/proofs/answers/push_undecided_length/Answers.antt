use Rattle.std.proofs.Common.{◌∙◌, ◌++◌, ℕ, List, refl, sym, ap, [], ◌∷◌, string_bytes}
use Rattle.std.specs.Prelude.{codes}
use Rattle.chess_notation.specs.Operations.{Entry}
use Rattle.chess_notation.specs.inside.Merging.{with_entries}
use Rattle.chess_notation.specs.Records.{RecordValue}
use Rattle.chess_notation.specs.Answers.{comment_entry, entry_text, length_entry, undecided_entry, entries_text}
use Rattle.chess_notation.proofs.Merges.{own_printed}
use Rattle.chess_notation.proofs.answers.push_undecided_length.Goals as goal

pub returns : goal.returns
returns c =
    let own = undecided_entry c.args.none c.record.inside.bound c.args.seconds in
    let dm = length_entry c.record.inside.bound in
    let comment = c.in_ok-push_comment.ensures
    ∙ ap (λ (front : List ℕ). string_bytes c.push_until.new.text ++ entry_text (comment_entry front c.args.seconds (codes " s")))
    (c.as_str.ensures.value ∙ c.in_ok-front.ensures) in
    let first = own_printed _ _ _ own _ (c.in_ok-left.ensures own (dm ∷ []) refl (refl, tt)) comment in
    let second = own_printed _ _ _ dm _ (first ∙ c.in_ok-left-2.ensures dm [] refl tt) c.in_ok-push_length.ensures in
    c.in_ok-push_operations.ensures ∙ sym second
    ∙ ap (λ (es : List Entry). string_bytes c.args.text.now ++ entries_text (with_entries (own ∷ dm ∷ []) es)) c.as_slice.ensures.value
    ∙ ap (λ (r : RecordValue). string_bytes c.args.text.now
    ++ entries_text (with_entries (undecided_entry c.args.none r.bound c.args.seconds ∷ length_entry r.bound ∷ []) r.rest)) c.record.view_is

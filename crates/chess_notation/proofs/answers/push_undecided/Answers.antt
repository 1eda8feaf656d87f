use Rattle.std.proofs.Common.{◌∙◌, ◌++◌, ℕ, List, refl, sym, ap, [], ◌∷◌, string_bytes}
use Rattle.std.specs.Prelude.{codes}
use Rattle.chess_notation.specs.Operations.{Entry}
use Rattle.chess_notation.specs.inside.Merging.{with_entries}
use Rattle.chess_notation.specs.Records.{RecordValue}
use Rattle.chess_notation.specs.Answers.{comment_entry, entry_text, undecided_entry, entries_text}
use Rattle.chess_notation.proofs.Merges.{own_printed}
use Rattle.chess_notation.proofs.answers.push_undecided.Goals as goal

pub returns : goal.returns
returns c =
    let own = undecided_entry c.args.none c.record.inside.bound c.args.seconds in
    let comment = c.in_ok-push_comment.ensures
    ∙ ap (λ (front : List ℕ). string_bytes c.push_until.new.text ++ entry_text (comment_entry front c.args.seconds (codes " s")))
    (c.as_str.ensures.value ∙ c.in_ok-front.ensures) in
    let first = own_printed _ _ _ own _ (c.in_ok-left.ensures own [] refl tt) comment in
    c.in_ok-push_operations.ensures ∙ sym first
    ∙ ap (λ (es : List Entry). string_bytes c.args.text.now ++ entries_text (with_entries (own ∷ []) es)) c.as_slice.ensures.value
    ∙ ap (λ (r : RecordValue). string_bytes c.args.text.now
    ++ entries_text (with_entries (undecided_entry c.args.none r.bound c.args.seconds ∷ []) r.rest)) c.record.view_is

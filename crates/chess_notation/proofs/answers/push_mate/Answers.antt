use Rattle.std.proofs.Common.{◌∙◌, ◌++◌, List, refl, sym, ap, [], ◌∷◌, string_bytes}
use Rattle.chess_notation.specs.Operations.{Entry}
use Rattle.chess_notation.specs.inside.Merging.{with_entries}
use Rattle.chess_notation.specs.Records.{RecordValue}
use Rattle.chess_notation.specs.Answers.{keys_entry, length_entry, line_entry, entries_text}
use Rattle.chess_notation.proofs.Merges.{own_printed}
use Rattle.chess_notation.proofs.answers.push_mate.Goals as goal

pub returns : goal.returns
returns c =
    let keys = keys_entry c.record.inside.position c.args.mate.keys.now in
    let dm = length_entry c.args.mate.dm in
    let line = line_entry c.record.inside.position c.args.mate.pv.now in
    let first = own_printed _ _ _ keys _ (c.in_ok-left.ensures keys (dm ∷ line ∷ []) refl (refl, (refl, tt))) c.in_ok-push_keys.ensures in
    let second = own_printed _ _ _ dm _ (first ∙ c.in_ok-left-2.ensures dm (line ∷ []) refl (refl, tt)) c.in_ok-push_length.ensures in
    let third = own_printed _ _ _ line _ (second ∙ c.in_ok-left-3.ensures line [] refl tt) c.in_ok-push_line.ensures in
    c.in_ok-push_operations.ensures ∙ sym third
    ∙ ap (λ (es : List Entry). string_bytes c.args.text.now ++ entries_text (with_entries (keys ∷ dm ∷ line ∷ []) es)) c.as_slice.ensures.value
    ∙ ap (λ (r : RecordValue). string_bytes c.args.text.now
    ++ entries_text (with_entries
    (keys_entry r.position c.args.mate.keys.now ∷ dm ∷ line_entry r.position c.args.mate.pv.now ∷ []) r.rest)) c.record.view_is

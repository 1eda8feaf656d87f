use Rattle.std.proofs.Common.{◌≡◌, ◌∙◌, ◌++◌, ℕ, List, refl, sym, ap, [], string_bytes}
use Rattle.chess_notation.specs.Operations.{Entry}
use Rattle.chess_notation.specs.Opcodes.{with_entry}
use Rattle.chess_notation.specs.Records.{RecordValue}
use Rattle.chess_notation.specs.Answers.{none_entry, entry_text, entries_text}
use Rattle.chess_notation.proofs.Merges.{own_printed}
use Rattle.chess_notation.proofs.answers.push_no_mate.Goals as goal

pub returns : goal.returns
returns c =
    let own = none_entry c.record.inside.bound in
    let until = c.in_ok-left.ensures own [] refl tt in
    let number : c.from.result ≡ c.record.inside.bound = c.from.ensures ∙ c.get.ensures.moves in
    let comment = c.in_ok-push_comment.ensures ∙ ap (λ (n : ℕ). string_bytes c.push_until.new.text ++ entry_text (none_entry n)) number in
    let printed = own_printed _ _ _ own c.in_ok-left.left.now until comment in
    c.in_ok-push_operations.ensures ∙ sym printed
    ∙ ap (λ (es : List Entry). string_bytes c.args.text.now ++ entries_text (with_entry own es)) c.as_slice.ensures.value
    ∙ ap (λ (r : RecordValue). string_bytes c.args.text.now ++ entries_text (with_entry (none_entry r.bound) r.rest)) c.record.view_is

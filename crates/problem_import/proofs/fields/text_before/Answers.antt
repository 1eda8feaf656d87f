use Rattle.problem_import.proofs.FieldTexts.{behind_four}
use Rattle.problem_import.proofs.fields.text_before.Goals as goal

pub returns : goal.returns
returns c =
    let f = c.args.words.now in
    behind_four (record { placement = f.placement.now; side = f.side.now; castling = f.castling.now; target = f.target.now })
    c.in_ok-text.text.items c.push_word.new.text.items c.push_word-2.new.text.items c.push_word-3.new.text.items c.push_behind.new.text.items
    c.in_ok-text.ensures.items c.in_ok-push_word.ensures c.in_ok-push_word-2.ensures c.in_ok-push_word-3.ensures c.in_ok-push_behind.ensures

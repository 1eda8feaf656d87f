use Rattle.problem_import.proofs.FieldTexts.{nothing_behind, word_behind}
use Rattle.problem_import.proofs.fields.push_behind.Goals as goal

pub returns-then-is_empty : goal.returns-then-is_empty
returns-then-is_empty c = nothing_behind c.args.text.now.items

pub returns : goal.returns
returns c = word_behind c.args.text.now.items c.push_word.new.text.items c.after_spaces-more.result.now c.in_ok-push_word.ensures

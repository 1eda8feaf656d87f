use Rattle.problem_import.proofs.TagFens.{ends_none}
use Rattle.problem_import.proofs.movetext.move_word.Goals as goal

pub returns : goal.returns
returns c = ends_none c.args.text.now

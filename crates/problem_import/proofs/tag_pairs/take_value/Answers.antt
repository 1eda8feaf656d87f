use Rattle.problem_import.proofs.TagFens.{ends_none}
use Rattle.problem_import.proofs.tag_pairs.take_value.Goals as goal

pub returns-clause-rest : goal.returns-clause-rest
returns-clause-rest c = ends_none c.args.text.now

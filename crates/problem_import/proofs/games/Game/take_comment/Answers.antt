use Rattle.std.proofs.Common.{sym, subst}
use Rattle.problem_import.specs.TagPairs.{EndsText}
use Rattle.problem_import.proofs.TagFens.{ends_behind}
use Rattle.problem_import.proofs.games.Game.take_comment.Goals as goal

pub returns-clause-rest : goal.returns-clause-rest
returns-clause-rest c = subst (λ t. EndsText t c.args.text.now) (sym c.cut_at.ensures.rest) (ends_behind 125 c.args.text.now)

use Rattle.problem_import.proofs.TagFens.{ends_drop}
use Rattle.problem_import.proofs.games.Game.take_mark.Goals as goal

pub returns-then-starts_with-clause-rest : goal.returns-then-starts_with-clause-rest
returns-then-starts_with-clause-rest c = ends_drop c.args.text.now c.without_first.result.now 2 c.without_first.ensures

pub returns-then-not-starts_with-clause-rest : goal.returns-then-not-starts_with-clause-rest
returns-then-not-starts_with-clause-rest c =
    ends_drop c.args.text.now c.without_first-then-not-starts_with.result.now 1 c.without_first-then-not-starts_with.ensures

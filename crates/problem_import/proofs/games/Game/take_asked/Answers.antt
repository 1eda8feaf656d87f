use Rattle.stipulations.specs.Stipulations.{asked_by_name}
use Rattle.problem_import.specs.Sources.{by_name}
use Rattle.problem_import.specs.inside.KnownSources.{TagSays}
use Rattle.problem_import.proofs.GameNumbers.{asked_both}
use Rattle.problem_import.proofs.games.Game.take_asked.Goals as goal

pub returns-then-has_names-clause-asks : goal.returns-then-has_names-clause-asks
returns-then-has_names-clause-asks c =
    asked_both asked_by_name (TagSays c.args.name.now c.args.value.now) c.args.value.now c.args.self.now c.moves_named.result c.and-self.result
    c.and-self.ensures c.moves_named.ensures (λ n says. by_name (c.has_names.ensures c.if-has_names.true) says)

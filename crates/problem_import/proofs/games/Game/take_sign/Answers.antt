use Rattle.problem_import.specs.Numbers.{asked_by_sign}
use Rattle.problem_import.specs.Sources.{by_sign}
use Rattle.problem_import.specs.inside.KnownSources.{TagSays}
use Rattle.problem_import.proofs.GameNumbers.{asked_both}
use Rattle.problem_import.proofs.games.Game.take_sign.Goals as goal

pub returns-clause-asks : goal.returns-clause-asks
returns-clause-asks c =
    asked_both asked_by_sign (TagSays c.args.name.now c.args.value.now) c.args.value.now c.args.self.now c.asked_by_sign.result c.and-self.result
    c.and-self.ensures c.asked_by_sign.ensures (λ n says. by_sign (c.is_word.ensures.0 c.if-not-is_word.false) says)

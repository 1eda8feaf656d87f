use Rattle.std.proofs.Common.{◌∙◌, sym}
use Rattle.problem_import.specs.inside.ReadProblems.{Takes}
use Rattle.problem_import.proofs.popeye.PopeyeProblem.take_word.Goals as goal

pub returns-in_default-clause-read : goal.returns-in_default-clause-read
unfolding Takes
returns-in_default-clause-read c = c.take_other.ensures (sym c.command_of.ensures ∙ c.in_default.is)

pub returns-clause-read : goal.returns-clause-read
unfolding Takes
returns-clause-read c = c.in_ok-take_command.ensures (sym c.command_of.ensures ∙ c.in-Some.is)

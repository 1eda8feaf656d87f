use Rattle.std.proofs.Common.{refl}
use Rattle.problem_import.proofs.ReadProblems.{command_taken}
use Rattle.problem_import.proofs.popeye.PopeyeProblem.take_command.Goals as goal

pub returns : goal.returns
returns c = λ is. command_taken c.args.command c.args.word.now c.args.self.now _ c.obey.new.self is c.awaited_behind-self.ensures refl refl refl refl
    c.in_ok-obey.ensures

use Rattle.std.proofs.Common.{ap}
use Rattle.desk_scripts.specs.Scripts.{said_from}
use Rattle.desk_scripts.proofs.script_lines.line_and_rest.Goals as goal

pub returns-in-Some-clause-said : goal.returns-in-Some-clause-said
returns-in-Some-clause-said c = λ k. ap (said_from k) c.in-Some.ensures.cut

pub returns-in-None-clause-said : goal.returns-in-None-clause-said
returns-in-None-clause-said c = λ k. ap (said_from k) c.in-None.ensures.none

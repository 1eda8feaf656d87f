use Rattle.problem_import.proofs.KnownNumbers.{number_own, number_said}
use Rattle.problem_import.proofs.Sources.{count_said}
use Rattle.problem_import.proofs.printing.moves_of.Goals as goal

pub returns-in-Said-clause-known : goal.returns-in-Said-clause-known
returns-in-Said-clause-known c = λ form given line asks. number_said form given line c.in-Said.moves (rw c.in-Said.is at asks)

pub returns-in-Own-clause-known : goal.returns-in-Own-clause-known
returns-in-Own-clause-known c = λ form given line asks. number_own form given line (rw c.in-Own.is at asks)

pub returns-in-Said-clause-from : goal.returns-in-Said-clause-from
returns-in-Said-clause-from c = λ letters given lines made from.
    count_said letters given lines made c.in-Said.moves (rw c.in-Said.is at from)

pub returns-in-Own-clause-from : goal.returns-in-Own-clause-from
returns-in-Own-clause-from c = λ letters given lines made from. count_said letters given lines made 3 (rw c.in-Own.is at from)

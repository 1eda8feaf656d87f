use Rattle.problem_import.proofs.KnownNumbers.{asks_known}
use Rattle.problem_import.proofs.line_kinds.asking.Goals as goal

pub returns-then-is_asked-clause-record : goal.returns-then-is_asked-clause-record
returns-then-is_asked-clause-record c = λ _ _. (rw c.in-Ok.is at c.in_ok-found.ensures.found).reads

pub returns-then-is_asked-clause-asks : goal.returns-then-is_asked-clause-asks
returns-then-is_asked-clause-asks c = λ _ _.
    asks_known c.args.moves c.args.line.now c.in-Ok.found.bound (c.is_asked.ensures c.if-is_asked.true)
    (rw c.in-Ok.is at c.in_ok-found.ensures.found).bound

pub returns-in-Err-clause-none : goal.returns-in-Err-clause-none
returns-in-Err-clause-none c = λ fault is. rw c.in-Err.is at c.in_ok-found.ensures.none

use Rattle.std.proofs.Common.{refl}
use Rattle.problem_import.proofs.finished_problems.number_unsaid.Goals as goal

pub returns-then-is_record : goal.returns-then-is_record
returns-then-is_record c = λ line one. (refl, rw c.if-is_record.true at one)

pub returns-else-is_record : goal.returns-else-is_record
returns-else-is_record c = λ line one. (refl, rw c.if-is_record.false at one)

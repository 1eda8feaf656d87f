use Rattle.std.proofs.Common.{List, Ok, ℕ}
use Rattle.mate_claims.proofs.ClaimReplies.{fault_told}
use Rattle.mate_claims.proofs.claim_replies.told_unsolved.Goals as goal

pub returns-clause-told : goal.returns-clause-told
returns-clause-told c =
    fault_told {E = List ℕ} c.args.place.now c.args.default c.bound_claimed-within.result c.args.line.now c.in-Err.fault
    (λ told. told.row.items) (λ told. told.verdict) (λ told. told.source) (Ok c.in_ok-told_of_fault-in-Err.field-0)
    c.in-Err.ensures.refused c.in_ok-told_of_fault-in-Err.ensures.fault c.in_ok-told_of_fault-in-Err.ensures.row
    c.in_ok-told_of_fault-in-Err.ensures.verdict c.in_ok-told_of_fault-in-Err.ensures.source

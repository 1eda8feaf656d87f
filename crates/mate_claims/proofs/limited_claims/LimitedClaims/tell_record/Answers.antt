use Rattle.std.proofs.Common.{inl, inr}
use Rattle.mate_claims.proofs.UndecidedClaims.{ok_both}
use Rattle.mate_claims.proofs.limited_claims.LimitedClaims.tell_record.Goals as goal

pub returns-in-Ok-clause-told : goal.returns-in-Ok-clause-told
returns-in-Ok-clause-told g c = ok_both c.told_of_outcome.result _ _ _ (λ told decided is. inl (decided, is))
    c.told_of_outcome.ensures.decided c.told_of_outcome.ensures.told

pub returns-in-Err-clause-told : goal.returns-in-Err-clause-told
returns-in-Err-clause-told g c =
    ok_both c.told_of_undecided.result _ _ _
    (λ told decided is. inr (decided, c.in-Err.ensures.stopped, c.in-Err.field-0, c.in-Err.ensures.none, is))
    c.told_of_undecided.ensures.decided c.told_of_undecided.ensures.told

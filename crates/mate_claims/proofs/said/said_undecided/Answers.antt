use Rattle.mate_claims.proofs.UndecidedClaims.{unjudged_none, unjudged_some}
use Rattle.mate_claims.proofs.said.said_undecided.Goals as goal

pub returns-in-Some : goal.returns-in-Some
returns-in-Some c =
    unjudged_some c.in_ok-said.said.word.now c.in_ok-said.said.claims.items c.code.result.now c.in_ok-said.said.verdict c.in-Some.field-0 _
    c.in_ok-said.ensures c.in-Some.is c.code.ensures

pub returns-in-None : goal.returns-in-None
returns-in-None c =
    unjudged_none c.in_ok-said.said.word.now c.in_ok-said.said.claims.items c.in_ok-said.said.verdict _ c.in_ok-said.ensures c.in-None.is

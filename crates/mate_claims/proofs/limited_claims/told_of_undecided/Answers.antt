use Rattle.std.proofs.Common.{None, refl}
use Rattle.chess_notation.specs.Words.{words_in}
use Rattle.chess_problems.specs.declared.outcomes.Outcome.TheVariants.{NoMate}
use Rattle.mate_claims.specs.LimitedClaims.{unjudged}
use Rattle.mate_claims.specs.Said.{said_by}
use Rattle.mate_claims.proofs.ClaimReplies.{told_by_said}
use Rattle.mate_claims.proofs.limited_claims.told_of_undecided.Goals as goal

pub returns-clause-told : goal.returns-clause-told
returns-clause-told c =
    let claimed = c.args.claimed.now in
    let r = claimed.record.now in
    let words = claimed.words.now in
    told_by_said claimed.place.now r claimed.source c.in_ok-said.said.word.now c.in_ok-said.said.claims.items c.in_ok-said.said.verdict
    NoMate NoMate (λ _. None) (λ _. unjudged (said_by claimed.source claimed.line.now words (words_in words) r NoMate))
    (λ told. told.row.items) (λ told. told.verdict) c.told_by.result refl c.in_ok-said.ensures
    c.told_by.ensures.row c.told_by.ensures.verdict

use Rattle.std.proofs.Common.{Some}
use Rattle.chess_notation.specs.Words.{words_in}
use Rattle.chess_notation.specs.Records.{problem_of}
use Rattle.mate_search.specs.inside.Truth.{truth}
use Rattle.mate_claims.specs.Said.{said_by}
use Rattle.mate_claims.proofs.ClaimReplies.{told_by_said}
use Rattle.mate_claims.proofs.claim_replies.told_of_found.Goals as goal

pub returns-clause-told : goal.returns-clause-told
returns-clause-told c =
    let claimed = c.args.claimed.now in
    let r = claimed.record.now in
    let words = claimed.words.now in
    told_by_said claimed.place.now r claimed.source c.in_ok-said.said.word.now c.in_ok-said.said.claims.items c.in_ok-said.said.verdict
    c.args.found.now.outcome.now (truth (problem_of r)) Some (said_by claimed.source claimed.line.now words (words_in words) r)
    (λ told. told.row.items) (λ told. told.verdict) c.told_by.result c.requires.truth c.in_ok-said.ensures
    c.told_by.ensures.row c.told_by.ensures.verdict

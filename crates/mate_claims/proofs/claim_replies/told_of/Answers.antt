use Rattle.std.proofs.Common.{ap, subst, ◌∙◌}
use Rattle.chess_notation.specs.Words.{words_in}
use Rattle.chess_notation.specs.Claims.{claim_words, length_claimed}
use Rattle.chess_notation.specs.Records.{Reads}
use Rattle.mate_claims.specs.BoundSources.{ReadsClaimed}
use Rattle.mate_claims.proofs.ClaimReplies.{fault_told, told_of_one}
use Rattle.mate_claims.proofs.claim_replies.told_of.Goals as goal

pub returns-clause-told : goal.returns-clause-told
returns-clause-told c =
    fault_told c.args.place.now c.args.default c.bound_claimed-bound.result c.args.line.now c.in-Err.fault
    (λ told. told.row.items) (λ told. told.verdict) (λ told. told.source) c.told_of_fault.result
    c.in-Err.ensures.refused c.told_of_fault.ensures.fault c.told_of_fault.ensures.row c.told_of_fault.ensures.verdict
    c.told_of_fault.ensures.source

pub returns-in-Ok-clause-told : goal.returns-in-Ok-clause-told
unfolding claim_words
returns-in-Ok-clause-told c =
    let line = c.args.line.now in
    let reads : ReadsClaimed line c.args.default c.in-Ok.record =
    subst (λ d. Reads line d c.in-Ok.record) (c.bound_claimed-bound.ensures
    ∙ ap (λ t. length_claimed (words_in t) c.args.default) (c.as_slice.ensures.value ∙ c.in_ok-words.ensures)) c.in-Ok.ensures.reads in
    told_of_one c.args.place.now c.args.default line c.in-Ok.record c.in_ok-source-in-Ok.source c.as_slice-words.result.now
    (λ told. told.row.items) (λ told. told.verdict) (λ told. told.source) c.told_of_record.result reads c.in_ok-source-in-Ok.ensures
    (c.as_slice-words.ensures.value ∙ c.in_ok-words.ensures) c.told_of_record.ensures.told
    c.told_of_record.ensures.source

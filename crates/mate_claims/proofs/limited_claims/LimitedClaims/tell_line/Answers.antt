use Rattle.std.proofs.Common.{◌≡◌, ap, subst, true, ◌∙◌}
use Rattle.chess_notation.specs.Words.{words_in}
use Rattle.chess_notation.specs.Claims.{claim_words, length_claimed}
use Rattle.chess_notation.specs.Records.{Reads}
use Rattle.mate_claims.specs.BoundSources.{ReadsClaimed}
use Rattle.mate_claims.specs.ClaimReplies.{IsTold}
use Rattle.mate_claims.specs.LimitedClaims.{IsToldInTime, in_time}
use Rattle.mate_claims.proofs.ClaimReplies.{fault_told}
use Rattle.mate_claims.proofs.UndecidedClaims.{ok_both, told_of_either}
use Rattle.mate_claims.proofs.limited_claims.LimitedClaims.tell_line.Goals as goal

pub returns-clause-told : goal.returns-clause-told
returns-clause-told g c =
    let place = c.args.place.now in
    let default = c.args.self.now.limited.now.default in
    let line = c.args.line.now in
    ok_both c.told_of_fault.result (λ told. told.is_decided ≡ true)
    (λ told. IsTold place default line told.row.items told.verdict told.source)
    (λ told. IsToldInTime (g.T.Halt.may_stop c.args.self.now.limited.now.limit.now) place default line told.row.items told.verdict told.source
    told.is_decided)
    (λ told decided is. rw decided (in_time told.row.items told.verdict told.source is))
    c.told_of_fault.ensures.decided
    (fault_told place default c.bound_claimed-bound.result line c.in-Err.fault
    (λ told. told.row.items) (λ told. told.verdict) (λ told. told.source) c.told_of_fault.result
    c.in-Err.ensures.refused c.told_of_fault.ensures.fault c.told_of_fault.ensures.row c.told_of_fault.ensures.verdict
    c.told_of_fault.ensures.source)

pub returns-in-Ok-clause-told : goal.returns-in-Ok-clause-told
unfolding claim_words
returns-in-Ok-clause-told g c =
    let line = c.args.line.now in
    let default = c.args.self.now.limited.now.default in
    let reads : ReadsClaimed line default c.in-Ok.record =
    subst (λ d. Reads line d c.in-Ok.record) (c.bound_claimed-bound.ensures
    ∙ ap (λ t. length_claimed (words_in t) default) (c.as_slice.ensures.value ∙ c.in_ok-words.ensures)) c.in-Ok.ensures.reads in
    told_of_either (g.T.Halt.may_stop c.args.self.now.limited.now.limit.now)
    c.args.place.now default line c.in-Ok.record c.in_ok-source-in-Ok.source c.as_slice-words.result.now
    (λ told. told.row.items) (λ told. told.verdict) (λ told. told.source) (λ told. told.is_decided) c.tell_record.result reads c.in_ok-source-in-Ok.ensures
    (c.as_slice-words.ensures.value ∙ c.in_ok-words.ensures) c.tell_record.ensures.told
    c.tell_record.ensures.source

use Rattle.std.proofs.Common.{ap, inr, ◌∙◌}
use Rattle.mate_claims.specs.Rows.{refused_row}
use Rattle.mate_claims.proofs.ClaimReplies.{long_reply}
use Rattle.mate_claims.proofs.UndecidedClaims.{long_limited, long_unmarked}
use Rattle.mate_claims.proofs.limited_claims.LimitedClaimsLineHandler.refuse_long.Goals as goal

pub returns-clause-reply : goal.returns-clause-reply
returns-clause-reply g c = λ line filled long.
    long_limited (g.T.Halt.may_stop c.args.self.now.limited.now.limit.now)
    c.args.self.now.prefix.now c.as_slice.result.now c.args.self.now.limited.now.default c.args.number line
    c.in_ok-refused_row.field-0.items filled long
    (c.as_slice.ensures.value ∙ c.in_ok-place.ensures) (c.in_ok-refused_row.ensures ∙ ap (refused_row c.as_slice.result.now) c.code.ensures)

pub returns-clause-marked : goal.returns-clause-marked
returns-clause-marked g c = λ line filled long.
    long_unmarked (g.T.Halt.may_stop c.args.self.now.limited.now.limit.now)
    c.args.self.now.prefix.now c.as_slice.result.now c.args.self.now.limited.now.default c.args.number line
    c.in_ok-refused_row.field-0.items filled long
    (c.as_slice.ensures.value ∙ c.in_ok-place.ensures) (c.in_ok-refused_row.ensures ∙ ap (refused_row c.as_slice.result.now) c.code.ensures)

pub returns-clause-behind : goal.returns-clause-behind
returns-clause-behind g c = λ line filled long before.
    inr (long_reply c.args.self.now.prefix.now c.as_slice.result.now c.args.self.now.limited.now.default c.args.number line
    c.in_ok-refused_row.field-0.items filled long
    (c.as_slice.ensures.value ∙ c.in_ok-place.ensures) (c.in_ok-refused_row.ensures ∙ ap (refused_row c.as_slice.result.now) c.code.ensures))

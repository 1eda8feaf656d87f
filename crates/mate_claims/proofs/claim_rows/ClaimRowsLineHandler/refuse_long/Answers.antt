use Rattle.std.proofs.Common.{ap, ◌∙◌}
use Rattle.mate_claims.specs.Rows.{refused_row}
use Rattle.mate_claims.proofs.ClaimReplies.{long_reply}
use Rattle.mate_claims.proofs.claim_rows.ClaimRowsLineHandler.refuse_long.Goals as goal

pub returns-clause-reply : goal.returns-clause-reply
returns-clause-reply c = λ line filled long.
    long_reply c.args.self.now.prefix.now c.as_slice.result.now c.args.self.now.default c.args.number line
    c.in_ok-refused_row.field-0.items filled long
    (c.as_slice.ensures.value ∙ c.in_ok-place.ensures) (c.in_ok-refused_row.ensures ∙ ap (refused_row c.as_slice.result.now) c.code.ensures)

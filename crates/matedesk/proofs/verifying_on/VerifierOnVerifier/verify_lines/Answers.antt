use Rattle.std.proofs.Common.{List, ℕ, subst}
use Rattle.std.proofs.lemmas.Result.{IfErr-weaker, IfOk-weaker, err_from_is_err_and}
use Rattle.byte_streams.specs.declared.inputs.InputFault.TheVariants as fault
use Rattle.mate_claims.specs.ClaimReplies.{IsClaimReply}
use Rattle.text_lines.specs.LinesFrom.{IsReplyOn, IsReplyToFirstOn}
use Rattle.file_answers.proofs.Unopened.{no_reply_on, not_opened}
use Rattle.matedesk.proofs.verifying_on.VerifierOnVerifier.verify_lines.Goals as goal

pub returns-in_err-from_slice-clause-err : goal.returns-in_err-from_slice-clause-err
returns-in_err-from_slice-clause-err g c =
    let rows = IsClaimReply c.args.start.now.prefix.now c.args.self.now.bound in
    let (other, is, same) = err_from_is_err_and c.from_residual.result c.from_residual.ensures.1 in
    rw (is) (not_opened fault.NoMemory other (IsReplyToFirstOn rows c.args.start.now.from) (g.I.Input.left c.args.input)
    (g.O.Write.contents c.args.out.now) (no_reply_on rows c.args.start.now.from) same)

pub returns-clause-ok : goal.returns-clause-ok
returns-clause-ok g c =
    IfOk-weaker c.answer_in_order.result _ _
    (λ n (bytes, text, may, reply, on). (
      bytes,
      text,
      may,
      subst (λ (p : List ℕ). IsReplyOn (IsClaimReply p c.args.self.now.bound) c.args.start.now.from bytes text n)
          c.in_ok-from_slice.ensures.items reply,
      on,
    ))
    c.answer_in_order.ensures.ok

pub returns-clause-err : goal.returns-clause-err
returns-clause-err g c =
    IfErr-weaker c.answer_in_order.result _ _
    (λ stop (bytes, text, may, reply, on). (
      bytes,
      text,
      may,
      subst (λ (p : List ℕ). IsReplyToFirstOn (IsClaimReply p c.args.self.now.bound) c.args.start.now.from bytes text)
          c.in_ok-from_slice.ensures.items reply,
      on,
    ))
    c.answer_in_order.ensures.err

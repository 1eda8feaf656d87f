use Rattle.std.proofs.Common.{[]}
use Rattle.std.proofs.lemmas.Result.{err_from_is_err_and}
use Rattle.byte_streams.specs.declared.inputs.InputFault.TheVariants as fault
use Rattle.json_commands.specs.JsonFiles.{first_file_replies}
use Rattle.json_replies.specs.declared.replies.Form.TheVariants.{Row}
use Rattle.mate_claims.specs.LimitedClaims.{IsLimitedClaim}
use Rattle.file_answers.proofs.Unopened.{not_opened}
use Rattle.json_commands.proofs.Unopened.{no_file_reply}
use Rattle.json_commands.proofs.limited_verifying.LimitedJsonClaimsFileAnswers.answer.Goals as goal

pub returns-in_err-front-clause-err : goal.returns-in_err-front-clause-err
returns-in_err-front-clause-err g c =
    let (other, is, same) = err_from_is_err_and c.from_residual.result c.from_residual.ensures.1 in
    let bound = c.args.self.now.limited.now.default in
    let stops = g.T.Halt.may_stop c.args.self.now.limited.now.limit.now in
    rw (is) (not_opened fault.NoMemory other (first_file_replies Row c.args.self.now.several (IsLimitedClaim stops [] bound)
    c.args.start.now.from c.args.start.now.name.now) (g.I.Input.left c.args.input) (g.O.Write.contents c.args.out.now)
    (no_file_reply Row c.args.self.now.several (IsLimitedClaim stops [] bound) c.args.start.now.from c.args.start.now.name.now) same)

pub returns-clause-ok : goal.returns-clause-ok
returns-clause-ok g c =
    rw c.with_unread-memory.ensures
    (rw (c.as_slice.ensures.value, c.in_ok-front.ensures) at c.in_ok-unsound.ensures.marked)

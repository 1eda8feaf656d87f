use Rattle.std.proofs.lemmas.Result.{err_from_is_err_and}
use Rattle.byte_streams.specs.declared.inputs.InputFault.TheVariants as fault
use Rattle.file_verifying.specs.Verified.{first_limited_claim_replies}
use Rattle.file_answers.proofs.Unopened.{not_opened}
use Rattle.file_verifying.proofs.Unopened.{no_limited_reply}
use Rattle.file_verifying.proofs.limited_verifying.LimitedAnswersFileAnswers.answer.Goals as goal

pub returns-in_err-prefix-clause-err : goal.returns-in_err-prefix-clause-err
returns-in_err-prefix-clause-err g c =
    let (other, is, same) = err_from_is_err_and c.from_residual.result c.from_residual.ensures.1 in
    let bound = c.args.self.now.limited.now.default in
    let stops = g.T.Halt.may_stop c.args.self.now.limited.now.limit.now in
    rw (is) (not_opened fault.NoMemory other (first_limited_claim_replies stops c.args.self.now.several bound c.args.start.now.from
    c.args.start.now.name.now) (g.I.Input.left c.args.input) (g.O.Write.contents c.args.out.now)
    (no_limited_reply stops c.args.self.now.several bound c.args.start.now.from c.args.start.now.name.now) same)

pub returns-clause-ok : goal.returns-clause-ok
returns-clause-ok g c =
    rw c.with_unread-memory.ensures
    (rw (c.as_slice.ensures.value, c.in_ok-prefix.ensures) at c.in_ok-unsound.ensures.marked)

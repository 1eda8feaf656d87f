use Rattle.std.proofs.lemmas.Result.{err_from_is_err_and}
use Rattle.byte_streams.specs.declared.inputs.InputFault.TheVariants as fault
use Rattle.file_verifying.specs.Verified.{first_claim_replies}
use Rattle.file_answers.proofs.Unopened.{not_opened}
use Rattle.file_verifying.proofs.Unopened.{no_claim_reply}
use Rattle.file_verifying.proofs.verifying.ClaimAnswersFileAnswers.answer.Goals as goal

pub returns-in_err-prefix-clause-err : goal.returns-in_err-prefix-clause-err
returns-in_err-prefix-clause-err g c =
    let (other, is, same) = err_from_is_err_and c.from_residual.result c.from_residual.ensures.1 in
    rw (is) (not_opened fault.NoMemory other (first_claim_replies c.args.self.now.several (g.V.Verifier.default c.args.self.now.verifier.now) c.args.start.now.from
    c.args.start.now.name.now) (g.I.Input.left c.args.input) (g.O.Write.contents c.args.out.now)
    (no_claim_reply c.args.self.now.several (g.V.Verifier.default c.args.self.now.verifier.now) c.args.start.now.from c.args.start.now.name.now) same)

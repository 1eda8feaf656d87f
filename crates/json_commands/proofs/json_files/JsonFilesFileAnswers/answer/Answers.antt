use Rattle.std.proofs.lemmas.Result.{err_from_is_err_and}
use Rattle.byte_streams.specs.declared.inputs.InputFault.TheVariants as fault
use Rattle.json_commands.specs.JsonFiles.{first_file_replies}
use Rattle.file_answers.proofs.Unopened.{not_opened}
use Rattle.json_commands.proofs.Unopened.{no_file_reply}
use Rattle.json_commands.proofs.json_files.JsonFilesFileAnswers.answer.Goals as goal

pub returns-in_err-front-clause-err : goal.returns-in_err-front-clause-err
returns-in_err-front-clause-err g c =
    let (other, is, same) = err_from_is_err_and c.from_residual.result c.from_residual.ensures.1 in
    let form = c.args.self.now.json.now.form in
    let several = c.args.self.now.several in
    rw (is) (not_opened fault.NoMemory other (first_file_replies form several (g.H.LineHandler.replies c.args.self.now.json.now.handler.now)
    c.args.start.now.from c.args.start.now.name.now) (g.I.Input.left c.args.input) (g.O.Write.contents c.args.out.now)
    (no_file_reply form several (g.H.LineHandler.replies c.args.self.now.json.now.handler.now) c.args.start.now.from c.args.start.now.name.now) same)

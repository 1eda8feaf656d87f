use Rattle.std.proofs.Common.{ap, ◌∙◌}
use Rattle.std.proofs.lemmas.Result.{IfErr-weaker, IfOk-weaker}
use Rattle.import_claims.proofs.SourcedRows.{first_rows_of, rows_of}
use Rattle.std.proofs.lemmas.Result.{err_from_is_err_and}
use Rattle.byte_streams.specs.declared.inputs.InputFault.TheVariants as fault
use Rattle.import_claims.specs.VerifiedImports.{first_imported_replies}
use Rattle.file_answers.proofs.Unopened.{not_opened}
use Rattle.import_claims.proofs.Unopened.{no_imported_reply}
use Rattle.import_claims.proofs.verifying_imports.ImportedAnswersFileAnswers.answer.Goals as goal

pub returns-in_err-prefix-clause-err : goal.returns-in_err-prefix-clause-err
returns-in_err-prefix-clause-err g c =
    let (other, is, same) = err_from_is_err_and c.from_residual.result c.from_residual.ensures.1 in
    rw (is) (not_opened fault.NoMemory other (first_imported_replies c.args.self.now.several c.args.self.now.letters c.args.self.now.bound c.args.start.now.from
    c.args.start.now.name.now) (g.I.Input.left c.args.input) (g.O.Write.contents c.args.out.now)
    (no_imported_reply c.args.self.now.several c.args.self.now.letters c.args.self.now.bound c.args.start.now.from c.args.start.now.name.now) same)

pub returns-clause-ok : goal.returns-clause-ok
returns-clause-ok g c = IfOk-weaker c.answer_problems_from-unsound.result _ _
    (λ count (bytes, text, may, all, on). (
      bytes,
      text,
      may,
      rows_of c.args.self.now.several c.new-lines.result.printing.letters c.args.self.now.letters c.new-lines.ensures.letters c.new-lines.result.printing.keep
          c.new-lines.ensures.keep c.args.self.now.bound c.new-lines.result.printing.bound c.args.start.now.name.now
          c.new-lines.result.handler.now.rows.prefix.now c.new-lines.result.handler.now.rows.default
          (ap (λ h. h.rows.prefix.now) c.new-lines.ensures.handler ∙ c.as_slice.ensures.value ∙ c.in_ok-prefix.ensures)
          (ap (λ h. h.rows.default) c.new-lines.ensures.handler ∙ c.bound_or_three-default.ensures) c.new-lines.ensures.bound
          c.args.start.now.from bytes text count all,
      on,
    )) c.answer_problems_from-unsound.ensures.ok

pub returns-clause-err : goal.returns-clause-err
returns-clause-err g c = IfErr-weaker c.answer_problems_from-unsound.result _ _
    (λ stop (bytes, text, may, some, on). (
      bytes,
      text,
      may,
      first_rows_of c.args.self.now.several c.new-lines.result.printing.letters c.args.self.now.letters c.new-lines.ensures.letters c.new-lines.result.printing.keep
          c.new-lines.ensures.keep c.args.self.now.bound c.new-lines.result.printing.bound c.args.start.now.name.now
          c.new-lines.result.handler.now.rows.prefix.now c.new-lines.result.handler.now.rows.default
          (ap (λ h. h.rows.prefix.now) c.new-lines.ensures.handler ∙ c.as_slice.ensures.value ∙ c.in_ok-prefix.ensures)
          (ap (λ h. h.rows.default) c.new-lines.ensures.handler ∙ c.bound_or_three-default.ensures) c.new-lines.ensures.bound
          c.args.start.now.from bytes text some,
      on,
    )) c.answer_problems_from-unsound.ensures.err

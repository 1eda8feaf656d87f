use Rattle.std.proofs.Common.{map}
use Rattle.std.proofs.lemmas.Result.{err_from_is_err_and}
use Rattle.plain_commands.proofs.Uncounted.{imports_uncounted}
use Rattle.plain_commands.proofs.importing.import.Goals as goal

pub returns-in_err-counts-in-Ok-clause-err : goal.returns-in_err-counts-in-Ok-clause-err
returns-in_err-counts-in-Ok-clause-err g c =
    let (other, is, same) = err_from_is_err_and c.from_residual.result c.from_residual.ensures.1 in
    rw (is, same)
    (imports_uncounted c.holds_reads.ensures.each (g.S.Source.holds c.args.source.now) (g.S.Source.refuses c.args.source.now) c.args.imports.now.printing.letters c.args.imports.now.printing.keep
    c.args.imports.now.printing.bound c.first.result (map (λ s. s.now) c.args.names.now) c.in-Ok.refused (g.O.Write.contents c.args.out.now) (g.O.Write.contents c.answer_files.new.out)
    c.first.ensures c.in-Ok.ensures.ok)

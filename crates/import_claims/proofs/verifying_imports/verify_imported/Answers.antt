use Rattle.std.proofs.Common.{map}
use Rattle.std.proofs.lemmas.Result.{err_from_is_err_and}
use Rattle.problem_import.specs.Imported.{import_letters_in}
use Rattle.import_claims.proofs.HeadedRows.{err_headed, ok_headed, stops_before}
use Rattle.import_claims.proofs.verifying_imports.verify_imported.Goals as goal

pub returns-in_err-put_header-clause-err : goal.returns-in_err-put_header-clause-err
returns-in_err-put_header-clause-err g c =
    let (other, is, same) = err_from_is_err_and c.from_residual.result c.from_residual.ensures.1 in
    rw (is, same) (stops_before (g.S.Source.holds c.args.source.now) (g.S.Source.refuses c.args.source.now) (import_letters_in c.args.asked.now.letters.now c.args.asked.now.placements.now) c.args.asked.now.bound
    c.args.asked.now.header c.args.asked.now.files.from (map (λ s. s.now) c.args.asked.now.files.names.now) _ _ _ c.in_err-put_header.ensures.err
    c.in_err-put_header.ensures.part)

pub returns-clause-ok : goal.returns-clause-ok
returns-clause-ok g c = ok_headed (g.S.Source.holds c.args.source.now) (import_letters_in c.args.asked.now.letters.now c.args.asked.now.placements.now) c.args.asked.now.bound c.args.asked.now.header c.args.asked.now.files.from
    (map (λ s. s.now) c.args.asked.now.files.names.now) c.show_rows.result (g.O.Write.contents c.args.out.now)
    (g.O.Write.contents c.put_header.new.out) (g.O.Write.contents c.show_rows.new.out) c.in_ok-put_header.ensures.ok c.show_rows.ensures.ok

pub returns-clause-err : goal.returns-clause-err
returns-clause-err g c = err_headed (g.S.Source.holds c.args.source.now) (g.S.Source.refuses c.args.source.now) (import_letters_in c.args.asked.now.letters.now c.args.asked.now.placements.now) c.args.asked.now.bound
    c.args.asked.now.header c.args.asked.now.files.from (map (λ s. s.now) c.args.asked.now.files.names.now) c.show_rows.result (g.O.Write.contents c.args.out.now)
    (g.O.Write.contents c.put_header.new.out) (g.O.Write.contents c.show_rows.new.out) c.in_ok-put_header.ensures.ok c.show_rows.ensures.err

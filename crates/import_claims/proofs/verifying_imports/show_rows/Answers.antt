use Rattle.std.proofs.Common.{refl}
use Rattle.std.proofs.KnownBytes.{Keeps-refl}
use Rattle.std.proofs.lemmas.Result.{err_from_is_err_and}
use Rattle.problem_import.specs.Imported.{import_letters_in}
use Rattle.import_claims.proofs.Unopened.{stops_at_once}
use Rattle.import_claims.proofs.VerifiedFiles.{shows_each, stops_between, stops_uncounted}
use Rattle.import_claims.proofs.verifying_imports.show_rows.Goals as goal

pub returns-in_err-memo-clause-err : goal.returns-in_err-memo-clause-err
returns-in_err-memo-clause-err g c =
    let (other, is, same) = err_from_is_err_and c.from_residual.result c.from_residual.ensures.1 in
    rw (is, same, c.in_err-memo.ensures.err) (stops_at_once (g.S.Source.holds c.args.source.now)
    (g.S.Source.refuses c.args.source.now) (import_letters_in c.args.asked.now.letters.now c.args.asked.now.placements.now) c.args.asked.now.bound _ _ _ _ (Keeps-refl (g.O.Write.contents c.args.out.now)))

pub returns-in_err-counts-in-Ok-clause-err : goal.returns-in_err-counts-in-Ok-clause-err
returns-in_err-counts-in-Ok-clause-err g c =
    let (other, is, same) = err_from_is_err_and c.from_residual-in_err-counts-in-Ok.result c.from_residual-in_err-counts-in-Ok.ensures.1 in
    rw (is, same)
    (stops_uncounted c.holds_reads.ensures.each (g.S.Source.holds c.args.source.now) (g.S.Source.refuses c.args.source.now) (import_letters_in c.args.asked.now.letters.now c.args.asked.now.placements.now)
    c.args.asked.now.bound c.args.asked.now.bound c.args.asked.now.files.from c.args.asked.now.files.names.now _ c.in-Ok.unsound
    (g.O.Write.contents c.args.out.now) (g.O.Write.contents c.answer_files.new.out) refl refl (rw c.said.ensures at c.in-Ok.ensures.ok))

pub returns-in-Ok-clause-ok : goal.returns-in-Ok-clause-ok
returns-in-Ok-clause-ok g c = shows_each (g.S.Source.holds c.args.source.now) (import_letters_in c.args.asked.now.letters.now c.args.asked.now.placements.now) c.args.asked.now.bound c.args.asked.now.bound
    c.args.asked.now.files.from c.args.asked.now.files.names.now _ c.in-Ok.unsound (g.O.Write.contents c.args.out.now)
    (g.O.Write.contents c.answer_files.new.out) refl refl (rw c.said.ensures at c.in-Ok.ensures.ok)

pub returns-clause-err : goal.returns-clause-err
returns-clause-err g c = stops_between (g.S.Source.holds c.args.source.now) (g.S.Source.refuses c.args.source.now) (import_letters_in c.args.asked.now.letters.now c.args.asked.now.placements.now)
    c.args.asked.now.bound c.args.asked.now.bound c.args.asked.now.files.from c.args.asked.now.files.names.now _ c.in-Err.stop
    (g.O.Write.contents c.args.out.now) (g.O.Write.contents c.answer_files.new.out) refl refl (rw c.said.ensures at c.in-Err.ensures.err)

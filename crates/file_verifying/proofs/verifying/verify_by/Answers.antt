use Rattle.std.proofs.Common.{map}
use Rattle.std.proofs.lemmas.Result.{err_from_is_err_and}
use Rattle.file_verifying.specs.Verified.{Verifies, claim_replies, first_claim_replies, has_several}
use Rattle.file_verifying.proofs.HeadedRows.{err_headed, ok_headed, stops_before}
use Rattle.file_verifying.proofs.Unopened.{verifies_none}
use Rattle.file_verifying.proofs.verifying.verify_by.Goals as goal

pub returns-in_err-put_header-clause-err : goal.returns-in_err-put_header-clause-err
returns-in_err-put_header-clause-err g c =
    let (other, is, same) = err_from_is_err_and c.from_residual.result c.from_residual.ensures.1 in
    let names = map (λ s. s.now) c.args.files.now.names.now in
    rw (is, same) (stops_before (g.S.Source.holds c.args.files.now.source.now) (g.S.Source.refuses c.args.files.now.source.now)
    (claim_replies (has_several names) (g.V.Verifier.default c.args.rows.now.by.now))
    (first_claim_replies (has_several names) (g.V.Verifier.default c.args.rows.now.by.now)) c.args.rows.now.header
    c.args.files.now.from names _ _ _ (verifies_none (g.S.Source.holds c.args.files.now.source.now) (g.V.Verifier.default c.args.rows.now.by.now)
    c.args.files.now.from names)
    c.in_err-put_header.ensures.err c.in_err-put_header.ensures.part)

pub returns-clause-ok : goal.returns-clause-ok
returns-clause-ok g c = ok_headed c.args.rows.now.header
    (λ unsound. Verifies (g.S.Source.holds c.args.files.now.source.now) (g.V.Verifier.default c.args.rows.now.by.now) c.args.files.now.from
    (map (λ s. s.now) c.args.files.now.names.now) unsound) c.verify_rows.result (g.O.Write.contents c.args.out.now)
    (g.O.Write.contents c.put_header.new.out) (g.O.Write.contents c.verify_rows.new.out) c.in_ok-put_header.ensures.ok c.verify_rows.ensures.ok

pub returns-clause-err : goal.returns-clause-err
returns-clause-err g c =
    let names = map (λ s. s.now) c.args.files.now.names.now in
    err_headed (g.S.Source.holds c.args.files.now.source.now) (g.S.Source.refuses c.args.files.now.source.now)
    (claim_replies (has_several names) (g.V.Verifier.default c.args.rows.now.by.now))
    (first_claim_replies (has_several names) (g.V.Verifier.default c.args.rows.now.by.now)) c.args.rows.now.header
    c.args.files.now.from names c.verify_rows.result (g.O.Write.contents c.args.out.now)
    (g.O.Write.contents c.put_header.new.out) (g.O.Write.contents c.verify_rows.new.out) c.in_ok-put_header.ensures.ok c.verify_rows.ensures.err

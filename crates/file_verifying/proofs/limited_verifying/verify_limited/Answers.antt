use Rattle.std.proofs.Common.{◌-◌, map}
use Rattle.std.proofs.lemmas.Result.{err_from_is_err_and}
use Rattle.file_verifying.specs.Verified.{VerifiesInTime, first_limited_claim_replies, has_several, limited_claim_replies}
use Rattle.file_verifying.proofs.HeadedRows.{err_headed, ok_headed, stops_before}
use Rattle.file_verifying.proofs.Unopened.{limited_none}
use Rattle.file_verifying.proofs.limited_verifying.verify_limited.Goals as goal

pub returns-in_err-put_header-clause-err : goal.returns-in_err-put_header-clause-err
returns-in_err-put_header-clause-err g c =
    let (other, is, same) = err_from_is_err_and c.from_residual.result c.from_residual.ensures.1 in
    let names = map (λ s. s.now) c.args.files.now.names.now in
    let stops = g.T.Halt.may_stop c.args.rows.now.by.now.limit.now in
    rw (is, same) (stops_before (g.S.Source.holds c.args.files.now.source.now) (g.S.Source.refuses c.args.files.now.source.now)
    (limited_claim_replies stops (has_several names) c.args.rows.now.by.now.default)
    (first_limited_claim_replies stops (has_several names) c.args.rows.now.by.now.default) c.args.rows.now.header c.args.files.now.from names _ _ _
    (limited_none (g.S.Source.holds c.args.files.now.source.now) stops c.args.rows.now.by.now.default c.args.files.now.from names)
    c.in_err-put_header.ensures.err c.in_err-put_header.ensures.part)

pub returns-clause-ok : goal.returns-clause-ok
returns-clause-ok g c = ok_headed c.args.rows.now.header
    (λ unsound. VerifiesInTime (g.S.Source.holds c.args.files.now.source.now) (g.T.Halt.may_stop c.args.rows.now.by.now.limit.now)
    c.args.rows.now.by.now.default c.args.files.now.from (map (λ s. s.now) c.args.files.now.names.now) unsound
    (c.verify_rows.new.memory.counts.undecided - c.args.memory.now.counts.undecided)) c.verify_rows.result (g.O.Write.contents c.args.out.now)
    (g.O.Write.contents c.put_header.new.out) (g.O.Write.contents c.verify_rows.new.out) c.in_ok-put_header.ensures.ok c.verify_rows.ensures.ok

pub returns-clause-err : goal.returns-clause-err
returns-clause-err g c =
    let names = map (λ s. s.now) c.args.files.now.names.now in
    let stops = g.T.Halt.may_stop c.args.rows.now.by.now.limit.now in
    err_headed (g.S.Source.holds c.args.files.now.source.now) (g.S.Source.refuses c.args.files.now.source.now)
    (limited_claim_replies stops (has_several names) c.args.rows.now.by.now.default)
    (first_limited_claim_replies stops (has_several names) c.args.rows.now.by.now.default) c.args.rows.now.header c.args.files.now.from names
    c.verify_rows.result (g.O.Write.contents c.args.out.now)
    (g.O.Write.contents c.put_header.new.out) (g.O.Write.contents c.verify_rows.new.out) c.in_ok-put_header.ensures.ok c.verify_rows.ensures.err

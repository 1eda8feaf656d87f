use Rattle.std.proofs.Common.{◌-◌, refl}
use Rattle.std.proofs.lemmas.Result.{err_from_is_err_and}
use Rattle.file_verifying.specs.Verified.{first_limited_claim_replies, limited_claim_replies, limited_claims_told}
use Rattle.file_verifying.proofs.VerifiedFiles.{stops_between, stops_uncounted, told_each}
use Rattle.file_verifying.proofs.limited_verifying.verify_rows.Goals as goal

pub returns-in_err-tell_counts-in-Ok-clause-err : goal.returns-in_err-tell_counts-in-Ok-clause-err
returns-in_err-tell_counts-in-Ok-clause-err g c =
    let (other, is, same) = err_from_is_err_and c.from_residual.result c.from_residual.ensures.1 in
    let bound = c.args.limited.now.default in
    let stops = g.T.Halt.may_stop c.args.limited.now.limit.now in
    rw (is, same)
    (stops_uncounted c.holds_reads.ensures.each (g.S.Source.holds c.args.files.now.source.now) (g.S.Source.refuses c.args.files.now.source.now)
    (λ b. limited_claim_replies stops b bound) (λ b. first_limited_claim_replies stops b bound) c.args.files.now.from c.args.files.now.names.now _
    c.in-Ok.unsound (g.O.Write.contents c.args.out.now) (g.O.Write.contents c.answer_files.new.out) refl c.in-Ok.ensures.ok)

pub returns-in_ok-tell_counts-in-Ok-clause-ok : goal.returns-in_ok-tell_counts-in-Ok-clause-ok
returns-in_ok-tell_counts-in-Ok-clause-ok g c = told_each (g.S.Source.holds c.args.files.now.source.now)
    (λ b. limited_claims_told (g.T.Halt.may_stop c.args.limited.now.limit.now) b c.args.limited.now.default) c.args.files.now.from c.args.files.now.names.now _ c.in-Ok.unsound
    (c.answer_files.new.memory.counts.undecided - c.args.memory.now.counts.undecided) (g.O.Write.contents c.args.out.now)
    (g.O.Write.contents c.answer_files.new.out) refl c.in-Ok.ensures.told

pub returns-in-Err-clause-err : goal.returns-in-Err-clause-err
returns-in-Err-clause-err g c =
    let bound = c.args.limited.now.default in
    let stops = g.T.Halt.may_stop c.args.limited.now.limit.now in
    stops_between (g.S.Source.holds c.args.files.now.source.now) (g.S.Source.refuses c.args.files.now.source.now)
    (λ b. limited_claim_replies stops b bound) (λ b. first_limited_claim_replies stops b bound) c.args.files.now.from c.args.files.now.names.now _
    c.in-Err.stop (g.O.Write.contents c.args.out.now) (g.O.Write.contents c.answer_files.new.out) refl c.in-Err.ensures.err

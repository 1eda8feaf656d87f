use Rattle.std.proofs.Common.{[], map}
use Rattle.std.proofs.lemmas.Result.{err_from_is_err_and}
use Rattle.json_replies.specs.declared.replies.Form.TheVariants.{Row}
use Rattle.mate_claims.specs.LimitedClaims.{IsLateClaim, IsLimitedClaim}
use Rattle.json_commands.proofs.SeveralFiles.{stops_between, stops_uncounted, told_at_once}
use Rattle.json_commands.proofs.limited_verifying.verify_json_limited.Goals as goal

pub returns-in_err-tell_counts-in-Ok-clause-err : goal.returns-in_err-tell_counts-in-Ok-clause-err
returns-in_err-tell_counts-in-Ok-clause-err g c =
    let (other, is, same) = err_from_is_err_and c.from_residual.result c.from_residual.ensures.1 in
    rw (is, same)
    (stops_uncounted (g.S.Source.holds c.args.files.now.source.now) (g.S.Source.refuses c.args.files.now.source.now) Row
    (IsLimitedClaim (g.T.Halt.may_stop c.args.limited.now.limit.now) [] c.args.limited.now.default)
    c.args.files.now.from (map (λ s. s.now) c.args.files.now.names.now) c.has_several.result (g.O.Write.contents c.args.out.now)
    (g.O.Write.contents c.answer_files.new.out) c.holds_reads.ensures.each c.in-Ok.unsound c.has_several.ensures c.in-Ok.ensures.ok)

pub returns-in_ok-tell_counts-in-Ok-clause-ok : goal.returns-in_ok-tell_counts-in-Ok-clause-ok
returns-in_ok-tell_counts-in-Ok-clause-ok g c = told_at_once (g.S.Source.holds c.args.files.now.source.now)
    (g.S.Source.refuses c.args.files.now.source.now) Row
    (IsLimitedClaim (g.T.Halt.may_stop c.args.limited.now.limit.now) [] c.args.limited.now.default) c.args.files.now.from (map (λ s. s.now) c.args.files.now.names.now) c.has_several.result
    (g.O.Write.contents c.args.out.now) (g.O.Write.contents c.answer_files.new.out) (IsLateClaim (g.T.Halt.may_stop c.args.limited.now.limit.now) [] c.args.limited.now.default) _
    c.in-Ok.unsound c.has_several.ensures c.in-Ok.ensures.told

pub returns-in-Err-clause-err : goal.returns-in-Err-clause-err
returns-in-Err-clause-err g c = stops_between (g.S.Source.holds c.args.files.now.source.now) (g.S.Source.refuses c.args.files.now.source.now) Row
    (IsLimitedClaim (g.T.Halt.may_stop c.args.limited.now.limit.now) [] c.args.limited.now.default) c.args.files.now.from (map (λ s. s.now) c.args.files.now.names.now) c.has_several.result
    (g.O.Write.contents c.args.out.now) (g.O.Write.contents c.answer_files.new.out) c.in-Err.stop c.has_several.ensures c.in-Err.ensures.err

use Rattle.std.proofs.Common.{[], map}
use Rattle.std.proofs.KnownBytes.{Keeps-refl}
use Rattle.std.proofs.lemmas.Result.{err_from_is_err_and}
use Rattle.json_replies.specs.declared.replies.Form.TheVariants.{Row}
use Rattle.mate_claims.specs.ClaimReplies.{IsClaimReply}
use Rattle.json_commands.proofs.SeveralFiles.{answers_each, stops_between, stops_uncounted}
use Rattle.json_commands.proofs.Unopened.{stops_at_once}
use Rattle.json_commands.proofs.verifying.verify_json.Goals as goal

pub returns-in_err-memo-clause-err : goal.returns-in_err-memo-clause-err
returns-in_err-memo-clause-err g c =
    let (other, is, same) = err_from_is_err_and c.from_residual.result c.from_residual.ensures.1 in
    rw (is, same, c.in_err-memo.ensures.err) (stops_at_once (g.S.Source.holds c.args.source.now)
    (g.S.Source.refuses c.args.source.now) Row (IsClaimReply [] c.args.asked.now.bound) _ _ _ _ (Keeps-refl (g.O.Write.contents c.args.out.now)))

pub returns-in_err-tell_counts-in-Ok-clause-err : goal.returns-in_err-tell_counts-in-Ok-clause-err
returns-in_err-tell_counts-in-Ok-clause-err g c =
    let (other, is, same) = err_from_is_err_and c.from_residual-in_err-tell_counts-in-Ok.result c.from_residual-in_err-tell_counts-in-Ok.ensures.1 in
    rw (is, same)
    (stops_uncounted (g.S.Source.holds c.args.source.now) (g.S.Source.refuses c.args.source.now) Row (IsClaimReply [] c.args.asked.now.bound)
    c.args.asked.now.files.from (map (λ s. s.now) c.args.asked.now.files.names.now) c.has_several.result (g.O.Write.contents c.args.out.now)
    (g.O.Write.contents c.answer_files.new.out) c.holds_reads.ensures.each c.in-Ok.unsound c.has_several.ensures c.in-Ok.ensures.ok)

pub returns-in-Ok-clause-ok : goal.returns-in-Ok-clause-ok
returns-in-Ok-clause-ok g c = answers_each (g.S.Source.holds c.args.source.now) (g.S.Source.refuses c.args.source.now) Row
    (IsClaimReply [] c.args.asked.now.bound) c.args.asked.now.files.from (map (λ s. s.now) c.args.asked.now.files.names.now) c.has_several.result
    (g.O.Write.contents c.args.out.now) (g.O.Write.contents c.answer_files.new.out) c.in-Ok.unsound c.has_several.ensures c.in-Ok.ensures.ok

pub returns-clause-err : goal.returns-clause-err
returns-clause-err g c = stops_between (g.S.Source.holds c.args.source.now) (g.S.Source.refuses c.args.source.now) Row
    (IsClaimReply [] c.args.asked.now.bound) c.args.asked.now.files.from (map (λ s. s.now) c.args.asked.now.files.names.now) c.has_several.result
    (g.O.Write.contents c.args.out.now) (g.O.Write.contents c.answer_files.new.out) c.in-Err.stop c.has_several.ensures c.in-Err.ensures.err

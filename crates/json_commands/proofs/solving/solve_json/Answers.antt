use Rattle.std.proofs.KnownBytes.{Keeps-refl}
use Rattle.std.proofs.lemmas.Result.{err_from_is_err_and}
use Rattle.json_replies.specs.declared.replies.Form.TheVariants.{Answer}
use Rattle.mate_answers.specs.InputReplies.{IsLineReply}
use Rattle.json_commands.proofs.Unopened.{stops_at_once}
use Rattle.json_commands.proofs.solving.solve_json.Goals as goal

pub returns-in_err-memo-clause-err : goal.returns-in_err-memo-clause-err
returns-in_err-memo-clause-err g c =
    let (other, is, same) = err_from_is_err_and c.from_residual.result c.from_residual.ensures.1 in
    rw (is, same, c.in_err-memo.ensures.err) (stops_at_once (g.S.Source.holds c.args.source.now)
    (g.S.Source.refuses c.args.source.now) Answer (IsLineReply c.args.asked.now.bound) _ _ _ _ (Keeps-refl (g.O.Write.contents c.args.out.now)))

use Rattle.std.proofs.KnownBytes.{Keeps-refl}
use Rattle.std.proofs.lemmas.Result.{err_from_is_err_and}
use Rattle.json_replies.specs.declared.replies.Form.TheVariants.{Tree}
use Rattle.mate_tree.specs.TreeReplies.{IsTreeReply}
use Rattle.plain_commands.specs.Told.{tree_form_of}
use Rattle.plain_commands.proofs.Unopened.{json_at_once}
use Rattle.plain_commands.proofs.telling.tree_json.Goals as goal

pub returns-in_err-memo-clause-err : goal.returns-in_err-memo-clause-err
returns-in_err-memo-clause-err g c =
    let (other, is, same) = err_from_is_err_and c.from_residual.result c.from_residual.ensures.1 in
    rw (is, same, c.in_err-memo.ensures.err) (json_at_once (g.S.Source.holds c.args.source.now)
    (g.S.Source.refuses c.args.source.now) Tree (IsTreeReply (tree_form_of c.args.asked.now.form c.args.asked.now.letters.now) c.args.asked.now.bound) _ _ _ _
    (Keeps-refl (g.O.Write.contents c.args.out.now)))

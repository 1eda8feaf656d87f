use Rattle.std.proofs.Common.{◌∙◌}
use Rattle.std.proofs.KnownBytes.{Keeps-refl}
use Rattle.mate_tree.proofs.RefusedLines.{refusal_breaks}
use Rattle.mate_tree.proofs.tree_replies.write_refused.Goals as goal

pub returns-in-Ok-clause-err : goal.returns-in-Ok-clause-err
returns-in-Ok-clause-err g c =
    refusal_breaks _ _ c.args.number c.args.fault c.in-Err-put.stop c.as_slice.result.now c.in-Ok.ensures.fault
    (c.as_slice.ensures.value ∙ c.in-Ok.ensures.text) c.in-Err-put.ensures.err c.in-Err-put.ensures.part

pub returns-clause-err : goal.returns-clause-err
returns-clause-err g c = Keeps-refl (g.O.Write.contents c.args.out.now)

use Rattle.std.proofs.Common.{OnOk, IfErr, rules, subst, ◌∙◌}
use Rattle.std.proofs.KnownBytes.{Keeps-refl}
use Rattle.std.specs.Io.KnownBytes.{Appends}
use Rattle.text_lines.specs.Writers.{BreaksOff}
use Rattle.mate_tree.specs.TreeReplies.{tree_reply}
use Rattle.mate_tree.specs.inside.Replies.{IsJust}
use Rattle.mate_tree.proofs.WrittenTrees.{finished_err, finished_ok}
use Rattle.mate_tree.proofs.tree_replies.write_solved.Goals as goal

pub returns-in-Ok-clause-ok : goal.returns-in-Ok-clause-ok
returns-in-Ok-clause-ok g c =
    subst (λ out. OnOk c.finish.result (Appends (g.O.Write.contents c.args.out.now) (g.O.Write.contents out)
    (tree_reply c.args.shown.form c.args.record.now))) (search rules)
    (finished_ok c.args.shown.form c.args.record.now c.args.outcome.now c.as_slice.result.now c.closing-closing.result.now
    c.finish.result c.requires.truth (c.as_slice.ensures.value ∙ c.in-Ok.ensures) c.new.ensures c.add.ensures c.write_tree.ensures
    c.closing-closing.ensures c.finish.ensures.stays c.finish.ensures.ok)

pub returns-in-Ok-clause-err : goal.returns-in-Ok-clause-err
returns-in-Ok-clause-err g c =
    subst (λ out. IfErr c.finish.result (BreaksOff (IsJust (tree_reply c.args.shown.form c.args.record.now) 0)
    (g.O.Write.contents c.args.out.now) (g.O.Write.contents out))) (search rules)
    (finished_err c.args.shown.form c.args.record.now c.args.outcome.now c.as_slice.result.now c.closing-closing.result.now
    c.finish.result c.requires.truth (c.as_slice.ensures.value ∙ c.in-Ok.ensures) c.new.ensures c.add.ensures c.write_tree.ensures
    c.closing-closing.ensures c.finish.ensures.stays c.finish.ensures.err)

pub returns-in-Err-clause-err : goal.returns-in-Err-clause-err
returns-in-Err-clause-err g c = Keeps-refl (g.O.Write.contents c.args.out.now)

use Rattle.std.proofs.Common.{◌∙◌, ◌-◌, ap}
use Rattle.chess_notation.specs.Records.{RecordValue, problem_of}
use Rattle.mate_tree.specs.Trees.{tree_lines}
use Rattle.mate_tree.proofs.AddedLines.{adds_none}
use Rattle.mate_tree.proofs.WrittenTrees.{mate_written}
use Rattle.mate_tree.proofs.trees.write_tree.Goals as goal

pub returns-in-Mate : goal.returns-in-Mate
unfolding tree_lines
returns-in-Mate g c =
    let at = ap (λ (r : RecordValue). r.position) c.record.view_is in
    let shown = c.saturating_sub.ensures ∙ ap (λ d. d - 1) c.moves_shown.ensures in
    rw (c.in-Mate.is, ← c.get-n.ensures.moves, ← c.as_slice.ensures.value)
    (mate_written c.args.form.now (problem_of c.args.record.now) _ c.get-n.result c.saturating_sub.result c.as_slice.result.now at shown
    c.write_set_if_asked.ensures c.write_keys.ensures c.write_tries_if_asked.ensures)

pub returns-in-NoMate : goal.returns-in-NoMate
unfolding tree_lines
returns-in-NoMate g c = rw (c.in-NoMate.is) (adds_none c.args.writer.now)

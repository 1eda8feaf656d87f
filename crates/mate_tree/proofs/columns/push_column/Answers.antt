use Rattle.std.proofs.Common.{◌≡◌, ◌++◌, rules, subst}
use Rattle.std.specs.Prelude.{ℕ, List}
use Rattle.mate_tree.specs.Layouts.{column_text}
use Rattle.mate_tree.specs.Trees.{shown_lines, tree_lines}
use Rattle.chess_notation.specs.Records.{problem_of}
use Rattle.mate_tree.proofs.WrittenTrees.{column_added}
use Rattle.mate_tree.proofs.columns.push_column.Goals as goal

pub returns-in-Ok-clause-text : goal.returns-in-Ok-clause-text
returns-in-Ok-clause-text c =
    let lines = tree_lines c.args.form (problem_of c.args.record.now) c.args.outcome.now in
    subst (λ (new : List ℕ). new ≡ c.args.text.now.items ++ column_text (shown_lines c.args.form lines)) (search rules)
    (column_added c.args.form lines c.args.text.now.items c.finish.new.self.out.now.items _ c.new.result c.write_tree.new.writer.sheet
    c.requires.column c.new.ensures c.write_tree.ensures.brings.goes c.in-Ok.ensures.ok)

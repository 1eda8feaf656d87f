use Rattle.std.proofs.Common.{◌∙◌, ◌++◌, ap}
use Rattle.problem_sheets.specs.Diagrams.{shape_at}
use Rattle.problem_sheets.proofs.Numbered.{squares_more, squares_none}
use Rattle.problem_sheets.proofs.diagrams.push_shapes.Goals as goal

pub loop-number-init : goal.loop-number-init
loop-number-init c = squares_none c.args.text.now.items (shape_at c.args.from c.args.position.now.men)

pub loop-number-preserved : goal.loop-number-preserved
loop-number-preserved c =
    squares_more c.args.text.now.items c.loop-number.text.items c.push_shape_at.new.text.items c.loop-number.number
    (shape_at c.args.from c.args.position.now.men) c.loop-number.invariant
    (c.in_ok-push_shape_at.ensures ∙ ap (λ s. c.loop-number.text.items ++ shape_at c.args.from c.args.position.now.men s) c.numbered.ensures)

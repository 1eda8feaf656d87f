use Rattle.std.proofs.Common.{◌∙◌, ◌++◌, ap}
use Rattle.problem_sheets.specs.Solutions.{figurine}
use Rattle.problem_sheets.proofs.TextsInTurn.{turn_more, turn_none}
use Rattle.problem_sheets.proofs.solutions.push_moves.Goals as goal

pub loop-byte-init : goal.loop-byte-init
loop-byte-init c = turn_none figurine c.args.text.now.items c.args.moves.now

pub loop-byte-preserved : goal.loop-byte-preserved
loop-byte-preserved c =
    turn_more figurine c.args.text.now.items c.loop-byte.text.items c.extend_from_slice-in-loop-byte.new.self.items c.args.moves.now
    c.loop-byte.byte-index c.loop-byte-test.true c.loop-byte.invariant
    (c.in_ok-extend_from_slice.ensures.items ∙ ap (λ t. c.loop-byte.text.items ++ t) c.figurine.ensures)

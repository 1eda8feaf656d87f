use Rattle.std.proofs.Common.{◌≡◌, ◌∙◌, not, ap, sym}
use Rattle.std.specs.List.{list_any}
use Rattle.chess_board.specs.Moves.{Move}
use Rattle.chess_problems.specs.SameProblems.{is_same_move}
use Rattle.uci_commands.proofs.MovesKept.{kept_more, left_out}
use Rattle.uci_commands.proofs.move_searches.all_but.Goals as goal
use Rattle.uci_commands.proofs.move_searches.all_but.Goals.{then-not-is_among+else-is_full, else-not-is_among}

pub loop-m-preserved : goal.loop-m-preserved
loop-m-preserved c =
    let p = λ (m : Move). not (list_any (is_same_move m) c.args.moves.now) in
    let said : p c.m-item.result ≡ not c.is_among.result = ap not (sym c.is_among.ensures) in
    elim c.if-not-is_among.branch [
      | then-not-is_among+else-is_full w ↦
          kept_more p c.as_slice-m-items.result.now c.loop-m.m-index c.m-item.result c.loop-m.avoid.items c.if-not-is_among.avoid.items
          c.loop-m-test.true c.m-item.is (said ∙ ap not w.if-not-is_among.true) c.loop-m.invariant (ap (λ a. a.items) w.avoid-is ∙ w.push.ensures.items)
      | else-not-is_among w ↦
          ap (λ a. a.items) w.avoid-is
          ∙ left_out p c.as_slice-m-items.result.now c.loop-m.m-index c.m-item.result c.loop-m.avoid.items
          c.loop-m-test.true c.m-item.is (said ∙ ap not w.if-not-is_among.false) c.loop-m.invariant
    ]

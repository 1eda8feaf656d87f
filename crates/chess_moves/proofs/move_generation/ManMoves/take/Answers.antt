use Rattle.std.proofs.Common.{◌≡◌, ℕ, None, Some, sym, ◌∙◌}
use Rattle.chess_moves.specs.inside.MoveGeneration.{next_promotion}
use Rattle.chess_moves.proofs.Walks.{promotion_at, first_move}
use Rattle.chess_moves.proofs.move_generation.ManMoves.take.Goals as goal
use Rattle.chess_moves.proofs.move_generation.ManMoves.take.Goals.{then-contains, else-contains, in-Some, in-None}

pub returns-clause-moves : goal.returns-clause-moves
returns-clause-moves c =
    let now = c.args.self.now in
    let target : ℕ = c.lowest-target.result in
    let lowest = c.lowest-target.ensures in
    let test = sym (c.promotion_squares.ensures target lowest.on_board) ∙ sym c.contains.ensures in
    let promotion : c.if-contains.promotion ≡ promotion_at now.promotion now.mover.man target = elim c.if-contains.branch [
      | then-contains w ↦ let yes' = test ∙ w.if-contains.true in rw yes' w.promotion-is
      | else-contains w ↦ let no' = test ∙ w.if-contains.false in rw no' w.promotion-is
    ] in
    let first = rw (← promotion) at (first_move now.promotion now.mover.man now.mover.origin now.targets target c.without_lowest-others.result
    (c.without_lowest-others.ensures target lowest)) in
    elim c.match-next_promotion.branch [
      | in-Some w ↦
          let later : next_promotion c.if-contains.promotion ≡ Some w.in-Some.kind = sym c.next_promotion.ensures ∙ w.in-Some.is in
          rw (c.numbered.ensures, c.numbered-2.ensures, w.self-is) (rw later at first)
      | in-None w ↦
          let last : next_promotion c.if-contains.promotion ≡ None = sym c.next_promotion.ensures ∙ w.in-None.is in
          rw (c.numbered.ensures, c.numbered-2.ensures, w.self-is) (rw last at first)
    ]

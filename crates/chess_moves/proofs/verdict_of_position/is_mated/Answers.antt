use Rattle.std.proofs.Common.{◌≡◌, true, false, refl, sym, ap, ◌∙◌, arith}
use Rattle.std.proofs.Math.Bool.{and-false}
use Rattle.chess_board.specs.Attacks.{is_in_check}
use Rattle.chess_moves.specs.Verdicts.{has_legal_move, is_mate}
use Rattle.chess_moves.proofs.Mates.{king_moves, others_are_own, moves_apart, mate_by}
use Rattle.chess_moves.proofs.verdict_of_position.is_mated.Goals as goal

pub returns-then-not-in_check : goal.returns-then-not-in_check
returns-then-not-in_check c =
    let p = c.args.position.now in
    let none : is_in_check p.men p.side ≡ false = sym c.in_check.ensures ∙ c.if-not-in_check.true in
    sym (mate_by p false (has_legal_move p) none refl)

pub returns-then-king_can_move : goal.returns-then-king_can_move
returns-then-king_can_move c =
    let bare = c.bare_info_of-bare in
    let p = bare.result.position.now in
    sym (mate_by p (is_in_check p.men p.side) true refl (king_moves bare.result p
    bare.ensures.info (sym c.king_can_move.ensures ∙ c.if-king_can_move.true))
    ∙ and-false (is_in_check p.men p.side)) ∙ ap is_mate bare.ensures.position

pub can_move-requires-clause-men : goal.can_move-requires-clause-men
can_move-requires-clause-men c =
    let bare = c.bare_info_of-bare in
    rw c.with_checks_and_pins-info.ensures.position
    (others_are_own bare.result.position.now bare.result.own c.single-king.result (omega arith) bare.ensures.info.own)

pub returns : goal.returns
returns c =
    let bare = c.bare_info_of-bare in
    let p = bare.result.position.now in
    let at = bare.ensures.position in
    let check : is_in_check p.men p.side ≡ true =
    ap (λ s. is_in_check s.men s.side) at ∙ sym c.in_check.ensures ∙ c.if-not-in_check.false in
    let apart = moves_apart bare.result p c.single-king.result bare.ensures.info (omega arith) c.single-king.ensures in
    let moves = rw c.with_checks_and_pins-info.ensures.position at c.can_move.ensures in
    let others : has_legal_move p ≡ c.can_move.result =
    (rw (sym c.king_can_move.ensures ∙ c.if-king_can_move.false) at apart) ∙ sym moves in
    sym (mate_by p true c.can_move.result check others) ∙ ap is_mate at

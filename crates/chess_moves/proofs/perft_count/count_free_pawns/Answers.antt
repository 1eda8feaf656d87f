use Rattle.std.proofs.Common.{ℕ, ◌<◌, ◌^◌, not, ◌&&◌, Bool, bit_and, eqb, ap, ◌∙◌, arith, w64}
use Rattle.std.specs.Int.{bit_not}
use Rattle.square_sets.specs.Members.{has}
use Rattle.chess_board.specs.Men.{is_of}
use Rattle.chess_board.specs.Positions.{man_at}
use Rattle.chess_board.specs.Sets.{IsSetOf}
use Rattle.chess_board.specs.Squares.{file_of, rank_of}
use Rattle.chess_moves.specs.inside.Shifts.{is_shifted, back, left_file, right_file, third_rank}
use Rattle.chess_moves.proofs.SetBits.{has_and, has_less}
use Rattle.chess_moves.proofs.SetParts.{part, parted}
use Rattle.chess_moves.proofs.ManSets.{some_not_of}
use Rattle.chess_moves.proofs.Connectives.{and_when}
use Rattle.chess_moves.proofs.PawnShifts.{back_on}
use Rattle.chess_moves.proofs.PawnCounts.{free_pawns}
use Rattle.chess_moves.proofs.perft_count.count_free_pawns.Goals as goal

pub returns-clause-count : goal.returns-clause-count
returns-clause-count c =
    let info = c.args.info.now in
    let p = info.position.now in
    let h = c.requires.info in
    let side = info.side in
    let occupied : ℕ = info.occupied in
    let own : ℕ = info.own in
    let pawns : ℕ = c.args.pawns in
    let fits : occupied < 2 ^ 64 = omega arith in
    let own_fits : own < 2 ^ 64 = omega arith in
    let left_fits : c.left_file.result < 2 ^ 64 = omega arith in
    let right_fits : c.right_file.result < 2 ^ 64 = omega arith in
    let own_set : IsSetOf own (is_of side) p.men = rw h.side h.own in
    let once : ℕ = bit_and c.shifted.result (bit_not w64 occupied) in
    let twice : ℕ = bit_and c.shifted-2.result (bit_not w64 occupied) in
    let enemies : ℕ = bit_and occupied (bit_not w64 own) in
    let enemies_are = λ (t : ℕ) (l : t < 64). parted occupied own t _ _ own_fits l (h.occupied t l) (own_set t l)
    ∙ some_not_of side (man_at p.men t) in
    let third = λ (t : ℕ) (l : t < 64). and_when (is_shifted side 8 t) (has (bit_and once c.third_rank.result) (back side 8 t))
    (has once (back side 8 t) && eqb (rank_of (back side 8 t)) (third_rank side)) (λ e.
    let s_on = back_on side 8 t l e in has_and once c.third_rank.result (back side 8 t)
    ∙ ap (λ (x : Bool). has once (back side 8 t) && x) (c.third_rank.ensures (back side 8 t) s_on)) in
    let lefts = λ (t : ℕ) (l : t < 64). and_when (is_shifted side 7 t) (has (bit_and pawns (bit_not w64 c.left_file.result))
    (back side 7 t)) (has pawns (back side 7 t) && not (eqb (file_of (back side 7 t)) (left_file side))) (λ e.
    let s_on = back_on side 7 t l e in has_less pawns c.left_file.result (back side 7 t) left_fits s_on
    ∙ ap (λ (x : Bool). has pawns (back side 7 t) && not x) (c.left_file.ensures (back side 7 t) s_on)) in
    let rights = λ (t : ℕ) (l : t < 64). and_when (is_shifted side 9 t) (has (bit_and pawns (bit_not w64 c.right_file.result))
    (back side 9 t)) (has pawns (back side 9 t) && not (eqb (file_of (back side 9 t)) (right_file side))) (λ e.
    let s_on = back_on side 9 t l e in has_less pawns c.right_file.result (back side 9 t) right_fits s_on
    ∙ ap (λ (x : Bool). has pawns (back side 9 t) && not x) (c.right_file.ensures (back side 9 t) s_on)) in
    let counted = free_pawns info p pawns once twice (bit_and c.shifted-3.result enemies) (bit_and c.shifted-4.result enemies) h c.requires.men c.requires.free
    (λ t l. parted c.shifted.result occupied t _ _ fits l (c.shifted.ensures t l) (h.occupied t l))
    (λ t l. parted c.shifted-2.result occupied t _ _ fits l (c.shifted-2.ensures t l ∙ third t l) (h.occupied t l))
    (λ t l. part c.shifted-3.result enemies t _ _ (c.shifted-3.ensures t l ∙ lefts t l) (enemies_are t l))
    (λ t l. part c.shifted-4.result enemies t _ _ (c.shifted-4.ensures t l ∙ rights t l) (enemies_are t l)) in
    omega (
      arith,
      counted,
      c.count_ways.ensures.count 0,
      c.count_ways-2.ensures.count 0,
      c.count_ways-3.ensures.count 0,
      c.count_ways-4.ensures.count 0,
    )

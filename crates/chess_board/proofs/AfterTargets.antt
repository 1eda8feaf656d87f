-- After a double step the target has its pawn, and after any other move there is none.
use Rattle.std.proofs.Common.{◌≡◌, ◌≢◌, ◌⊎◌, ℕ, ◌+◌, ◌-◌, true, false, cond, ◌&&◌, eqb, Some, None, refl, ap, ◌∙◌, inl, inr, arith}
use Rattle.std.specs.Option.{option_map_or}
use Rattle.std.proofs.lemmas.Bool.{eqb-true}
use Rattle.chess_board.specs.declared.men.Colour.{Colour}
use Rattle.chess_board.specs.declared.men.Colour.TheVariants.{White, Black}
use Rattle.chess_board.specs.declared.men.Kind.{Kind}
use Rattle.chess_board.specs.declared.men.Kind.TheVariants.{Pawn, Knight, Bishop, Rook, Queen, King}
use Rattle.chess_board.specs.Moves.{Move}
use Rattle.chess_board.specs.Squares.{rank_of, rank_gap, crossed}
use Rattle.chess_board.specs.Positions.{Setup, man_at, moved}
use Rattle.chess_board.specs.Men.{other_side, man_of}
use Rattle.chess_board.specs.Attacks.{is_forward}
use Rattle.chess_board.specs.Soundness.{has_pawn_of_target}
use Rattle.chess_board.specs.PseudoLegal.{second_rank, steps_twice, pawn_goes, promotes}
use Rattle.chess_board.specs.MakeMove.{becomes, men_after}
use Rattle.chess_board.specs.EnPassant.{target_after}
use Rattle.chess_board.proofs.MenMoved.{moved_other, moved_origin, moved_target}
use Rattle.chess_board.proofs.Movers.{a_man, Mover, Shape, stays_unpromoted}
use Rattle.chess_board.proofs.PawnShapes.{pawn_steps, twice_parts}

-- A double step is a plain move of a pawn that stays one.
double_men : (p : Setup) (colour : Colour) (m : Move) → Mover p colour Pawn m → Shape p colour Pawn m
    → steps_twice p.men colour m.origin m.target ≡ true →
    men_after p (a_man colour Pawn) m ≡ moved p.men m.origin m.target (a_man colour Pawn)
double_men p colour m h (inl s) twice =
    s.men ∙ ap (λ o. moved p.men m.origin m.target (becomes (a_man colour Pawn) o))
    (stays_unpromoted (a_man colour Pawn) m.target m.promotion h.suit (not_last colour m.origin m.target twice))
  where
    not_last : (colour : Colour) (a b : ℕ) → steps_twice p.men colour a b ≡ true → promotes (a_man colour Pawn) b ≡ false
    not_last White a b t = let q = twice_parts p.men White a b t in let r = eqb-true (rank_of b) (rank_of a + 2) q.0 in
        let x : rank_of b ≡ 3 = omega arith in rw x refl
    not_last Black a b t = let q = twice_parts p.men Black a b t in let r = eqb-true (rank_of a) (rank_of b + 2) q.0 in
        let x : rank_of b ≡ 4 = omega arith in rw x refl
double_men p colour m h (inr (inl s)) twice =
    let low = s.low in let high = s.high in let rank = (twice_parts p.men colour m.origin m.target twice).2 in
    absurd (elim (second_edge colour) [ inl e ↦ omega arith | inr e ↦ omega arith ])
  where
    second_edge : (c : Colour) → (second_rank c ≡ 1) ⊎ (second_rank c ≡ 6)
    second_edge White = inl refl
    second_edge Black = inr refl
double_men p colour m h (inr (inr (inl s))) twice = let k = s.king in cc
double_men p colour m h (inr (inr (inr s))) twice = let k = s.king in cc

-- the squares of a double step: the middle one, the one beyond it and the one before it
record DoubleStep (p : Setup) (colour : Colour) (m : Move) : Type 0 where
  middle : man_at (men_after p (a_man colour Pawn) m) (crossed m.origin m.target) ≡ None
  front : man_at (men_after p (a_man colour Pawn) m) m.target ≡ man_of colour Pawn
  back : man_at (men_after p (a_man colour Pawn) m) m.origin ≡ None

double_step : (p : Setup) (colour : Colour) (m : Move) → Mover p colour Pawn m → Shape p colour Pawn m
    → steps_twice p.men colour m.origin m.target ≡ true →
    m.origin ≢ m.target → crossed m.origin m.target ≢ m.origin → crossed m.origin m.target ≢ m.target → DoubleStep p colour m
double_step p colour m h sh twice apart from to =
    let men = double_men p colour m h sh twice in
    let long = h.sound.squares in let a_on = h.a_on in let b_on = h.b_on in
    let empty = (twice_parts p.men colour m.origin m.target twice).3 in
    record {
      middle = rw men (moved_other p.men m.origin m.target (a_man colour Pawn) (crossed m.origin m.target) from to ∙ empty);
      front = rw men (moved_target p.men m.origin m.target (a_man colour Pawn) (omega arith));
      back = rw men (moved_origin p.men m.origin m.target (a_man colour Pawn) (omega arith) apart);
    }

double_target : (p : Setup) (colour : Colour) (m : Move) → Mover p colour Pawn m → Shape p colour Pawn m
    → steps_twice p.men colour m.origin m.target ≡ true →
    has_pawn_of_target (men_after p (a_man colour Pawn) m) (other_side colour) (crossed m.origin m.target) ≡ true
double_target p White m h sh twice =
    let q = twice_parts p.men White m.origin m.target twice in
    let r = eqb-true (rank_of m.target) (rank_of m.origin + 2) q.0 in
    let d = double_step p White m h sh twice (λ e. omega arith) (λ e. omega arith) (λ e. omega arith) in
    let up : crossed m.origin m.target + 8 ≡ m.target = omega arith in
    let down : crossed m.origin m.target - 8 ≡ m.origin = omega arith in
    let rank : rank_of (crossed m.origin m.target) ≡ 2 = omega arith in
    rw (up, down, rank, d.middle, d.front, d.back) refl
double_target p Black m h sh twice =
    let q = twice_parts p.men Black m.origin m.target twice in
    let r = eqb-true (rank_of m.origin) (rank_of m.target + 2) q.0 in
    let d = double_step p Black m h sh twice (λ e. omega arith) (λ e. omega arith) (λ e. omega arith) in
    let up : crossed m.origin m.target + 8 ≡ m.origin = omega arith in
    let down : crossed m.origin m.target - 8 ≡ m.target = omega arith in
    let rank : rank_of (crossed m.origin m.target) ≡ 5 = omega arith in
    rw (up, down, rank, d.middle, d.front, d.back) refl

-- A pawn that goes two ranks makes a double step.
two_ranks : (p : Setup) (colour : Colour) (a b : ℕ) → pawn_goes p colour a b ≡ true → rank_gap a b ≡ 2 → steps_twice p.men colour a b ≡ true
two_ranks p colour a b h two = elim (pawn_steps p colour a b h) [
  | inl once ↦ absurd (one_rank colour once)
  | inr twice ↦ twice
]
  where
    one_rank : (colour : Colour) → is_forward colour 1 a b ≡ true → ⊥
    one_rank White f = let r = eqb-true (rank_of b) (rank_of a + 1) f in omega arith
    one_rank Black f = let r = eqb-true (rank_of a) (rank_of b + 1) f in omega arith

pub target_kept : (p : Setup) (colour : Colour) (kind : Kind) (m : Move) → Mover p colour kind m → Shape p colour kind m →
    option_map_or (has_pawn_of_target (men_after p (a_man colour kind) m) (other_side colour)) (target_after (a_man colour kind) m) true ≡ true
target_kept p colour Pawn m h sh =
    let held = has_pawn_of_target (men_after p (a_man colour Pawn) m) (other_side colour) in
    (elim (eqb (rank_gap m.origin m.target) 2) as (λ b. eqb (rank_gap m.origin m.target) 2 ≡ b
    → option_map_or held (cond (true && b) (Some (crossed m.origin m.target)) None) true ≡ true) [
      | false ↦ λ e. refl
      | true ↦ λ e. double_target p colour m h sh (two_ranks p colour m.origin m.target h.goes (eqb-true (rank_gap m.origin m.target) 2 e))
    ]) refl
target_kept p colour Knight m h sh = refl
target_kept p colour Bishop m h sh = refl
target_kept p colour Rook m h sh = refl
target_kept p colour Queen m h sh = refl
target_kept p colour King m h sh = refl

-- A pawn's move is plain or captures en passant.
use Rattle.std.proofs.Common.{◌≡◌, ◌≢◌, ◌⊎◌, ℕ, ◌+◌, ◌-◌, ◌<◌, true, false, ◌||◌, eqb, List, Option, Some, None, refl, sym, ap, ◌∙◌, inl, inr, arith}
use Rattle.std.proofs.lemmas.Bool.{and_parts, or_cases, eqb-true}
use Rattle.chess_board.specs.declared.men.Colour.{Colour}
use Rattle.chess_board.specs.declared.men.Colour.TheVariants.{White, Black}
use Rattle.chess_board.specs.declared.men.Kind.TheVariants.{Pawn}
use Rattle.chess_board.specs.declared.men.Man.{Man}
use Rattle.chess_board.specs.Moves.{Move}
use Rattle.chess_board.specs.Squares.{file_of, rank_of, file_gap, crossed}
use Rattle.chess_board.specs.Positions.{Setup, man_at, is_empty, moved}
use Rattle.chess_board.specs.Men.{other_side, is_of, man_of}
use Rattle.chess_board.specs.inside.KindTests.{is_pawn_of}
use Rattle.chess_board.specs.Attacks.{is_forward, attacks_as}
use Rattle.chess_board.specs.Fields.{target_rank}
use Rattle.chess_board.specs.Soundness.{IsSound, has_pawn_of_target}
use Rattle.chess_board.specs.PseudoLegal.{second_rank, steps_once, steps_twice, takes, pawn_goes, promotes}
use Rattle.chess_board.specs.MakeMove.{becomes, men_after}
use Rattle.chess_board.specs.EnPassant.{is_square, takes_en_passant, captured_pawn}
use Rattle.chess_board.proofs.Colours.{colour_same}
use Rattle.chess_board.proofs.Conjunctions.{all_three, all_four, all_five}
use Rattle.chess_board.proofs.Movers.{a_man, Mover, IsPlain, IsPassing, Shape, attacks_no_king, stays_unpromoted}
use Rattle.chess_board.proofs.Walk.{empty_reads}

-- What each way of a pawn says.
pub once_parts : (men : List (Option Man)) (colour : Colour) (a b : ℕ) → steps_once men colour a b ≡ true →
    (is_forward colour 1 a b ≡ true) × (file_of a ≡ file_of b) × (man_at men b ≡ None)
once_parts men colour a b h =
    let p = all_three (is_forward colour 1 a b) (eqb (file_of a) (file_of b)) (is_empty men b) h in
    (p.0, eqb-true (file_of a) (file_of b) p.1, empty_reads men b p.2)

pub twice_parts : (men : List (Option Man)) (colour : Colour) (a b : ℕ) → steps_twice men colour a b ≡ true →
    (is_forward colour 2 a b ≡ true) × (file_of a ≡ file_of b) × (rank_of a ≡ second_rank colour)
    × (man_at men (crossed a b) ≡ None) × (man_at men b ≡ None)
twice_parts men colour a b h =
    let p = all_five (is_forward colour 2 a b) (eqb (file_of a) (file_of b)) (eqb (rank_of a) (second_rank colour))
    (is_empty men (crossed a b)) (is_empty men b) h in (
      p.0,
      eqb-true (file_of a) (file_of b) p.1,
      eqb-true (rank_of a) (second_rank colour) p.2,
      empty_reads men (crossed a b) p.3,
      empty_reads men b p.4,
    )

pub attack_parts : (men : List (Option Man)) (colour : Colour) (a b : ℕ) → attacks_as men colour Pawn a b ≡ true
    → (file_gap a b ≡ 1) × (is_forward colour 1 a b ≡ true)
attack_parts men colour a b h = let p = and_parts (eqb (file_gap a b) 1) (is_forward colour 1 a b) h in (eqb-true (file_gap a b) 1 p.0, p.1)

-- A pawn goes one square forward, straight or diagonally, or makes a double step.
pub pawn_steps : (p : Setup) (colour : Colour) (a b : ℕ) → pawn_goes p colour a b ≡ true
    → (is_forward colour 1 a b ≡ true) ⊎ (steps_twice p.men colour a b ≡ true)
pawn_steps p colour a b h =
    let once = steps_once p.men colour a b in
    let twice = steps_twice p.men colour a b in
    let taking = takes p.men colour Pawn a b in
    let passing = takes_en_passant p colour a b in
    elim (or_cases (once || twice || taking) passing h) [
      | inr h ↦ inl (attack_parts p.men colour a b ((and_parts (attacks_as p.men colour Pawn a b) (is_square p.target b) h).0)).1
      | inl h ↦ elim (or_cases (once || twice) taking h) [
        | inr h ↦ inl (attack_parts p.men colour a b
            ((and_parts (attacks_as p.men colour Pawn a b) (is_of (other_side colour) (man_at p.men b)) h).0)).1
        | inl h ↦ elim (or_cases once twice h) [
          | inl h ↦ inl (once_parts p.men colour a b h).0
          | inr h ↦ inr h
        ]
      ]
    ]

-- where the pawn stands whose double step passed over a target
abbrev beyond : Colour → ℕ → ℕ
beyond White b = b - 8
beyond Black b = b + 8

target_parts : (men : List (Option Man)) (colour : Colour) (b : ℕ) → has_pawn_of_target men colour b ≡ true →
    (rank_of b ≡ target_rank colour) × (man_at men b ≡ None) × (is_pawn_of (other_side colour) (man_at men (beyond colour b)) ≡ true)
target_parts men White b h =
    let p = all_four (eqb (rank_of b) 5) (is_empty men b) (is_pawn_of Black (man_at men (b - 8))) (is_empty men (b + 8)) h in
    (eqb-true (rank_of b) 5 p.0, empty_reads men b p.1, p.2)
target_parts men Black b h =
    let p = all_four (eqb (rank_of b) 2) (is_empty men b) (is_pawn_of White (man_at men (b + 8))) (is_empty men (b - 8)) h in
    (eqb-true (rank_of b) 2 p.0, empty_reads men b p.1, p.2)

target_holds : (p : Setup) (colour : Colour) (b : ℕ) → IsSound p → p.side ≡ colour → is_square p.target b ≡ true
    → has_pawn_of_target p.men colour b ≡ true
target_holds p colour b sound side here =
    (elim (p.target) as (λ o. p.target ≡ o → has_pawn_of_target p.men colour b ≡ true) [
      | None ↦ λ e. let t = rw e at here in cc
      | Some t ↦ λ e.
          let same : t ≡ b = eqb-true t b (rw e at here) in
          let held = rw (e, side) at sound.target in
          rw same at held
    ]) refl

no_target : (p : Setup) (colour : Colour) (b : ℕ) → IsSound p → p.side ≡ colour
    → (has_pawn_of_target p.men colour b ≡ true → ⊥) → is_square p.target b ≡ false
no_target p colour b sound side fails =
    (elim (is_square p.target b) as (λ x. is_square p.target b ≡ x → x ≡ false) [
      | false ↦ λ e. refl
      | true ↦ λ e. absurd (fails (target_holds p colour b sound side e))
    ]) refl

-- The other ways lead to no target: a single step would come from the square on which the passed pawn stands, a double step
-- ends on another rank, and on the square of a capture a man stands.
once_no_target : (p : Setup) (colour : Colour) (a b : ℕ) → man_at p.men a ≡ man_of colour Pawn
    → steps_once p.men colour a b ≡ true → has_pawn_of_target p.men colour b ≡ true → ⊥
once_no_target p White a b there goes held =
    let s = once_parts p.men White a b goes in let r = eqb-true (rank_of b) (rank_of a + 1) s.0 in
    let t = target_parts p.men White b held in
    let back : b - 8 ≡ a = omega arith in
    let x = rw (back, there) at t.2 in cc
once_no_target p Black a b there goes held =
    let s = once_parts p.men Black a b goes in let r = eqb-true (rank_of a) (rank_of b + 1) s.0 in
    let t = target_parts p.men Black b held in
    let back : b + 8 ≡ a = omega arith in
    let x = rw (back, there) at t.2 in cc

twice_no_target : (p : Setup) (colour : Colour) (a b : ℕ) → steps_twice p.men colour a b ≡ true → has_pawn_of_target p.men colour b ≡ true → ⊥
twice_no_target p White a b goes held =
    let s = twice_parts p.men White a b goes in let r = eqb-true (rank_of b) (rank_of a + 2) s.0 in
    let t = target_parts p.men White b held in omega arith
twice_no_target p Black a b goes held =
    let s = twice_parts p.men Black a b goes in let r = eqb-true (rank_of a) (rank_of b + 2) s.0 in
    let t = target_parts p.men Black b held in omega arith

takes_no_target : (p : Setup) (colour : Colour) (b : ℕ) → is_of (other_side colour) (man_at p.men b) ≡ true
    → has_pawn_of_target p.men colour b ≡ true → ⊥
takes_no_target p colour b taken held =
    let t = target_parts p.men colour b held in
    let x = rw t.1 at taken in cc

-- En passant: the passed pawn stands beside the capturing one and beyond the target.
captured_is : (p : Setup) (colour : Colour) (a b : ℕ) → a < 64 → b < 64 → is_forward colour 1 a b ≡ true
    → rank_of b ≡ target_rank colour → captured_pawn a b ≡ beyond colour b
captured_is p White a b a_on b_on forward rank = let r = eqb-true (rank_of b) (rank_of a + 1) forward in omega arith
captured_is p Black a b a_on b_on forward rank = let r = eqb-true (rank_of a) (rank_of b + 1) forward in omega arith

captured_rank : (colour : Colour) (a b : ℕ) → is_forward colour 1 a b ≡ true → rank_of b ≡ target_rank colour
    → (2 < rank_of a) × (rank_of a < 5) × (rank_of a ≢ rank_of b)
captured_rank White a b forward rank = let r = eqb-true (rank_of b) (rank_of a + 1) forward in (omega arith, omega arith, λ e. omega arith)
captured_rank Black a b forward rank = let r = eqb-true (rank_of a) (rank_of b + 1) forward in (omega arith, omega arith, λ e. omega arith)

not_last : (colour : Colour) (b : ℕ) → rank_of b ≡ target_rank colour → promotes (a_man colour Pawn) b ≡ false
not_last White b h = rw h refl
not_last Black b h = rw h refl

en_passant_shape : (p : Setup) (colour : Colour) (m : Move) → Mover p colour Pawn m
    → takes_en_passant p colour m.origin m.target ≡ true → IsPassing p colour Pawn m
en_passant_shape p colour m h goes =
    let q = and_parts (attacks_as p.men colour Pawn m.origin m.target) (is_square p.target m.target) goes in
    let g = attack_parts p.men colour m.origin m.target q.0 in
    let t = target_parts p.men colour m.target (target_holds p colour m.target h.sound h.side q.1) in
    let k = captured_is p colour m.origin m.target h.a_on h.b_on g.1 t.0 in
    let r = captured_rank colour m.origin m.target g.1 t.0 in
    let same : rank_of (captured_pawn m.origin m.target) ≡ rank_of m.origin = omega arith in
    record {
      men = rw q.1 refl;
      pawn = refl;
      unpromoted = stays_unpromoted (a_man colour Pawn) m.target m.promotion h.suit (not_last colour m.target t.0);
      empty = t.1;
      passed = rw k t.2;
      not_origin = λ e. (let f : file_of m.target ≡ file_of m.origin = omega arith in omega arith);
      not_target = λ e. r.2 (sym same ∙ ap rank_of e);
      low = omega (arith, r.0);
      high = omega (arith, r.1);
    }

-- The other ways are plain.
plain_men : (p : Setup) (colour : Colour) (m : Move) → is_square p.target m.target ≡ false
    → men_after p (a_man colour Pawn) m ≡ moved p.men m.origin m.target (becomes (a_man colour Pawn) m.promotion)
plain_men p colour m h = rw h refl

stepping_shape : (p : Setup) (colour : Colour) (m : Move) → Mover p colour Pawn m → man_at p.men m.target ≡ None
    → (has_pawn_of_target p.men colour m.target ≡ true → ⊥) → IsPlain p colour Pawn m
stepping_shape p colour m h empty fails = record {
  men = plain_men p colour m (no_target p colour m.target h.sound h.side fails);
  not_own = rw empty refl;
  not_king = rw empty refl;
}

enemy_is_not_own : (colour : Colour) (place : Option Man) → is_of (other_side colour) place ≡ true → is_of colour place ≡ false
enemy_is_not_own White None h = cc
enemy_is_not_own Black None h = cc
enemy_is_not_own White (Some man) h = rw (sym (colour_same Black man.colour h)) refl
enemy_is_not_own Black (Some man) h = rw (sym (colour_same White man.colour h)) refl

taking_shape : (p : Setup) (colour : Colour) (m : Move) → Mover p colour Pawn m
    → takes p.men colour Pawn m.origin m.target ≡ true → IsPlain p colour Pawn m
taking_shape p colour m h goes =
    let q = and_parts (attacks_as p.men colour Pawn m.origin m.target) (is_of (other_side colour) (man_at p.men m.target)) goes in
    record {
      men = plain_men p colour m (no_target p colour m.target h.sound h.side (takes_no_target p colour m.target q.1));
      not_own = enemy_is_not_own colour (man_at p.men m.target) q.1;
      not_king = attacks_no_king p colour Pawn m h q.0;
    }

pub pawn_shape : (p : Setup) (colour : Colour) (m : Move) → Mover p colour Pawn m → Shape p colour Pawn m
pawn_shape p colour m h =
    let once = steps_once p.men colour m.origin m.target in
    let twice = steps_twice p.men colour m.origin m.target in
    let taking = takes p.men colour Pawn m.origin m.target in
    let passing = takes_en_passant p colour m.origin m.target in
    elim (or_cases (once || twice || taking) passing h.goes) [
      | inr g ↦ inr (inl (en_passant_shape p colour m h g))
      | inl g ↦ elim (or_cases (once || twice) taking g) [
        | inr g ↦ inl (taking_shape p colour m h g)
        | inl g ↦ elim (or_cases once twice g) [
          | inl g ↦ inl (stepping_shape p colour m h ((once_parts p.men colour m.origin m.target g).2)
              (once_no_target p colour m.origin m.target h.there g))
          | inr g ↦ inl (stepping_shape p colour m h ((twice_parts p.men colour m.origin m.target g).4)
              (twice_no_target p colour m.origin m.target g))
        ]
      ]
    ]

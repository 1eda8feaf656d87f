-- A square is attacked by the same men whoever arrives on it: no man attacks the square that it stands on, and nobody stands between
-- a square and itself.
use Rattle.std.proofs.Common.{◌≡◌, ℕ, ◌<◌, Bool, true, false, not, ◌&&◌, ◌||◌, List, Option, None, Some, refl, ap, ◌∙◌, eqb, length, set, arith}
use Rattle.std.proofs.Math.Bool.{and-true, and-false}
use Rattle.std.proofs.lemmas.Bool.{and_parts, eq-eqb, eqb-true, false_from_ne_true}
use Rattle.chess_board.specs.declared.men.Colour.{Colour}
use Rattle.chess_board.specs.declared.men.Colour.TheVariants.{White, Black}
use Rattle.chess_board.specs.declared.men.Kind.{Kind}
use Rattle.chess_board.specs.declared.men.Kind.TheVariants.{Pawn, Knight, Bishop, Rook, Queen, King}
use Rattle.chess_board.specs.declared.men.Man.{Man}
use Rattle.chess_board.specs.Men.{is_colour}
use Rattle.chess_board.specs.Positions.{man_at}
use Rattle.chess_board.specs.Squares.{file_gap, any_below}
use Rattle.chess_moves.specs.declared.directions.Direction.TheVariants.{North, NorthEast, East, SouthEast, South, SouthWest, West, NorthWest}
use Rattle.chess_moves.specs.declared.directions.Leap.TheVariants.{KnightLeap, KingStep}
use Rattle.chess_moves.specs.inside.LegalityInfo.{gets_through}
use Rattle.chess_moves.specs.inside.Directions.{toward, stands_between, reaches_as_bishop, reaches_as_rook}
use Rattle.chess_moves.specs.inside.Hits.{is_taken, hits_as, place_hits, hits_from, is_hit}
use Rattle.chess_moves.specs.inside.Leaps.{leaps, capture_of}
use Rattle.chess_moves.proofs.AnyLemmas.{any_same}
use Rattle.chess_moves.proofs.Compass.{between_some}
use Rattle.chess_moves.proofs.Geometry.{toward_self}
use Rattle.chess_moves.proofs.Placed.{attacks_placed}

no_knight_stays : (s : ℕ) → leaps KnightLeap s s ≡ false
unfolding leaps
no_knight_stays s = let none : file_gap s s ≡ 0 = omega arith in rw none refl

no_king_stays : (s : ℕ) → leaps KingStep s s ≡ false
unfolding leaps
no_king_stays s = let same : eqb s s ≡ true = eq-eqb s s refl in rw same refl

no_capture_stays : (by : Colour) (s : ℕ) → leaps (capture_of by) s s ≡ false
unfolding leaps
no_capture_stays White s = let none : file_gap s s ≡ 0 = omega arith in rw none refl
no_capture_stays Black s = let none : file_gap s s ≡ 0 = omega arith in rw none refl

no_bishop_stays : (taken : ℕ → Bool) (s : ℕ) → reaches_as_bishop taken s s ≡ false
unfolding reaches_as_bishop
no_bishop_stays taken s = rw (toward_self NorthEast s, toward_self SouthEast s, toward_self SouthWest s, toward_self NorthWest s) refl

no_rook_stays : (taken : ℕ → Bool) (s : ℕ) → reaches_as_rook taken s s ≡ false
unfolding reaches_as_rook
no_rook_stays taken s = rw (toward_self North s, toward_self East s, toward_self South s, toward_self West s) refl

-- No man attacks the square on which it stands.
pub no_man_stays : (taken : ℕ → Bool) (by : Colour) (kind : Kind) (s : ℕ) → hits_as taken by kind s s ≡ false
no_man_stays taken by Pawn s = no_capture_stays by s
no_man_stays taken by Knight s = no_knight_stays s
no_man_stays taken by Bishop s = no_bishop_stays taken s
no_man_stays taken by Rook s = no_rook_stays taken s
no_man_stays taken by Queen s = rw (no_bishop_stays taken s, no_rook_stays taken s) refl
no_man_stays taken by King s = no_king_stays s

place_not_itself : (taken : ℕ → Bool) (by : Colour) (place : Option Man) (s : ℕ) → place_hits taken by place s s ≡ false
place_not_itself taken by None s = refl
place_not_itself taken by (Some man) s =
    ap (λ x. is_colour by man.colour && x) (no_man_stays taken by man.kind s) ∙ and-false (is_colour by man.colour)

none_between : (a s : ℕ) → stands_between a s s ≡ false
none_between a s = false_from_ne_true (stands_between a s s) (λ h.
    let w = between_some a s s h in
    let x = and_parts (toward w.direction a s) (toward w.direction s s) w.on_line in
    let none = toward_self w.direction s in cc)

-- an attacker of a square gets through to it
through_to_it : (men : List (Option Man)) (by : Colour) (a s : ℕ) → (hits_from men by a s && gets_through a s s) ≡ hits_from men by a s
through_to_it men by a s = (elim (eqb s a) as (λ b. eqb s a ≡ b → (hits_from men by a s && not (b || stands_between a s s)) ≡ hits_from men by a s) [
  | true ↦ λ e.
      let same = eqb-true s a e in
      let none : hits_from men by a s ≡ false = rw same (place_not_itself (λ t. is_taken men t) by (man_at men a) a) in
      rw none refl
  | false ↦ λ e. rw (none_between a s) (and-true (hits_from men by a s))
]) refl

-- so that all attackers get through to it
pub hit_through : (men : List (Option Man)) (by : Colour) (s : ℕ) → any_below 64 (λ a. hits_from men by a s && gets_through a s s) ≡ is_hit men s by
unfolding is_hit
hit_through men by s = any_same (λ a. hits_from men by a s && gets_through a s s) (λ a. hits_from men by a s) 64 (λ a l. through_to_it men by a s)

pub hit_on_arrival : (men : List (Option Man)) (s : ℕ) (man : Man) (by : Colour) → length men ≡ 64 → s < 64 → is_colour by man.colour ≡ false
    → is_hit (set men s (Some man)) s by ≡ is_hit men s by
unfolding is_hit
hit_on_arrival men s man by len on own =
    any_same (λ a. hits_from (set men s (Some man)) by a s) (λ a. hits_from men by a s) 64
    (λ a l. attacks_placed men s man by a s len on own ∙ through_to_it men by a s)

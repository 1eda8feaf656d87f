-- What one more own man changes in the attacks on a square.
use Rattle.std.proofs.Common.{◌≡◌, ◌≢◌, ℕ, ◌<◌, Bool, true, false, not, ◌&&◌, ◌||◌, List, Option, None, Some}
use Rattle.std.proofs.Common.{refl, sym, ap, ◌∙◌, eqb, length, set, get_or-set_same, get_or-set_other, arith}
use Rattle.std.proofs.Math.Bool.{and-true, and-false}
use Rattle.std.proofs.lemmas.Bool.{eqb-true, eqb-false}
use Rattle.chess_board.specs.declared.men.Colour.{Colour}
use Rattle.chess_board.specs.declared.men.Kind.{Kind}
use Rattle.chess_board.specs.declared.men.Kind.TheVariants.{Pawn, Knight, Bishop, Rook, Queen, King}
use Rattle.chess_board.specs.declared.men.Man.{Man}
use Rattle.chess_board.specs.Men.{is_colour}
use Rattle.chess_board.specs.Positions.{man_at}
use Rattle.chess_moves.specs.declared.directions.Direction.TheVariants.{North, NorthEast, East, SouthEast, South, SouthWest, West, NorthWest}
use Rattle.chess_moves.specs.declared.directions.Leap.{Leap}
use Rattle.chess_moves.specs.declared.directions.Leap.TheVariants.{KnightLeap, KingStep}
use Rattle.chess_moves.specs.inside.Directions.{reaches, stands_between, reaches_as_bishop, reaches_as_rook}
use Rattle.chess_moves.specs.inside.Leaps.{leaps, capture_of}
use Rattle.chess_moves.specs.inside.Hits.{is_taken, hits_as, place_hits, hits_from}
use Rattle.chess_moves.specs.inside.LegalityInfo.{gets_through}
use Rattle.chess_moves.proofs.Connectives.{four_and}
use Rattle.chess_moves.proofs.Compass.{IsFar, leap_between, reached_with, far_no_knight, far_no_king, far_no_capture}

two_and : (p q n : Bool) → (p && n || q && n) ≡ ((p || q) && n)
two_and p q true = simp and-true
two_and p q false = simp and-false

slants_with : (taken after : ℕ → Bool) (t : ℕ) → t < 64 → ((s : ℕ) → s < 64 → after s ≡ (eqb s t || taken s)) → (a k : ℕ)
    → reaches_as_bishop after a k ≡ (reaches_as_bishop taken a k && not (stands_between a k t))
unfolding reaches_as_bishop
slants_with taken after t on more a k =
    let r = reached_with taken after t on more in
    rw (r NorthEast a k, r SouthEast a k, r SouthWest a k, r NorthWest a k)
    (four_and (reaches taken NorthEast a k) (reaches taken SouthEast a k) (reaches taken SouthWest a k) (reaches taken NorthWest a k)
    (not (stands_between a k t)))

straight_with : (taken after : ℕ → Bool) (t : ℕ) → t < 64 → ((s : ℕ) → s < 64 → after s ≡ (eqb s t || taken s)) → (a k : ℕ)
    → reaches_as_rook after a k ≡ (reaches_as_rook taken a k && not (stands_between a k t))
unfolding reaches_as_rook
straight_with taken after t on more a k =
    let r = reached_with taken after t on more in
    rw (r North a k, r East a k, r South a k, r West a k)
    (four_and (reaches taken North a k) (reaches taken East a k) (reaches taken South a k) (reaches taken West a k)
    (not (stands_between a k t)))

leaps_with : (l : Leap) (a k t : ℕ) → (IsFar a k → leaps l a k ≡ false) → leaps l a k ≡ (leaps l a k && not (stands_between a k t))
leaps_with l a k t near = (elim (leaps l a k) as (λ b. leaps l a k ≡ b → b ≡ (b && not (stands_between a k t))) [
  | true ↦ λ e. let none = leap_between l a k t near e in rw none
  | false ↦ λ e. refl
]) refl

attacks_with : (taken after : ℕ → Bool) (t : ℕ) → t < 64 → ((s : ℕ) → s < 64 → after s ≡ (eqb s t || taken s)) → (c : Colour) (kind : Kind) (a k : ℕ)
    → hits_as after c kind a k ≡ (hits_as taken c kind a k && not (stands_between a k t))
attacks_with taken after t on more c Pawn a k = leaps_with (capture_of c) a k t (far_no_capture c a k)
attacks_with taken after t on more c Knight a k = leaps_with KnightLeap a k t (far_no_knight a k)
attacks_with taken after t on more c Bishop a k = slants_with taken after t on more a k
attacks_with taken after t on more c Rook a k = straight_with taken after t on more a k
attacks_with taken after t on more c Queen a k =
    rw (slants_with taken after t on more a k, straight_with taken after t on more a k)
    (two_and (reaches_as_bishop taken a k) (reaches_as_rook taken a k) (not (stands_between a k t)))
attacks_with taken after t on more c King a k = leaps_with KingStep a k t (far_no_king a k)

pub place_with : (taken after : ℕ → Bool) (t : ℕ) → t < 64 → ((s : ℕ) → s < 64 → after s ≡ (eqb s t || taken s))
    → (by : Colour) (place : Option Man) (a k : ℕ)
    → place_hits after by place a k ≡ (place_hits taken by place a k && not (stands_between a k t))
place_with taken after t on more by None a k = refl
place_with taken after t on more by (Some man) a k =
    ap (λ x. is_colour by man.colour && x) (attacks_with taken after t on more by man.kind a k)
    ∙ grouped (is_colour by man.colour) (hits_as taken by man.kind a k) (not (stands_between a k t))
  where
    grouped : (x y z : Bool) → (x && (y && z)) ≡ (x && y && z)
    grouped true y z = refl
    grouped false y z = refl

-- With one more own man on t, an attacker stays one where it gets through.
pub attacks_placed : (men : List (Option Man)) (t : ℕ) (man : Man) (by : Colour) (a k : ℕ) → length men ≡ 64
    → t < 64 → is_colour by man.colour ≡ false
    → hits_from (set men t (Some man)) by a k ≡ (hits_from men by a k && gets_through a k t)
attacks_placed men t man by a k len on own =
    let taken : ℕ → Bool = λ s. is_taken men s in
    let after : ℕ → Bool = λ s. is_taken (set men t (Some man)) s in
    let within : t < length men = omega arith in
    let more : (s : ℕ) → s < 64 → after s ≡ (eqb s t || taken s) = λ s l. (elim (eqb s t) as (λ b. eqb s t ≡ b → after s ≡ (b || taken s)) [
      | true ↦ λ e. let same = eqb-true s t e in rw same (rw get_or-set_same refl)
      | false ↦ λ e. let ne = eqb-false s t e in rw get_or-set_other refl
    ]) refl in
    (elim (eqb t a) as (λ b. eqb t a ≡ b
    → place_hits after by (man_at (set men t (Some man)) a) a k ≡ (hits_from men by a k && not (b || stands_between a k t))) [
      | true ↦ λ e.
          let same = sym (eqb-true t a e) in
          let there : man_at (set men t (Some man)) a ≡ Some man = rw same (rw get_or-set_same refl) in
          ap (λ p. place_hits after by p a k) there ∙ ap (λ x. x && hits_as after by man.kind a k) own ∙ sym (and-false (hits_from men by a k))
      | false ↦ λ e.
          let ne : a ≢ t = λ q. eqb-false t a e (sym q) in
          let there : man_at (set men t (Some man)) a ≡ man_at men a = rw get_or-set_other refl in
          ap (λ p. place_hits after by p a k) there ∙ place_with taken after t on more by (man_at men a) a k
    ]) refl

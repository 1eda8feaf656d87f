-- The squares of White's men and of Black's as words, and what a legal move makes of them where none castles or captures en passant.
use Rattle.std.proofs.Common.{◌≡◌, ℕ, ◌-◌, ◌*◌, ◌%◌, ◌^◌, ◌<◌, min, max, Bool, true, false, not, ◌&&◌, ◌||◌, cond, eqb}
use Rattle.std.proofs.Common.{List, length, Option, None, Some, is_some, get_or, set, get_or-set_same, get_or-set_other, length-set}
use Rattle.std.proofs.Common.{refl, ap, subst, ◌∙◌, arith, w64}
use Rattle.std.specs.Int.{bit_at, bit_not}
use Rattle.std.specs.Int.RustNames.{bit_and, bit_or}
use Rattle.std.proofs.lemmas.Bool.Decides.{nat_tests}
use Rattle.std.proofs.lemmas.Bool.{eqb-true, eqb-false}
use Rattle.std.proofs.lemmas.Nat.Bits.{bit_at_and, bit_at_or, bit_at_not, bit_at-lt}
use Rattle.std.proofs.lemmas.Nat.Bits.{bit_at_clear_same, bit_at_clear_other, bit_at_set_same, bit_at_set_other}
use Rattle.chess_board.specs.declared.men.Colour.{Colour}
use Rattle.chess_board.specs.declared.men.Colour.TheVariants.{White, Black}
use Rattle.chess_board.specs.declared.men.Kind.{Kind}
use Rattle.chess_board.specs.declared.men.Kind.TheVariants.{Pawn, Knight, Bishop, Rook, Queen, King}
use Rattle.chess_board.specs.declared.men.Man.{Man}
use Rattle.chess_board.specs.Men.{is_colour, is_kind, is_of, is_man}
use Rattle.chess_board.specs.Positions.{Setup, man_at, moved}
use Rattle.chess_board.specs.Sets.{IsSetOf}
use Rattle.chess_board.specs.Soundness.{IsSound}
use Rattle.chess_board.specs.Moves.{Move}
use Rattle.chess_board.specs.MakeMove.{becomes, after_setup}
use Rattle.chess_board.specs.Legality.{is_legal}
use Rattle.mate_search.specs.inside.SideOccupancy.{IsPlain}
use Rattle.mate_search.proofs.PlainMoves.{plain_move, becomes_colour}

-- the square is in the set
abbrev has : ℕ → ℕ → Bool
has set square = eqb (bit_at set square) 1

or_test : (x y : ℕ) → x < 2 → y < 2 → eqb (max x y) 1 ≡ (eqb x 1 || eqb y 1)
or_test x y h k = grind (arith, nat_tests)

less_test : (x y : ℕ) → x < 2 → y < 2 → eqb (min x (1 - y)) 1 ≡ (eqb x 1 && not (eqb y 1))
less_test x y h k = grind (arith, nat_tests)

has_or : (a b s : ℕ) → has (bit_or a b) s ≡ (has a s || has b s)
has_or a b s = rw (bit_at_or a b s) (or_test (bit_at a s) (bit_at b s) (bit_at-lt a s) (bit_at-lt b s))

pub has_less : (a b s : ℕ) → b < 2 ^ 64 → s < 64 → has (bit_and a (bit_not w64 b)) s ≡ (has a s && not (has b s))
has_less a b s fits l = rw (bit_at_and a (bit_not w64 b) s, bit_at_not w64 b s fits l)
    (less_test (bit_at a s) (bit_at b s) (bit_at-lt a s) (bit_at-lt b s))

-- a side's men are those of each kind
each_kind : (colour : Colour) (place : Option Man)
    → (((((is_man colour Pawn place || is_man colour Knight place) || is_man colour Bishop place) || is_man colour Rook place)
    || is_man colour Queen place) || is_man colour King place) ≡ is_of colour place
each_kind colour None = refl
each_kind colour (Some man) = own (is_colour colour man.colour) man.kind
  where
    own : (x : Bool) (asked : Kind) → (((((x && is_kind Pawn asked || x && is_kind Knight asked) || x && is_kind Bishop asked)
        || x && is_kind Rook asked) || x && is_kind Queen asked) || x && is_kind King asked) ≡ x
    own false asked = refl
    own true Pawn = refl
    own true Knight = refl
    own true Bishop = refl
    own true Rook = refl
    own true Queen = refl
    own true King = refl

pub men_of_kinds : (men : List (Option Man)) (colour : Colour) (pawns knights bishops rooks queens kings : ℕ)
    → IsSetOf pawns (is_man colour Pawn) men → IsSetOf knights (is_man colour Knight) men → IsSetOf bishops (is_man colour Bishop) men
    → IsSetOf rooks (is_man colour Rook) men → IsSetOf queens (is_man colour Queen) men → IsSetOf kings (is_man colour King) men
    → IsSetOf (bit_or (bit_or (bit_or (bit_or (bit_or pawns knights) bishops) rooks) queens) kings) (is_of colour) men
men_of_kinds men colour pawns knights bishops rooks queens kings p n b r q k s l =
    rw (
      has_or (bit_or (bit_or (bit_or (bit_or pawns knights) bishops) rooks) queens) kings s,
      has_or (bit_or (bit_or (bit_or pawns knights) bishops) rooks) queens s,
      has_or (bit_or (bit_or pawns knights) bishops) rooks s,
      has_or (bit_or pawns knights) bishops s,
      has_or pawns knights s,
      p s l,
      n s l,
      b s l,
      r s l,
      q s l,
      k s l,
    ) (each_kind colour (man_at men s))

-- a man who is not White's is Black's
rest_test : (place : Option Man) → (is_some place && not (is_of White place)) ≡ is_of Black place
rest_test None = refl
rest_test (Some man) = by_one man.colour
  where
    by_one : (colour : Colour) → not (is_colour White colour) ≡ is_colour Black colour
    by_one White = refl
    by_one Black = refl

pub rest_of : (men : List (Option Man)) (occupied white : ℕ) → white < 2 ^ 64 → IsSetOf occupied is_some men
    → IsSetOf white (is_of White) men → IsSetOf (bit_and occupied (bit_not w64 white)) (is_of Black) men
rest_of men occupied white fits all own s l = rw (has_less occupied white s fits l, all s l, own s l) (rest_test (man_at men s))

-- a square put into a set, and one taken away
has_with : (set t s : ℕ) → t < 64 → has (bit_or set (1 * 2 ^ t % 2 ^ 64)) s ≡ (eqb s t || has set s)
has_with set t s on = (elim (eqb s t) as (λ b. eqb s t ≡ b → has (bit_or set (1 * 2 ^ t % 2 ^ 64)) s ≡ (b || has set s)) [
  | true ↦ λ e. let same = eqb-true s t e in rw same (rw (bit_at_set_same w64 set t on))
  | false ↦ λ e. rw (bit_at_set_other w64 set t on s (eqb-false s t e))
]) refl

has_without : (set t s : ℕ) → t < 64 → s < 64 → has (bit_and set (bit_not w64 (1 * 2 ^ t % 2 ^ 64))) s ≡ (not (eqb s t) && has set s)
has_without set t s on l =
    (elim (eqb s t) as (λ b. eqb s t ≡ b → has (bit_and set (bit_not w64 (1 * 2 ^ t % 2 ^ 64))) s ≡ (not b && has set s)) [
      | true ↦ λ e. let same = eqb-true s t e in rw same (rw (bit_at_clear_same w64 set t on))
      | false ↦ λ e. rw (bit_at_clear_other w64 set t on s l (eqb-false s t e))
    ]) refl

-- what stands on a square once a man went from o to t
test_moved : (test : Option Man → Bool) (men : List (Option Man)) (o t : ℕ) (man : Man) (s : ℕ) → length men ≡ 64 → o < 64 → t < 64
    → test (man_at (moved men o t man) s) ≡ cond (eqb s t) (test (Some man)) (cond (eqb s o) (test None) (test (man_at men s)))
test_moved test men o t man s long from to =
    (elim (eqb s t) as (λ b. eqb s t ≡ b → test (get_or (set (set men o None) t (Some man)) s None)
    ≡ cond b (test (Some man)) (cond (eqb s o) (test None) (test (get_or men s None)))) [
      | true ↦ λ e.
          let same = eqb-true s t e in
          rw same (rw (get_or-set_same (set men o None) t (Some man) None (let n = length-set men o None in omega (arith, n))) refl)
      | false ↦ λ e. rw (get_or-set_other (set men o None) t s (Some man) None (eqb-false s t e))
          ((elim (eqb s o) as (λ b. eqb s o ≡ b → test (get_or (set men o None) s None) ≡ cond b (test None) (test (get_or men s None))) [
            | true ↦ λ e. let same = eqb-true s o e in rw same (rw (get_or-set_same men o None None (omega (arith, long))) refl)
            | false ↦ λ e. rw (get_or-set_other men o s None None (eqb-false s o e)) refl
          ]) refl)
    ]) refl

-- the side whose man went
side_moved : (men : List (Option Man)) (side : Colour) (o t held : ℕ) (man : Man) → length men ≡ 64 → o < 64 → t < 64
    → is_of side (Some man) ≡ true → IsSetOf held (is_of side) men
    → IsSetOf (bit_or (bit_and held (bit_not w64 (1 * 2 ^ o % 2 ^ 64))) (1 * 2 ^ t % 2 ^ 64)) (is_of side) (moved men o t man)
side_moved men side o t held man long from to own stands s l =
    rw (
      has_with (bit_and held (bit_not w64 (1 * 2 ^ o % 2 ^ 64))) t s to,
      has_without held o s from l,
      test_moved (is_of side) men o t man s long from to,
      own,
      stands s l,
    ) (same (eqb s t) (eqb s o) (is_of side (man_at men s)))
  where
    same : (x y z : Bool) → (x || (not y && z)) ≡ cond x true (cond y false z)
    same true y z = refl
    same false true z = refl
    same false false z = refl

-- the other side
side_taken : (men : List (Option Man)) (side : Colour) (o t held : ℕ) (man : Man) → length men ≡ 64 → o < 64 → t < 64
    → is_of side (Some man) ≡ false → is_of side (man_at men o) ≡ false → IsSetOf held (is_of side) men
    → IsSetOf (bit_and held (bit_not w64 (1 * 2 ^ t % 2 ^ 64))) (is_of side) (moved men o t man)
side_taken men side o t held man long from to foreign none stands s l =
    rw (has_without held t s to l, test_moved (is_of side) men o t man s long from to, foreign, stands s l)
    (same (eqb s t) (eqb s o) (is_of side (man_at men s)) (λ e. let here = eqb-true s o e in rw here none))
  where
    same : (x y z : Bool) → (y ≡ true → z ≡ false) → (not x && z) ≡ cond x false (cond y false z)
    same true y z h = refl
    same false true z h = h refl
    same false false z h = refl

-- The words of the square that a move leaves and of the one that it reaches.
pub record AreSquaresOf (m : Move) (origin target : ℕ) : Type 0 where
  pub from : m.origin < 64
  pub to : m.target < 64
  pub at_origin : origin ≡ 1 * 2 ^ m.origin % 2 ^ 64
  pub at_target : target ≡ 1 * 2 ^ m.target % 2 ^ 64

single : (word number square : ℕ) → number ≡ square → square < 64 → word ≡ 1 * 2 ^ (number % 64) % 2 ^ 64 → word ≡ 1 * 2 ^ square % 2 ^ 64
single word number square same on is = let low : number % 64 ≡ square = omega arith in rw low at is

pub squares_of : (m : Move) (o t : ℕ) (r : Option Kind) (origin target a b : ℕ) → record { origin = o; target = t; promotion = r } ≡ m
    → (o < 64) × (t < 64) → a ≡ o → b ≡ t → origin ≡ 1 * 2 ^ (a % 64) % 2 ^ 64 → target ≡ 1 * 2 ^ (b % 64) % 2 ^ 64
    → AreSquaresOf m origin target
squares_of m o t r origin target a b seen on from to at_origin at_target = subst (λ x. AreSquaresOf x origin target) seen
    (record { from = on.0; to = on.1; at_origin = single origin a o from on.0 at_origin; at_target = single target b t to on.1 at_target })

module _ (p : Setup) (m : Move) (origin target : ℕ) (sound : IsSound p) (squares : AreSquaresOf m origin target)
    (plain : IsPlain p) (legal : is_legal p m ≡ true) where
  -- the squares of the side that moves
  pub own_side : (side : Colour) (held : ℕ) → p.side ≡ side → IsSetOf held (is_of side) p.men
      → IsSetOf (bit_or (bit_and held (bit_not w64 origin)) target) (is_of side) (after_setup p m).men
  own_side side held moves stands =
      let by = plain_move p m plain legal in
      let man = becomes by.0 m.promotion in
      let own : is_of side (Some man) ≡ true =
      ap (is_colour side) (becomes_colour by.0 m.promotion ∙ by.1.own ∙ moves) ∙ itself side in
      rw (by.1.men, squares.at_origin, squares.at_target)
      (side_moved p.men side m.origin m.target held man sound.squares squares.from squares.to own stands)
    where
      itself : (colour : Colour) → is_colour colour colour ≡ true
      itself White = refl
      itself Black = refl

  -- those of the other side
  pub other_side : (side : Colour) (held : ℕ) → is_colour side p.side ≡ false → IsSetOf held (is_of side) p.men
      → IsSetOf (bit_and held (bit_not w64 target)) (is_of side) (after_setup p m).men
  other_side side held waits stands =
      let by = plain_move p m plain legal in
      let man = becomes by.0 m.promotion in
      let foreign : is_of side (Some man) ≡ false = ap (is_colour side) (becomes_colour by.0 m.promotion ∙ by.1.own) ∙ waits in
      let none : is_of side (man_at p.men m.origin) ≡ false = ap (is_of side) by.1.there ∙ ap (is_colour side) by.1.own ∙ waits in
      rw (by.1.men, squares.at_target)
      (side_taken p.men side m.origin m.target held man sound.squares squares.from squares.to foreign none stands)

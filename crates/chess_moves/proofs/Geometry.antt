-- What holds of the directions and the leaps, by differences of file and rank.
use Rattle.std.proofs.Common.{◌≡◌, ℕ, ◌+◌, ◌-◌, ◌/◌, ◌%◌, ◌<◌, true, false, ◌&&◌, cond, eqb, ltb, refl, arith, add_comm}
use Rattle.std.proofs.lemmas.Bool.{and_parts, eqb-true, ltb-true, eq-eqb, lt-ltb, false_from_ne_true}
use Rattle.std.proofs.lemmas.Bool.Decides.{nat_tests}
use Rattle.chess_board.specs.declared.men.Colour.{Colour}
use Rattle.chess_board.specs.declared.men.Colour.TheVariants.{White, Black}
use Rattle.chess_board.specs.Squares.{gap}
use Rattle.chess_moves.specs.declared.directions.Direction.{Direction}
use Rattle.chess_moves.specs.declared.directions.Direction.TheVariants.{North, NorthEast, East, SouthEast, South, SouthWest, West, NorthWest}
use Rattle.chess_moves.specs.declared.directions.Leap.TheVariants.{KnightLeap, KingStep}
use Rattle.chess_moves.specs.inside.Directions.{toward, opposite, is_rising, is_north, is_east, is_north_east, is_north_west}
use Rattle.chess_moves.specs.inside.Leaps.{leaps, capture_of, capture_back}

-- a line's two tests and what they say
both : (a b c d : ℕ) → (eqb a b && ltb c d) ≡ true → (a ≡ b) × (c < d)
both a b c d h = let t = and_parts (eqb a b) (ltb c d) h in (eqb-true a b t.0, ltb-true c d t.1)

join : (a b c d : ℕ) → a ≡ b → c < d → (eqb a b && ltb c d) ≡ true
join a b c d e l = rw (eq-eqb a b e, lt-ltb c d l)

pub north_says : (a b : ℕ) → is_north a b ≡ true → (a % 8 ≡ b % 8) × (a / 8 < b / 8)
north_says a b h = both (a % 8) (b % 8) (a / 8) (b / 8) h

pub north_from : (a b : ℕ) → a % 8 ≡ b % 8 → a / 8 < b / 8 → is_north a b ≡ true
north_from a b e l = join (a % 8) (b % 8) (a / 8) (b / 8) e l

pub east_says : (a b : ℕ) → is_east a b ≡ true → (a / 8 ≡ b / 8) × (a % 8 < b % 8)
east_says a b h = both (a / 8) (b / 8) (a % 8) (b % 8) h

pub east_from : (a b : ℕ) → a / 8 ≡ b / 8 → a % 8 < b % 8 → is_east a b ≡ true
east_from a b e l = join (a / 8) (b / 8) (a % 8) (b % 8) e l

pub north_east_says : (a b : ℕ) → is_north_east a b ≡ true → (a % 8 + b / 8 ≡ b % 8 + a / 8) × (a / 8 < b / 8)
north_east_says a b h = both (a % 8 + b / 8) (b % 8 + a / 8) (a / 8) (b / 8) h

pub north_east_from : (a b : ℕ) → a % 8 + b / 8 ≡ b % 8 + a / 8 → a / 8 < b / 8 → is_north_east a b ≡ true
north_east_from a b e l = join (a % 8 + b / 8) (b % 8 + a / 8) (a / 8) (b / 8) e l

pub north_west_says : (a b : ℕ) → is_north_west a b ≡ true → (a % 8 + a / 8 ≡ b % 8 + b / 8) × (a / 8 < b / 8)
north_west_says a b h = both (a % 8 + a / 8) (b % 8 + b / 8) (a / 8) (b / 8) h

pub north_west_from : (a b : ℕ) → a % 8 + a / 8 ≡ b % 8 + b / 8 → a / 8 < b / 8 → is_north_west a b ≡ true
north_west_from a b e l = join (a % 8 + a / 8) (b % 8 + b / 8) (a / 8) (b / 8) e l

north_on : (a b c : ℕ) → is_north a b ≡ true → is_north b c ≡ true → is_north a c ≡ true
north_on a b c h k = let x = north_says a b h in let y = north_says b c k in north_from a c (omega arith) (omega arith)

-- of two squares further on, the one with the greater number is the further one
north_above : (a b c : ℕ) → is_north a b ≡ true → is_north a c ≡ true → b < c → is_north b c ≡ true
north_above a b c h k l = let x = north_says a b h in let y = north_says a c k in north_from b c (omega arith) (omega arith)

north_below : (a b c : ℕ) → is_north b a ≡ true → is_north c a ≡ true → c < b → is_north c b ≡ true
north_below a b c h k l = let x = north_says b a h in let y = north_says c a k in north_from c b (omega arith) (omega arith)

east_on : (a b c : ℕ) → is_east a b ≡ true → is_east b c ≡ true → is_east a c ≡ true
east_on a b c h k = let x = east_says a b h in let y = east_says b c k in east_from a c (omega arith) (omega arith)

-- of two squares further on, the one with the greater number is the further one
east_above : (a b c : ℕ) → is_east a b ≡ true → is_east a c ≡ true → b < c → is_east b c ≡ true
east_above a b c h k l = let x = east_says a b h in let y = east_says a c k in east_from b c (omega arith) (omega arith)

east_below : (a b c : ℕ) → is_east b a ≡ true → is_east c a ≡ true → c < b → is_east c b ≡ true
east_below a b c h k l = let x = east_says b a h in let y = east_says c a k in east_from c b (omega arith) (omega arith)

pub north_east_on : (a b c : ℕ) → is_north_east a b ≡ true → is_north_east b c ≡ true → is_north_east a c ≡ true
north_east_on a b c h k = let x = north_east_says a b h in let y = north_east_says b c k in north_east_from a c (omega arith) (omega arith)

-- of two squares further on, the one with the greater number is the further one
north_east_above : (a b c : ℕ) → is_north_east a b ≡ true → is_north_east a c ≡ true → b < c → is_north_east b c ≡ true
north_east_above a b c h k l = let x = north_east_says a b h in let y = north_east_says a c k in north_east_from b c (omega arith) (omega arith)

north_east_below : (a b c : ℕ) → is_north_east b a ≡ true → is_north_east c a ≡ true → c < b → is_north_east c b ≡ true
north_east_below a b c h k l = let x = north_east_says b a h in let y = north_east_says c a k in north_east_from c b (omega arith) (omega arith)

pub north_west_on : (a b c : ℕ) → is_north_west a b ≡ true → is_north_west b c ≡ true → is_north_west a c ≡ true
north_west_on a b c h k = let x = north_west_says a b h in let y = north_west_says b c k in north_west_from a c (omega arith) (omega arith)

-- of two squares further on, the one with the greater number is the further one
north_west_above : (a b c : ℕ) → is_north_west a b ≡ true → is_north_west a c ≡ true → b < c → is_north_west b c ≡ true
north_west_above a b c h k l = let x = north_west_says a b h in let y = north_west_says a c k in north_west_from b c (omega arith) (omega arith)

north_west_below : (a b c : ℕ) → is_north_west b a ≡ true → is_north_west c a ≡ true → c < b → is_north_west c b ≡ true
north_west_below a b c h k l = let x = north_west_says b a h in let y = north_west_says c a k in north_west_from c b (omega arith) (omega arith)

north_self : (a : ℕ) → is_north a a ≡ false
north_self a = false_from_ne_true (is_north a a) (λ h. let x = north_says a a h in omega arith)

east_self : (a : ℕ) → is_east a a ≡ false
east_self a = false_from_ne_true (is_east a a) (λ h. let x = east_says a a h in omega arith)

north_east_self : (a : ℕ) → is_north_east a a ≡ false
north_east_self a = false_from_ne_true (is_north_east a a) (λ h. let x = north_east_says a a h in omega arith)

north_west_self : (a : ℕ) → is_north_west a a ≡ false
north_west_self a = false_from_ne_true (is_north_west a a) (λ h. let x = north_west_says a a h in omega arith)

-- further on in one direction
pub toward_on : (d : Direction) (a b c : ℕ) → toward d a b ≡ true → toward d b c ≡ true → toward d a c ≡ true
unfolding toward
toward_on North a b c h k = north_on a b c h k
toward_on NorthEast a b c h k = north_east_on a b c h k
toward_on East a b c h k = east_on a b c h k
toward_on SouthEast a b c h k = north_west_on c b a k h
toward_on South a b c h k = north_on c b a k h
toward_on SouthWest a b c h k = north_east_on c b a k h
toward_on West a b c h k = east_on c b a k h
toward_on NorthWest a b c h k = north_west_on a b c h k

-- back again
pub toward_back : (d : Direction) (a b : ℕ) → toward (opposite d) b a ≡ toward d a b
unfolding toward
toward_back North a b = refl
toward_back NorthEast a b = refl
toward_back East a b = refl
toward_back SouthEast a b = refl
toward_back South a b = refl
toward_back SouthWest a b = refl
toward_back West a b = refl
toward_back NorthWest a b = refl

-- of two squares in one direction, which lies further on is told by their numbers
pub toward_above : (d : Direction) (a b c : ℕ) → is_rising d ≡ true → toward d a b ≡ true → toward d a c ≡ true → b < c → toward d b c ≡ true
unfolding toward
toward_above North a b c r h k l = north_above a b c h k l
toward_above NorthEast a b c r h k l = north_east_above a b c h k l
toward_above East a b c r h k l = east_above a b c h k l
toward_above NorthWest a b c r h k l = north_west_above a b c h k l
toward_above SouthEast a b c r h k l = absurd (cc)
toward_above South a b c r h k l = absurd (cc)
toward_above SouthWest a b c r h k l = absurd (cc)
toward_above West a b c r h k l = absurd (cc)

pub toward_below : (d : Direction) (a b c : ℕ) → is_rising d ≡ false → toward d a b ≡ true → toward d a c ≡ true → c < b → toward d b c ≡ true
unfolding toward
toward_below North a b c r h k l = absurd (cc)
toward_below NorthEast a b c r h k l = absurd (cc)
toward_below East a b c r h k l = absurd (cc)
toward_below NorthWest a b c r h k l = absurd (cc)
toward_below SouthEast a b c r h k l = north_west_below a b c h k l
toward_below South a b c r h k l = north_below a b c h k l
toward_below SouthWest a b c r h k l = north_east_below a b c h k l
toward_below West a b c r h k l = east_below a b c h k l

pub toward_self : (d : Direction) (a : ℕ) → toward d a a ≡ false
unfolding toward
toward_self North a = north_self a
toward_self NorthEast a = north_east_self a
toward_self East a = east_self a
toward_self NorthWest a = north_west_self a
toward_self SouthEast a = north_west_self a
toward_self South a = north_self a
toward_self SouthWest a = north_east_self a
toward_self West a = east_self a

gap_back : (a b : ℕ) → gap b a ≡ gap a b
gap_back a b = add_comm (b - a) (a - b)

pub eqb_back : (a b : ℕ) → eqb b a ≡ eqb a b
eqb_back a b = grind (arith, nat_tests)

-- leaps that go back as they came
pub knight_back : (a b : ℕ) → leaps KnightLeap b a ≡ leaps KnightLeap a b
unfolding leaps
knight_back a b = rw (gap_back (a % 8) (b % 8), gap_back (a / 8) (b / 8))

pub king_back : (a b : ℕ) → leaps KingStep b a ≡ leaps KingStep a b
unfolding leaps
king_back a b = rw (gap_back (a % 8) (b % 8), gap_back (a / 8) (b / 8), eqb_back a b)

-- a square from which a colour's pawn captures, seen from its target
pub capture_mirrored : (by : Colour) (a b : ℕ) → leaps (capture_back by) b a ≡ leaps (capture_of by) a b
unfolding leaps
capture_mirrored White a b = rw (gap_back (a % 8) (b % 8))
capture_mirrored Black a b = rw (gap_back (a % 8) (b % 8))

-- of two squares in one direction, the one whose number comes later in it lies beyond the other
pub toward_later : (d : Direction) (a b c : ℕ) → toward d a b ≡ true → toward d a c ≡ true
    → (cond (is_rising d) (ltb b c) (ltb c b)) ≡ true → toward d b c ≡ true
toward_later d a b c h k l = (elim (is_rising d) as (λ x. is_rising d ≡ x → (cond x (ltb b c) (ltb c b)) ≡ true → toward d b c ≡ true) [
  | true ↦ λ r later. toward_above d a b c r h k (ltb-true b c later)
  | false ↦ λ r later. toward_below d a b c r h k (ltb-true c b later)
]) refl l

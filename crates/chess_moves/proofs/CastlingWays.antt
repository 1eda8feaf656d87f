-- What castling asks for, one fact each.
use Rattle.std.proofs.Common.{◌≡◌, ℕ, ◌<◌, ◌^◌, Bool, true, false, not, ◌&&◌, eqb, List, Option, is_some, refl, sym, ap, ◌∙◌, arith}
use Rattle.std.specs.Int.RustNames.{bit_and}
use Rattle.std.proofs.lemmas.Bool.{and_parts, eqb-true, eq-eqb, not-true}
use Rattle.std.proofs.lemmas.Nat.{and_le_l}
use Rattle.square_sets.specs.Members.{has}
use Rattle.chess_board.specs.declared.men.Colour.{Colour}
use Rattle.chess_board.specs.declared.men.Colour.TheVariants.{White, Black}
use Rattle.chess_board.specs.declared.men.Wing.{Wing}
use Rattle.chess_board.specs.declared.men.Wing.TheVariants.{KingSide, QueenSide}
use Rattle.chess_board.specs.declared.men.Man.{Man}
use Rattle.chess_board.specs.Men.{other_side, has_right_of}
use Rattle.chess_board.specs.Positions.{Setup}
use Rattle.chess_board.specs.Sets.{IsSetOf}
use Rattle.chess_board.specs.Attacks.{is_clear, is_attacked}
use Rattle.chess_board.specs.Squares.{crossed, all_below}
use Rattle.chess_board.specs.Castling.{king_home, rook_home, king_goal, castles_to}
use Rattle.chess_moves.specs.inside.Directions.{toward, stands_between}
use Rattle.chess_moves.specs.inside.Hits.{is_taken}
use Rattle.chess_moves.proofs.Connectives.{not_not}
use Rattle.chess_moves.proofs.AnyLemmas.{any_same}
use Rattle.chess_moves.proofs.SharedSquares.{meets_is}
use Rattle.chess_moves.proofs.Bridge.{clear_same}
use Rattle.chess_moves.proofs.LastRanks.{same, same_equal, each}

pub record Castles (p : Setup) (c : Colour) (w : Wing) (a b : ℕ) : Type 0 where
  pub right : has_right_of p.rights c w ≡ true
  pub home : a ≡ king_home c
  pub goal : b ≡ king_goal c w
  pub clear : is_clear p.men a (rook_home c w) ≡ true
  pub safe : is_attacked p.men a (other_side c) ≡ false
  pub safe_way : is_attacked p.men (crossed a b) (other_side c) ≡ false
  pub safe_goal : is_attacked p.men b (other_side c) ≡ false

pub castles_says : (p : Setup) (c : Colour) (w : Wing) (a b : ℕ) → castles_to p c w a b ≡ true → Castles p c w a b
castles_says p c w a b h =
    let right = has_right_of p.rights c w in
    let home = eqb a (king_home c) in
    let goal = eqb b (king_goal c w) in
    let clear = is_clear p.men a (rook_home c w) in
    let at_home = is_attacked p.men a (other_side c) in
    let at_way = is_attacked p.men (crossed a b) (other_side c) in
    let at_goal = is_attacked p.men b (other_side c) in
    let h6 = and_parts (right && home && goal && clear && not at_home && not at_way) (not at_goal) h in
    let h5 = and_parts (right && home && goal && clear && not at_home) (not at_way) h6.0 in
    let h4 = and_parts (right && home && goal && clear) (not at_home) h5.0 in
    let h3 = and_parts (right && home && goal) clear h4.0 in
    let h2 = and_parts (right && home) goal h3.0 in
    let h1 = and_parts right home h2.0 in
    record {
      right = h1.0;
      home = eqb-true a (king_home c) h1.1;
      goal = eqb-true b (king_goal c w) h2.1;
      clear = h3.1;
      safe = not-true at_home h4.1;
      safe_way = not-true at_way h5.1;
      safe_goal = not-true at_goal h6.1;
    }

pub castles_from : (p : Setup) (c : Colour) (w : Wing) (a b : ℕ) → Castles p c w a b → castles_to p c w a b ≡ true
castles_from p c w a b x =
    let home = eq-eqb a (king_home c) x.home in
    let goal = eq-eqb b (king_goal c w) x.goal in
    rw (x.right, home, goal, x.clear, x.safe, x.safe_way, x.safe_goal)

home_on_board : (c : Colour) → king_home c < 64
home_on_board White = omega arith
home_on_board Black = omega arith

rook_on_board : (c : Colour) (w : Wing) → rook_home c w < 64
rook_on_board White KingSide = omega arith
rook_on_board White QueenSide = omega arith
rook_on_board Black KingSide = omega arith
rook_on_board Black QueenSide = omega arith

-- the way is clear where the set of the squares between and the set of those that are taken share none
clear_by_sets : (men : List (Option Man)) (a b between occupied : ℕ) → a < 64 → b < 64 → between < 2 ^ 64
    → ((s : ℕ) → s < 64 → has between s ≡ stands_between a b s) → IsSetOf occupied is_some men
    → is_clear men a b ≡ eqb (bit_and between occupied) 0
clear_by_sets men a b between occupied j k fits rule set =
    clear_same men a b j k
    ∙ ap not (sym (meets_is between occupied (omega (arith, and_le_l between occupied))
    ∙ any_same (λ s. has between s && has occupied s) (λ s. stands_between a b s && is_taken men s) 64
    (λ s l. ap (λ (x : Bool). x && has occupied s) (rule s l) ∙ ap (λ (x : Bool). stands_between a b s && x) (set s l))))
    ∙ not_not (eqb (bit_and between occupied) 0)

-- the same of the way between a king and a rook at home
pub clear_way : (men : List (Option Man)) (c : Colour) (w : Wing) (home rook between occupied : ℕ) → home ≡ king_home c
    → rook ≡ rook_home c w → between < 2 ^ 64
    → ((s : ℕ) → s < 64 → has between s ≡ stands_between home rook s) → IsSetOf occupied is_some men
    → is_clear men home (rook_home c w) ≡ eqb (bit_and between occupied) 0
clear_way men c w home rook between occupied at_home at_corner fits rule set =
    let j : home < 64 = rw at_home (home_on_board c) in
    let k : rook < 64 = rw at_corner (rook_on_board c w) in
    ap (λ (r : ℕ). is_clear men home r) (sym at_corner) ∙ clear_by_sets men home rook between occupied j k fits rule set

-- the ways as sets
abbrev pub way_set : Colour → Wing → ℕ
way_set White KingSide = 96
way_set White QueenSide = 14
way_set Black KingSide = 6917529027641081856
way_set Black QueenSide = 1008806316530991104

way_tried : (c : Colour) (w : Wing) → all_below 64 (λ t. same (has (way_set c w) t) (stands_between (king_home c) (rook_home c w) t)) ≡ true
unfolding all_below stands_between toward
way_tried White KingSide = refl
way_tried White QueenSide = refl
way_tried Black KingSide = refl
way_tried Black QueenSide = refl

pub has-way_set : (c : Colour) (w : Wing) (t : ℕ) → t < 64 → has (way_set c w) t ≡ stands_between (king_home c) (rook_home c w) t
has-way_set c w t l =
    same_equal (has (way_set c w) t) (stands_between (king_home c) (rook_home c w) t)
    (each (λ s. same (has (way_set c w) s) (stands_between (king_home c) (rook_home c w) s)) 64 t (way_tried c w) l)

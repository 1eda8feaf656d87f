-- How many moves free pawns have together, told from the sets to which they go.
use Rattle.std.proofs.Common.{◌≡◌, ℕ, zero, suc, ◌+◌, ◌<◌, Bool, true, false, not, ◌&&◌, ◌||◌, eqb, cond, [], ◌∷◌}
use Rattle.std.proofs.Common.{filter, length, Some, None, refl, sym, ap, ◌∙◌, arith, length-append, bit_and}
use Rattle.std.specs.List.{flat_map}
use Rattle.std.proofs.lemmas.Bool.{and_parts, eqb-true}
use Rattle.std.proofs.lemmas.List.Elements.{filter-append}
use Rattle.std.proofs.Math.Bool.{or-false}
use Rattle.square_sets.specs.Members.{has, members_below, members}
use Rattle.chess_board.specs.declared.men.Colour.{Colour}
use Rattle.chess_board.specs.declared.men.Kind.TheVariants.{Pawn}
use Rattle.chess_board.specs.declared.men.Man.{Man}
use Rattle.chess_board.specs.Squares.{file_of, rank_of, crossed}
use Rattle.chess_board.specs.Men.{other_side, is_of, man_of}
use Rattle.chess_board.specs.Positions.{Setup, man_at, is_empty, moved}
use Rattle.chess_board.specs.PseudoLegal.{promotes, steps_once, steps_twice, takes}
use Rattle.chess_board.specs.MakeMove.{becomes}
use Rattle.chess_board.specs.Legality.{is_legal}
use Rattle.chess_moves.specs.declared.legality_info.LegalityInfo.{LegalityInfo}
use Rattle.chess_moves.specs.inside.Hits.{is_hit}
use Rattle.chess_moves.specs.inside.Leaps.{is_step, is_double, is_pawn_capture}
use Rattle.chess_moves.specs.inside.Listing.{move_of, promotions, moves_between, moves_to}
use Rattle.chess_moves.specs.inside.LegalityInfo.{IsLegalityInfoOf}
use Rattle.chess_moves.specs.inside.Shifts.{is_shifted, back, left_file, right_file, third_rank, AreFree}
use Rattle.chess_moves.specs.inside.LegalTargets.{ways}
use Rattle.chess_moves.specs.inside.MoveGeneration.{moves_of_men, HaveMenOf}
use Rattle.chess_moves.proofs.SetBits.{has_and}
use Rattle.chess_moves.proofs.Members.{flat_map-below_suc}
use Rattle.chess_moves.proofs.OwnColours.{other_colour, own_not_other}
use Rattle.chess_moves.proofs.OtherMen.{becomes_colour}
use Rattle.chess_moves.proofs.CapturedPawns.{plain_ways}
use Rattle.chess_moves.proofs.PawnTargets.{pawn_goes_safely}
use Rattle.chess_moves.proofs.Connectives.{and_when}
use Rattle.chess_moves.proofs.KeptWays.{ways_kept}
use Rattle.chess_moves.proofs.Unpinned.{safe_unpinned}
use Rattle.chess_moves.proofs.Tallies.{many_from, many_below, many_below_suc, many_none}
use Rattle.chess_moves.proofs.Sums.{sum_to, sum_same, sum_none, sum_four, sum_swap, sum_at}
use Rattle.chess_moves.proofs.PawnShifts.{goes_left, goes_right, step_back, double_back, crossed_back, capture_back_to, ways_apart, back_on}

-- how many moves a man has to a target
abbrev pub weight : Man → ℕ → ℕ
weight man t = cond (promotes man t) 4 1

ways_weight : (man : Man) (o t : ℕ) (b : Bool) → length (cond b (ways man o t) []) ≡ cond b (weight man t) 0
ways_weight man o t false = refl
ways_weight man o t true = one (promotes man t)
  where
    one : (q : Bool) → length (cond q (promotions o t) (move_of o t None ∷ [])) ≡ cond q 4 1
    one true = refl
    one false = refl

-- a man's ways to a set, target by target
ways_sum : (man : Man) (o set n : ℕ) → length (flat_map (ways man o) (members_below set n)) ≡ sum_to n (λ t. cond (has set t) (weight man t) 0)
unfolding sum_to members_below
ways_sum man o set zero = refl
ways_sum man o set (suc n) = omega (
  arith,
  ap length (flat_map-below_suc (ways man o) set n)
      ∙ length-append (flat_map (ways man o) (members_below set n)) (cond (has set n) (ways man o n) []),
  ways_sum man o set n,
  ways_weight man o n (has set n),
)

-- the legal moves from a square, target by target
from_sum : (p : Setup) (o n : ℕ) → length (filter (is_legal p) (moves_to o n)) ≡ sum_to n (λ t. length (filter (is_legal p) (moves_between o t)))
unfolding sum_to moves_to
from_sum p o zero = refl
from_sum p o (suc n) = omega (
  arith,
  ap length (filter-append (is_legal p) (moves_to o n) (moves_between o n))
      ∙ length-append (filter (is_legal p) (moves_to o n)) (filter (is_legal p) (moves_between o n)),
  from_sum p o n,
)

-- the legal moves of a set's men, man by man
men_sum : (p : Setup) (set n : ℕ) → many_below p set n ≡ sum_to n (λ o. cond (has set o) (many_from p o) 0)
unfolding sum_to
men_sum p set zero = many_none p set
men_sum p set (suc n) = omega (arith, many_below_suc p set n, men_sum p set n)

-- One of two ways that exclude each other.
either_way : (there r s a : Bool) (k : ℕ) → (r ≡ true → s ≡ false)
    → cond (there && ((r || s) && a)) k 0 ≡ cond (there && (r && a)) k 0 + cond (there && (s && a)) k 0
either_way false r s a k h = refl
either_way true false s a k h = omega arith
either_way true true s true k h = let e = h refl in rw e (omega arith)
either_way true true s false k h = let e = h refl in rw e refl

-- A pawn goes from behind.
from_behind : (at sh there here e a : Bool) → (at ≡ true → here ≡ there) → (at && (((sh && here) && e) && a)) ≡ (there && (((sh && at) && e) && a))
from_behind false true true here e a h = refl
from_behind false true false here e a h = refl
from_behind false false true here e a h = refl
from_behind false false false here e a h = refl
from_behind true sh there here e a h = rw (h refl) (same sh there)
  where
    same : (x y : Bool) → (((x && y) && e) && a) ≡ (y && (((x && true) && e) && a))
    same true true = refl
    same true false = refl
    same false true = refl
    same false false = refl

-- The same through the square of a double step, which is empty.
from_far_behind : (at sh sh2 there here under third crossed e a : Bool) → (at ≡ true → here ≡ there)
    → ((sh && sh2 && at && third) ≡ true → crossed ≡ under)
    → (at && (((sh && (((sh2 && here) && under) && third)) && e) && a)) ≡ (there && ((((sh && sh2 && at && third) && crossed) && e) && a))
from_far_behind at false sh2 there here under third crossed e a h g = none at there
  where
    none : (x y : Bool) → (x && false) ≡ (y && false)
    none true true = refl
    none true false = refl
    none false true = refl
    none false false = refl
from_far_behind false true sh2 there here under third crossed e a h g = none sh2 there
  where
    none : (x y : Bool) → false ≡ (y && ((((x && false && third) && crossed) && e) && a))
    none true true = refl
    none true false = refl
    none false true = refl
    none false false = refl
from_far_behind true true false there here under third crossed e a h g = none there
  where
    none : (y : Bool) → false ≡ (y && false)
    none true = refl
    none false = refl
from_far_behind true true true there here under false crossed e a h g = none (here && under) there
  where
    none : (x y : Bool) → (((x && false) && e) && a) ≡ (y && false)
    none true true = refl
    none true false = refl
    none false true = refl
    none false false = refl
from_far_behind true true true there here under true crossed e a h g = rw (h refl, g refl) (same there under)
  where
    same : (x y : Bool) → ((((x && y) && true) && e) && a) ≡ (x && ((y && e) && a))
    same true true = refl
    same true false = refl
    same false y = refl

-- The same for a capture, from a file with a neighbour.
from_beside : (at sh there here far off e a : Bool) → (at ≡ true → here ≡ there) → (at ≡ true → far ≡ off)
    → (at && (((sh && (here && not far)) && e) && a)) ≡ (there && (((sh && at && not off) && e) && a))
from_beside false sh there here far off e a h g = none sh there
  where
    none : (x y : Bool) → false ≡ (y && (((x && false && not off) && e) && a))
    none true true = refl
    none true false = refl
    none false true = refl
    none false false = refl
from_beside true sh there here far off e a h g = rw (h refl, g refl) (same sh there off)
  where
    same : (x y z : Bool) → (((x && (y && not z)) && e) && a) ≡ (y && (((x && true && not z) && e) && a))
    same true true z = refl
    same true false z = refl
    same false true z = refl
    same false false z = refl

module _ (info : LegalityInfo) (p : Setup) (pawns once twice left right : ℕ) (h : IsLegalityInfoOf info p)
    (men : HaveMenOf Pawn pawns p) (free : AreFree pawns info p)
    (once_is : (t : ℕ) → t < 64 → has once t ≡ ((is_shifted info.side 8 t && has pawns (back info.side 8 t)) && is_empty p.men t))
    (twice_is : (t : ℕ) → t < 64 → has twice t ≡ ((is_shifted info.side 8 t
    && (has once (back info.side 8 t) && eqb (rank_of (back info.side 8 t)) (third_rank info.side))) && is_empty p.men t))
    (left_is : (t : ℕ) → t < 64 → has left t ≡ ((is_shifted info.side 7 t && (has pawns (back info.side 7 t)
    && not (eqb (file_of (back info.side 7 t)) (left_file info.side)))) && is_of (other_side info.side) (man_at p.men t)))
    (right_is : (t : ℕ) → t < 64 → has right t ≡ ((is_shifted info.side 9 t && (has pawns (back info.side 9 t) && not (eqb
    (file_of (back info.side 9 t)) (right_file info.side)))) && is_of (other_side info.side) (man_at p.men t))) where
  -- A free pawn's moves are to the squares to which it goes plainly and answers the checks that there are.
  between : (o t : ℕ) → o < 64 → t < 64 → has pawns o ≡ true
      → filter (is_legal p) (moves_between o t) ≡ cond (plain_ways p.men info.side o t && has info.check_mask t)
      (ways (record { colour = info.side; kind = Pawn }) o t) []
  between o t o_on on there =
      let man : Man = record { colour = info.side; kind = Pawn } in
      let stands : man_at p.men o ≡ Some man = men o o_on there ∙ ap (λ (c : Colour). man_of c Pawn) (sym h.side) in
      let f = free o o_on there in
      let plain : Bool = plain_ways p.men info.side o t in
      ways_kept p man o t (plain && has info.check_mask t) stands h.side (λ r suited.
      let own = other_colour (becomes man r).colour p.side (becomes_colour man r ∙ h.side) in
      let safe : has info.check_mask t ≡ not (is_hit (moved p.men o t (becomes man r)) info.king (other_side p.side)) =
      h.check_mask o t o_on on f.0 ∙ safe_unpinned p.men (becomes man r) info.king o t (other_side p.side) h.sound.squares on own
      (λ a l. h.pin_squares o a o_on l f.0 (own_not_other p man o stands h.side)) in
      let passing = f.1 t on in
      pawn_goes_safely info p man o t r (has info.check_mask t) h stands h.side refl suited safe
      ∙ rw passing (or-false (plain && has info.check_mask t)))

  -- It goes there in one of four ways, each from one square.
  by_way : (o t k : ℕ) → o < 64 → t < 64
      → cond (has pawns o && (plain_ways p.men info.side o t && has info.check_mask t)) k 0
      ≡ cond (eqb o (back info.side 8 t) && has (bit_and once info.check_mask) t) k 0
      + cond (eqb o (back info.side 8 (back info.side 8 t)) && has (bit_and twice info.check_mask) t) k 0
      + cond (eqb o (back info.side 7 t) && has (bit_and left info.check_mask) t) k 0
      + cond (eqb o (back info.side 9 t) && has (bit_and right info.check_mask) t) k 0
  by_way o t k o_on on =
      let c : Colour = info.side in
      let a : Bool = has info.check_mask t in
      let there : Bool = has pawns o in
      let enemy : Bool = is_of (other_side c) (man_at p.men t) in
      let r1 : Bool = steps_once p.men c o t in
      let r2 : Bool = steps_twice p.men c o t in
      let taking : Bool = takes p.men c Pawn o t in
      let r3 : Bool = goes_left c o t && enemy in
      let r4 : Bool = goes_right c o t && enemy in
      let s : ℕ = back c 8 t in
      let q2 : ℕ = back c 8 s in
      let q3 : ℕ = back c 7 t in
      let q4 : ℕ = back c 9 t in
      let at_s : ℕ → Bool = λ q. eqb o q in
      let ways' = ways_apart c o t o_on on in
      let moved_here = λ (q : ℕ) (e : eqb o q ≡ true). ap (has pawns) (sym (eqb-true o q e)) in
      let steps_off : (r1 || r2) ≡ true → taking ≡ false = λ x. first_false (is_pawn_capture c o t) enemy (ways'.1
      (either (is_step c o t) (is_empty p.men t) (is_double c o t) (is_empty p.men (crossed o t)) (is_empty p.men t) x)) in
      let once_off : r1 ≡ true → r2 ≡ false = λ x. second_false (is_double c o t) (is_empty p.men (crossed o t))
      (is_empty p.men t) (ways'.0 ((and_parts (is_step c o t) (is_empty p.men t) x).0)) in
      let left_off : r3 ≡ true → r4 ≡ false = λ x. first_false (goes_right c o t) enemy (ways'.2 ((and_parts (goes_left c o t) enemy x).0)) in
      let takes_is : taking ≡ (r3 || r4) =
      ap (λ (x : Bool). x && enemy) (capture_back_to c o t o_on on) ∙ spread (goes_left c o t) (goes_right c o t) enemy in
      let taken = ap (λ (x : Bool). cond (there && (x && a)) k 0) takes_is ∙ either_way there r3 r4 a k left_off in
      let f1 : (eqb o s && has (bit_and once info.check_mask) t) ≡ (there && (r1 && a)) =
      ap (λ (x : Bool). eqb o s && x) (has_and once info.check_mask t ∙ ap (λ (x : Bool). x && a) (once_is t on))
      ∙ from_behind (eqb o s) (is_shifted c 8 t) there (has pawns s) (is_empty p.men t) a (moved_here s)
      ∙ ap (λ (x : Bool). there && ((x && is_empty p.men t) && a)) (sym (step_back c o t o_on on)) in
      let through : (is_shifted c 8 t && (has once s && eqb (rank_of s) (third_rank c)))
      ≡ (is_shifted c 8 t && (((is_shifted c 8 s && has pawns q2) && is_empty p.men s) && eqb (rank_of s) (third_rank c))) =
      and_when (is_shifted c 8 t) _ _ (λ e. ap (λ (x : Bool). x && eqb (rank_of s) (third_rank c)) (once_is s (back_on c 8 t on e))) in
      let f2 : (eqb o q2 && has (bit_and twice info.check_mask) t) ≡ (there && (r2 && a)) =
      ap (λ (x : Bool). eqb o q2 && x) (has_and twice info.check_mask t
      ∙ ap (λ (x : Bool). x && a) (twice_is t on ∙ ap (λ (x : Bool). x && is_empty p.men t) through))
      ∙ from_far_behind (eqb o q2) (is_shifted c 8 t) (is_shifted c 8 s) there (has pawns q2) (is_empty p.men s)
      (eqb (rank_of s) (third_rank c)) (is_empty p.men (crossed o t)) (is_empty p.men t) a (moved_here q2)
      (λ e. ap (λ (u : ℕ). is_empty p.men u) (crossed_back c o t o_on on (double_back c o t o_on on ∙ e)))
      ∙ ap (λ (x : Bool). there && (((x && is_empty p.men (crossed o t)) && is_empty p.men t) && a)) (sym (double_back c o t o_on on)) in
      let f3 : (eqb o q3 && has (bit_and left info.check_mask) t) ≡ (there && (r3 && a)) =
      ap (λ (x : Bool). eqb o q3 && x) (has_and left info.check_mask t ∙ ap (λ (x : Bool). x && a) (left_is t on))
      ∙ from_beside (eqb o q3) (is_shifted c 7 t) there (has pawns q3) (eqb (file_of q3) (left_file c))
      (eqb (file_of o) (left_file c)) enemy a (moved_here q3)
      (λ e. ap (λ (u : ℕ). eqb (file_of u) (left_file c)) (sym (eqb-true o q3 e))) in
      let f4 : (eqb o q4 && has (bit_and right info.check_mask) t) ≡ (there && (r4 && a)) =
      ap (λ (x : Bool). eqb o q4 && x) (has_and right info.check_mask t ∙ ap (λ (x : Bool). x && a) (right_is t on))
      ∙ from_beside (eqb o q4) (is_shifted c 9 t) there (has pawns q4) (eqb (file_of q4) (right_file c))
      (eqb (file_of o) (right_file c)) enemy a (moved_here q4)
      (λ e. ap (λ (u : ℕ). eqb (file_of u) (right_file c)) (sym (eqb-true o q4 e))) in
      let count : Bool → ℕ = λ x. cond x k 0 in
      omega (
        arith,
        either_way there (r1 || r2) taking a k steps_off,
        either_way there r1 r2 a k once_off,
        taken,
        ap count f1,
        ap count f2,
        ap count f3,
        ap count f4,
      )
    where
      first_false : (x y : Bool) → x ≡ false → (x && y) ≡ false
      first_false x y e = rw e

      second_false : (x y z : Bool) → x ≡ false → ((x && y) && z) ≡ false
      second_false x y z e = rw e

      spread : (x y z : Bool) → ((x || y) && z) ≡ ((x && z) || (y && z))
      spread true y true = refl
      spread true true false = refl
      spread true false false = refl
      spread false y z = refl

      either : (x y u v w : Bool) → ((x && y) || ((u && v) && w)) ≡ true → (x || u) ≡ true
      either true y u v w e = refl
      either false y true v w e = refl
      either false y false v w e = cc

  -- from all squares
  to_target : (t k : ℕ) → t < 64
      → sum_to 64 (λ o. cond (has pawns o && (plain_ways p.men info.side o t && has info.check_mask t)) k 0)
      ≡ cond (has (bit_and once info.check_mask) t) k 0 + cond (has (bit_and twice info.check_mask) t) k 0
      + cond (has (bit_and left info.check_mask) t) k 0 + cond (has (bit_and right info.check_mask) t) k 0
  to_target t k on =
      let c : Colour = info.side in
      let a : Bool = has info.check_mask t in
      let s : ℕ = back c 8 t in
      let q2 : ℕ = back c 8 s in
      let from_one = λ (q set : ℕ) (bound : has (bit_and set info.check_mask) t ≡ true → q < 64).
      sum_at 64 q k (has (bit_and set info.check_mask) t) bound in
      let inner = λ (set : ℕ) (e : has (bit_and set info.check_mask) t ≡ true).
      (and_parts (has set t) a (sym (has_and set info.check_mask t) ∙ e)).0 in
      let e1 = from_one s once (λ e. back_on c 8 t on (first_of _ _ (first_of _ _ (sym (once_is t on) ∙ inner once e)))) in
      let e2 = from_one q2 twice (λ e.
      let x = and_parts _ _ (first_of _ _ (sym (twice_is t on) ∙ inner twice e)) in
      let s_on = back_on c 8 t on x.0 in
      back_on c 8 s s_on (first_of _ _ (first_of _ _ (sym (once_is s s_on) ∙ first_of _ _ x.1)))) in
      let e3 = from_one (back c 7 t) left (λ e. back_on c 7 t on (first_of _ _ (first_of _ _ (sym (left_is t on) ∙ inner left e)))) in
      let e4 = from_one (back c 9 t) right (λ e. back_on c 9 t on (first_of _ _ (first_of _ _ (sym (right_is t on) ∙ inner right e)))) in
      sum_same 64 _ _ (λ o o_on. by_way o t k o_on on)
      ∙ sum_four 64 (λ o. cond (eqb o s && has (bit_and once info.check_mask) t) k 0) (λ o. cond (eqb o q2 && has
      (bit_and twice info.check_mask) t) k 0) (λ o. cond (eqb o (back c 7 t) && has (bit_and left info.check_mask) t) k 0)
      (λ o. cond (eqb o (back c 9 t) && has (bit_and right info.check_mask) t) k 0)
      ∙ omega (arith, e1, e2, e3, e4)
    where
      first_of : (x y : Bool) → (x && y) ≡ true → x ≡ true
      first_of x y e = (and_parts x y e).0

  -- of one pawn
  of_pawn : (o : ℕ) → o < 64
      → cond (has pawns o) (many_from p o) 0 ≡ sum_to 64 (λ t. cond (has pawns o
      && (plain_ways p.men info.side o t && has info.check_mask t)) (weight (record { colour = info.side; kind = Pawn }) t) 0)
  of_pawn o o_on =
      let man : Man = record { colour = info.side; kind = Pawn } in
      let there' : ℕ → Bool = λ t. plain_ways p.men info.side o t && has info.check_mask t in
      (elim (has pawns o) as (λ b. has pawns o ≡ b → cond b (many_from p o) 0 ≡ sum_to 64 (λ t. cond (b && there' t) (weight man t) 0)) [
        | true ↦ λ e. from_sum p o 64 ∙ sum_same 64 _ _ (λ t on. ap length (between o t o_on on e) ∙ ways_weight man o t (there' t))
        | false ↦ λ e. sym (sum_none 64 (λ t. cond (false && there' t) (weight man t) 0) (λ t on. refl))
      ]) refl

  -- Their moves are those to the four sets of targets.
  pub free_pawns : length (moves_of_men p (members pawns))
      ≡ length (flat_map (ways (record { colour = info.side; kind = Pawn }) 0) (members (bit_and once info.check_mask)))
      + length (flat_map (ways (record { colour = info.side; kind = Pawn }) 0) (members (bit_and twice info.check_mask)))
      + length (flat_map (ways (record { colour = info.side; kind = Pawn }) 0) (members (bit_and left info.check_mask)))
      + length (flat_map (ways (record { colour = info.side; kind = Pawn }) 0) (members (bit_and right info.check_mask)))
  unfolding members
  free_pawns =
      let man : Man = record { colour = info.side; kind = Pawn } in
      let each_to = λ (set : ℕ) (t : ℕ). cond (has (bit_and set info.check_mask) t) (weight man t) 0 in
      let in_set = λ (set : ℕ). ways_sum man 0 (bit_and set info.check_mask) 64 in
      let sums = men_sum p pawns 64
      ∙ sum_same 64 _ _ (λ o o_on. of_pawn o o_on)
      ∙ sum_swap 64 64 (λ o t. cond (has pawns o && (plain_ways p.men info.side o t && has info.check_mask t)) (weight man t) 0)
      ∙ sum_same 64 _ _ (λ t on. to_target t (weight man t) on)
      ∙ sum_four 64 (each_to once) (each_to twice) (each_to left) (each_to right) in
      omega (arith, sums, in_set once, in_set twice, in_set left, in_set right)

-- How many legal moves the men of a set have, told from its parts.
use Rattle.std.proofs.Common.{◌≡◌, ℕ, zero, suc, ◌+◌, ◌<◌, ◌≤◌, ◌^◌, Bool, true, false, not, eqb, ◌&&◌, cond, [], filter, length}
use Rattle.std.proofs.Common.{Option, Some, None, refl, sym, subst, ap, ◌∙◌, arith, length-append, w64, bit_and, bit_or, ◌||◌}
use Rattle.std.specs.Int.{bit_not}
use Rattle.std.proofs.lemmas.Bool.{and_parts}
use Rattle.square_sets.specs.Members.{has, members_below, members}
use Rattle.square_sets.specs.BitScan.{IsLowest, IsSplit}
use Rattle.chess_board.specs.declared.men.Colour.{Colour}
use Rattle.chess_board.specs.declared.men.Colour.TheVariants.{White, Black}
use Rattle.chess_board.specs.declared.men.Kind.{Kind}
use Rattle.chess_board.specs.declared.men.Kind.TheVariants.{Pawn, Knight, Bishop, Rook, Queen, King}
use Rattle.chess_board.specs.declared.men.Man.{Man}
use Rattle.chess_board.specs.Men.{is_colour, is_kind, is_of, is_man, man_of}
use Rattle.chess_board.specs.Positions.{Setup, man_at}
use Rattle.chess_board.specs.Sets.{IsSetOf}
use Rattle.chess_board.specs.Soundness.{IsSound}
use Rattle.chess_board.specs.Legality.{is_legal}
use Rattle.chess_moves.specs.inside.Listing.{moves_to, legal_moves}
use Rattle.chess_moves.specs.inside.MoveGeneration.{moves_of_men, HaveMenOf}
use Rattle.chess_moves.proofs.SetBits.{has_and, has_or, has_less}
use Rattle.chess_moves.proofs.Members.{flat_map-below_suc}
use Rattle.chess_moves.proofs.Walks.{legal_of_men}
use Rattle.chess_moves.proofs.Few.{few_legal}
use Rattle.chess_moves.proofs.OwnColours.{same_colour}

-- how many legal moves there are from one square
abbrev pub many_from : Setup → ℕ → ℕ
many_from p o = length (filter (is_legal p) (moves_to o 64))

-- and from the squares of a set below n
abbrev pub many_below : Setup → ℕ → ℕ → ℕ
many_below p set n = length (moves_of_men p (members_below set n))

pub many_below_suc : (p : Setup) (set n : ℕ) → many_below p set (suc n) ≡ many_below p set n + cond (has set n) (many_from p n) 0
many_below_suc p set n =
    let here : ℕ → _ = λ o. filter (is_legal p) (moves_to o 64) in
    ap length (flat_map-below_suc here set n)
    ∙ length-append (moves_of_men p (members_below set n)) (cond (has set n) (here n) [])
    ∙ ap (λ (x : ℕ). many_below p set n + x) (one (has set n))
  where
    one : (b : Bool) → length (cond b (filter (is_legal p) (moves_to n 64)) []) ≡ cond b (many_from p n) 0
    one true = refl
    one false = refl

pub many_none : (p : Setup) (set : ℕ) → many_below p set 0 ≡ 0
unfolding members_below
many_none p set = refl

-- a set within another has no more moves
within_below : (p : Setup) (part whole n : ℕ) → n ≤ 64 → ((s : ℕ) → s < 64 → has part s ≡ true → has whole s ≡ true)
    → many_below p part n ≤ many_below p whole n
within_below p part whole zero h within = omega (arith, many_none p part, many_none p whole)
within_below p part whole (suc n) h within =
    omega (
      arith,
      many_below_suc p part n,
      many_below_suc p whole n,
      within_below p part whole n (omega arith) within,
      less (has part n) (has whole n) (many_from p n) (within n (omega arith)),
    )
  where
    less : (a b : Bool) (k : ℕ) → (a ≡ true → b ≡ true) → cond a k 0 ≤ cond b k 0
    less true b k f = let e = f refl in rw e (omega arith)
    less false b k f = omega arith

pub many_within : (p : Setup) (part whole : ℕ) → ((s : ℕ) → s < 64 → has part s ≡ true → has whole s ≡ true)
    → length (moves_of_men p (members part)) ≤ length (moves_of_men p (members whole))
unfolding members
many_within p part whole within = within_below p part whole 64 (omega arith) within

-- each own man is of one kind
one_kind : (c : Colour) (place : Option Man) (k : ℕ)
    → cond (is_of c place) k 0
    ≡ cond (is_man c Pawn place) k 0 + cond (is_man c Knight place) k 0 + cond (is_man c Bishop place) k 0
    + cond (is_man c Rook place) k 0 + cond (is_man c Queen place) k 0 + cond (is_man c King place) k 0
one_kind c None k = refl
one_kind c (Some man) k = own (is_colour c man.colour) man.kind
  where
    own : (x : Bool) (m : Kind)
        → cond x k 0
        ≡ cond (x && is_kind Pawn m) k 0 + cond (x && is_kind Knight m) k 0 + cond (x && is_kind Bishop m) k 0
        + cond (x && is_kind Rook m) k 0 + cond (x && is_kind Queen m) k 0 + cond (x && is_kind King m) k 0
    own false m = refl
    own true Pawn = omega arith
    own true Knight = omega arith
    own true Bishop = omega arith
    own true Rook = omega arith
    own true Queen = omega arith
    own true King = omega arith

kinds_below : (p : Setup) (own pawns knights bishops rooks queens kings n : ℕ) → n ≤ 64
    → IsSetOf own (is_of p.side) p.men → IsSetOf pawns (is_man p.side Pawn) p.men → IsSetOf knights (is_man p.side Knight) p.men
    → IsSetOf bishops (is_man p.side Bishop) p.men
    → IsSetOf rooks (is_man p.side Rook) p.men → IsSetOf queens (is_man p.side Queen) p.men → IsSetOf kings (is_man p.side King) p.men
    → many_below p own n ≡ many_below p pawns n + many_below p knights n + many_below p bishops n + many_below p rooks n
    + many_below p queens n + many_below p kings n
kinds_below p own pawns knights bishops rooks queens kings zero h io ip ik ib ir iq ig =
    omega (
      arith,
      many_none p own,
      many_none p pawns,
      many_none p knights,
      many_none p bishops,
      many_none p rooks,
      many_none p queens,
      many_none p kings,
    )
kinds_below p own pawns knights bishops rooks queens kings (suc n) h io ip ik ib ir iq ig =
    omega (
      arith,
      many_below_suc p own n,
      many_below_suc p pawns n,
      many_below_suc p knights n,
      many_below_suc p bishops n,
      many_below_suc p rooks n,
      many_below_suc p queens n,
      many_below_suc p kings n,
      kinds_below p own pawns knights bishops rooks queens kings n (omega arith) io ip ik ib ir iq ig,
      here,
    )
  where
    here : cond (has own n) (many_from p n) 0
        ≡ cond (has pawns n) (many_from p n) 0 + cond (has knights n) (many_from p n) 0 + cond (has bishops n) (many_from p n) 0
        + cond (has rooks n) (many_from p n) 0 + cond (has queens n) (many_from p n) 0 + cond (has kings n) (many_from p n) 0
    here = let on : n < 64 = omega arith in
        rw (io n on, ip n on, ik n on, ib n on, ir n on, iq n on, ig n on) (one_kind p.side (man_at p.men n) (many_from p n))

-- The moves of the side's men are those of its pawns, of its knights and so on.
pub many_by_kinds : (p : Setup) (side : Colour) (own pawns knights bishops rooks queens kings : ℕ) → side ≡ p.side
    → IsSetOf own (is_of p.side) p.men → IsSetOf pawns (is_man side Pawn) p.men → IsSetOf knights (is_man side Knight) p.men
    → IsSetOf bishops (is_man side Bishop) p.men
    → IsSetOf rooks (is_man side Rook) p.men → IsSetOf queens (is_man side Queen) p.men → IsSetOf kings (is_man side King) p.men
    → length (legal_moves p)
    ≡ length (moves_of_men p (members pawns)) + length (moves_of_men p (members knights))
    + length (moves_of_men p (members bishops)) + length (moves_of_men p (members rooks))
    + length (moves_of_men p (members queens)) + length (moves_of_men p (members kings))
unfolding members
many_by_kinds p side own pawns knights bishops rooks queens kings same io ip ik ib ir iq ig =
    let set_of : (kind : Kind) (set : ℕ) → IsSetOf set (is_man side kind) p.men → IsSetOf set (is_man p.side kind) p.men =
    λ kind set is. subst (λ s. IsSetOf set (is_man s kind) p.men) same is in
    ap length (legal_of_men p own io)
    ∙ kinds_below p own pawns knights bishops rooks queens kings 64 (omega arith) io (set_of Pawn pawns ip)
    (set_of Knight knights ik) (set_of Bishop bishops ib) (set_of Rook rooks ir) (set_of Queen queens iq) (set_of King kings ig)

pub same_kind : (a b : Kind) → is_kind a b ≡ true → b ≡ a
same_kind Pawn Pawn h = refl
same_kind Knight Knight h = refl
same_kind Bishop Bishop h = refl
same_kind Rook Rook h = refl
same_kind Queen Queen h = refl
same_kind King King h = refl
same_kind a b h = cc

-- The set of a kind's men has men of that kind.
pub men_of_kind : (p : Setup) (side : Colour) (asked : Kind) (set : ℕ) → side ≡ p.side → IsSetOf set (is_man side asked) p.men → HaveMenOf asked set p
men_of_kind p side asked set same is s l on = by_place (man_at p.men s) (sym (is s l) ∙ on)
  where
    same_side : (a b : Colour) → is_colour a b ≡ true → b ≡ a
    same_side White White h = refl
    same_side Black Black h = refl
    same_side a b h = cc

    by_place : (place : Option Man) → is_man side asked place ≡ true → place ≡ man_of p.side asked
    by_place None h = cc
    by_place (Some man) h =
        let both = and_parts (is_colour side man.colour) (is_kind asked man.kind) h in
        let c = same_side side man.colour both.0 ∙ same in
        let k = same_kind asked man.kind both.1 in
        rw (← c, ← k) refl

-- Such men are own men.
pub own_of_kind : (p : Setup) (asked : Kind) (set own : ℕ) → HaveMenOf asked set p → IsSetOf own (is_of p.side) p.men → (s : ℕ)
    → s < 64 → has set s ≡ true → has own s ≡ true
own_of_kind p asked set own men is s l on = rw (is s l, men s l on) (same_colour p.side p.side refl)

-- They have few moves.
pub few_of_kind : (p : Setup) (asked : Kind) (set own : ℕ) → IsSound p → IsSetOf own (is_of p.side) p.men → HaveMenOf asked set p
    → length (moves_of_men p (members set)) ≤ 1024
few_of_kind p asked set own sound is men =
    omega (arith, many_within p set own (own_of_kind p asked set own men is), few_legal p sound, ap length (legal_of_men p own is))

-- One stands on each square of the set, and of what is left of it.
pub there_of_kind : (p : Setup) (asked : Kind) (set o : ℕ) (side : Colour) → side ≡ p.side → IsLowest o set
    → HaveMenOf asked set p → man_at p.men o ≡ man_of side asked
there_of_kind p asked set o side same lowest men = rw same (men o lowest.on_board lowest.there)

pub others_of_kind : (p : Setup) (asked : Kind) (set o rest : ℕ) → IsSplit set o rest → HaveMenOf asked set p → HaveMenOf asked rest p
others_of_kind p asked set o rest split men t k e = men t k ((and_parts (not (eqb t o)) (has set t) (sym (split.others t k) ∙ e)).1)

-- A set's moves are those of a part and those of the rest.
parts_below : (p : Setup) (set part n : ℕ) → n ≤ 64 → part < 2 ^ 64 → ((s : ℕ) → s < 64 → has part s ≡ true → has set s ≡ true)
    → many_below p set n ≡ many_below p part n + many_below p (bit_and set (bit_not w64 part)) n
parts_below p set part zero h fits within = omega (arith, many_none p set, many_none p part, many_none p (bit_and set (bit_not w64 part)))
parts_below p set part (suc n) h fits within =
    omega (
      arith,
      many_below_suc p set n,
      many_below_suc p part n,
      many_below_suc p (bit_and set (bit_not w64 part)) n,
      parts_below p set part n (omega arith) fits within,
      here,
    )
  where
    one : (a b : Bool) (k : ℕ) → (b ≡ true → a ≡ true) → cond a k 0 ≡ cond b k 0 + cond (a && not b) k 0
    one true true k f = omega arith
    one true false k f = omega arith
    one false true k f = let e = f refl in cc
    one false false k f = refl

    here : cond (has set n) (many_from p n) 0 ≡ cond (has part n) (many_from p n) 0 + cond (has (bit_and set (bit_not w64 part)) n) (many_from p n) 0
    here = let on : n < 64 = omega arith in rw (has_less set part n fits on) (one (has set n) (has part n) (many_from p n) (within n on))

pub many_parts : (p : Setup) (set part : ℕ) → part < 2 ^ 64 → ((s : ℕ) → s < 64 → has part s ≡ true → has set s ≡ true)
    → length (moves_of_men p (members set))
    ≡ length (moves_of_men p (members part)) + length (moves_of_men p (members (bit_and set (bit_not w64 part))))
unfolding members
many_parts p set part fits within = parts_below p set part 64 (omega arith) fits within

-- What is left of a set without what it shares with two others is in neither.
pub rest_of_set : (set a b s : ℕ) → bit_and set (bit_or a b) < 2 ^ 64 → s < 64 → has (bit_and set (bit_not w64 (bit_and set (bit_or a b)))) s ≡ true
    → (has set s ≡ true) × (has a s ≡ false) × (has b s ≡ false)
rest_of_set set a b s fits on there = split (has set s) (has a s) (has b s) (sym parts ∙ there)
  where
    parts : has (bit_and set (bit_not w64 (bit_and set (bit_or a b)))) s ≡ (has set s && not (has set s && (has a s || has b s)))
    parts = rw (has_less set (bit_and set (bit_or a b)) s fits on, has_and set (bit_or a b) s, has_or a b s) refl

    split : (x y z : Bool) → (x && not (x && (y || z))) ≡ true → (x ≡ true) × (y ≡ false) × (z ≡ false)
    split true true z h = cc
    split true false true h = cc
    split true false false h = (refl, refl, refl)
    split false y z h = cc

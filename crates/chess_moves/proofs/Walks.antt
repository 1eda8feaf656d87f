-- The legal moves, told from the squares of the men and from the targets of each.
use Rattle.std.proofs.Common.{◌≡◌, ℕ, zero, suc, ◌+◌, ◌≤◌, true, false, not, eqb, cond, List, [], ◌∷◌, ◌++◌}
use Rattle.std.proofs.Common.{filter, length, Option, Some, None, refl, sym, ap, ◌∙◌, arith, length-append}
use Rattle.std.specs.List.{flat_map}
use Rattle.std.proofs.lemmas.Bool.{and_parts}
use Rattle.std.proofs.lemmas.List.Elements.{filter-append}
use Rattle.square_sets.specs.Members.{has, members_below, members}
use Rattle.square_sets.specs.BitScan.{IsSplit}
use Rattle.chess_board.specs.declared.men.Kind.{Kind}
use Rattle.chess_board.specs.declared.men.Kind.TheVariants.{Pawn, Knight, Bishop, Rook, Queen, King}
use Rattle.chess_board.specs.declared.men.Man.{Man}
use Rattle.chess_board.specs.Men.{is_of}
use Rattle.chess_board.specs.Positions.{Setup}
use Rattle.chess_board.specs.Sets.{IsSetOf}
use Rattle.chess_board.specs.Moves.{Move}
use Rattle.chess_board.specs.PseudoLegal.{promotes}
use Rattle.chess_board.specs.Legality.{is_legal}
use Rattle.chess_moves.specs.inside.Listing.{move_of, moves_between, moves_to, moves_below, legal_moves}
use Rattle.chess_moves.specs.inside.LegalTargets.{ways, AreTargets}
use Rattle.chess_moves.specs.inside.MoveGeneration.{next_promotion, moves_from, moves_of_men, HaveOwnMen}
use Rattle.chess_moves.proofs.Members.{no_members, flat_map-below_suc}
use Rattle.chess_moves.proofs.Few.{none_from}

-- One man's moves.

legal_to_below : (p : Setup) (man : Man) (o set n : ℕ) → AreTargets set p man o → n ≤ 64
    → filter (is_legal p) (moves_to o n) ≡ flat_map (ways man o) (members_below set n)
unfolding moves_to members_below
legal_to_below p man o set zero targets h = refl
legal_to_below p man o set (suc n) targets h =
    filter-append (is_legal p) (moves_to o n) (moves_between o n)
    ∙ ap (λ (ms : List Move). ms ++ filter (is_legal p) (moves_between o n)) (legal_to_below p man o set n targets (omega arith))
    ∙ ap (λ (ms : List Move). flat_map (ways man o) (members_below set n) ++ ms) (targets n (omega arith))
    ∙ sym (flat_map-below_suc (ways man o) set n)

-- the legal moves from a square are a man's ways to its targets
pub legal_to : (p : Setup) (man : Man) (o set : ℕ) → AreTargets set p man o
    → filter (is_legal p) (moves_to o 64) ≡ flat_map (ways man o) (members set)
unfolding members
legal_to p man o set targets = legal_to_below p man o set 64 targets (omega arith)

-- From the first promotion on they are all.
pub all_ways : (man : Man) (o : ℕ) (ts : List ℕ) → moves_from Knight man o ts ≡ flat_map (ways man o) ts
all_ways man o [] = refl
all_ways man o (t ∷ ts) = refl

-- what the man becomes first on a target
abbrev pub promotion_at : Kind → Man → ℕ → Option Kind
promotion_at first man t = cond (promotes man t) (Some first) None

-- what is left of a man's moves to t and to these targets after it: where no promotion follows, those to the targets after it
abbrev moves_after : Option Kind → Man → ℕ → ℕ → List ℕ → List Move
moves_after None man o t ts = moves_from Knight man o ts
moves_after (Some later) man o t ts = moves_from later man o (t ∷ ts)

first_way : (first : Kind) (man : Man) (o t : ℕ) (ts : List ℕ)
    → moves_from first man o (t ∷ ts) ≡ move_of o t (promotion_at first man t) ∷ moves_after (next_promotion (promotion_at first man t)) man o t ts
first_way first man o t ts = (elim (promotes man t) as (λ b. promotes man t ≡ b → moves_from first man o (t ∷ ts)
    ≡ move_of o t (cond b (Some first) None) ∷ moves_after (next_promotion (cond b (Some first) None)) man o t ts) [
      | false ↦ λ e. rw e (last None)
      | true ↦ λ e. promoted first e
    ]) refl
  where
    last : (r : Option Kind) → move_of o t r ∷ flat_map (ways man o) ts ≡ move_of o t r ∷ moves_from Knight man o ts
    last r = ap (λ (ms : List Move). move_of o t r ∷ ms) (sym (all_ways man o ts))

    promoted : (first : Kind) → promotes man t ≡ true
        → moves_from first man o (t ∷ ts) ≡ move_of o t (Some first) ∷ moves_after (next_promotion (Some first)) man o t ts
    promoted Knight e = rw e refl
    promoted Bishop e = rw e refl
    promoted Rook e = rw e refl
    promoted Queen e = rw e (last (Some Queen))
    promoted Pawn e = rw e (last (Some Pawn))
    promoted King e = rw e (last (Some King))

-- what is left of a man's moves to a set of targets: where no promotion follows, those to the rest of them
abbrev pub left_after : Option Kind → Man → ℕ → ℕ → ℕ → List Move
left_after None man o set rest = moves_from Knight man o (members rest)
left_after (Some later) man o set rest = moves_from later man o (members set)

pub first_move : (first : Kind) (man : Man) (o set t rest : ℕ) → IsSplit set t rest
    → moves_from first man o (members set) ≡ move_of o t (promotion_at first man t)
    ∷ left_after (next_promotion (promotion_at first man t)) man o set rest
first_move first man o set t rest split =
    let r : Option Kind = promotion_at first man t in
    ap (moves_from first man o) split.rising
    ∙ first_way first man o t (members rest)
    ∙ ap (λ (ms : List Move). move_of o t r ∷ ms) (after (next_promotion r))
  where
    after : (r : Option Kind) → moves_after r man o t (members rest) ≡ left_after r man o set rest
    after None = refl
    after (Some later) = ap (moves_from later man o) (sym split.rising)

-- A man without targets has no moves.
pub no_moves : (first : Kind) (man : Man) (o set : ℕ) → set ≡ 0 → moves_from first man o (members set) ≡ []
no_moves first man o set h = ap (moves_from first man o) (no_members set h)

-- All men's moves.

legal_below : (p : Setup) (own n : ℕ) → IsSetOf own (is_of p.side) p.men → n ≤ 64
    → filter (is_legal p) (moves_below n) ≡ moves_of_men p (members_below own n)
unfolding moves_below members_below
legal_below p own zero is h = refl
legal_below p own (suc n) is h =
    filter-append (is_legal p) (moves_below n) (moves_to n 64)
    ∙ ap (λ (ms : List Move). ms ++ filter (is_legal p) (moves_to n 64)) (legal_below p own n is (omega arith))
    ∙ ap (λ (ms : List Move). moves_of_men p (members_below own n) ++ ms) here
    ∙ sym (flat_map-below_suc (λ o. filter (is_legal p) (moves_to o 64)) own n)
  where
    here : filter (is_legal p) (moves_to n 64) ≡ cond (has own n) (filter (is_legal p) (moves_to n 64)) []
    here = (elim (has own n) as (λ b. has own n ≡ b → filter (is_legal p) (moves_to n 64) ≡ cond b (filter (is_legal p) (moves_to n 64)) []) [
      | true ↦ λ e. refl
      | false ↦ λ e. none_from p n (sym (is n (omega arith)) ∙ e)
    ]) refl

-- The legal moves are those of the men of the side to move.
pub legal_of_men : (p : Setup) (own : ℕ) → IsSetOf own (is_of p.side) p.men → legal_moves p ≡ moves_of_men p (members own)
unfolding legal_moves members
legal_of_men p own is = legal_below p own 64 is (omega arith)

-- those of the lowest man, and those of the others
pub first_man : (p : Setup) (set o rest : ℕ) → IsSplit set o rest
    → moves_of_men p (members set) ≡ filter (is_legal p) (moves_to o 64) ++ moves_of_men p (members rest)
first_man p set o rest split = ap (λ (os : List ℕ). moves_of_men p os) split.rising

-- how many they are, where these are the targets of the lowest man
pub many_first : (p : Setup) (man : Man) (set o rest targets : ℕ) → IsSplit set o rest → AreTargets targets p man o
    → length (moves_of_men p (members set)) ≡ length (flat_map (ways man o) (members targets)) + length (moves_of_men p (members rest))
many_first p man set o rest targets split are =
    let others : List Move = moves_of_men p (members rest) in
    ap length (first_man p set o rest split)
    ∙ ap (λ (ms : List Move). length (ms ++ others)) (legal_to p man o targets are)
    ∙ length-append (flat_map (ways man o) (members targets)) others

-- An own man stands on each square of what is left of a set of them.
pub own_others : (p : Setup) (set o rest : ℕ) → IsSplit set o rest → HaveOwnMen set p → HaveOwnMen rest p
own_others p set o rest split own t k e = own t k ((and_parts (not (eqb t o)) (has set t) (sym (split.others t k) ∙ e)).1)

pub own_all : (p : Setup) (own : ℕ) → IsSetOf own (is_of p.side) p.men → HaveOwnMen own p
own_all p own is s l e = sym (is s l) ∙ e

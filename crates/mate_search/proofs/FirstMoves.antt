-- The moves that the attacker may begin with.
use Rattle.std.proofs.Common.{◌≡◌, ◌↔◌, ◌==◌, ℕ, Bool, true, false, not, List, [], ◌∷◌, None, length, filter, refl, ap, sym, ◌∙◌, arith, subst}
use Rattle.std.specs.List.{All, Contains, list_any}
use Rattle.std.proofs.lemmas.Bool.Decides.{nat_tests}
use Rattle.std.proofs.lemmas.List.Elements.{filter_passes, All-filter, All-contains, All-contains_itself}
use Rattle.chess_board.specs.Moves.{Move}
use Rattle.chess_board.specs.Legality.{is_legal}
use Rattle.chess_moves.specs.inside.Listing.{legal_moves}
use Rattle.chess_moves.specs.Laws.{LegalRise}
use Rattle.chess_problems.specs.Problems.{ProblemValue}
use Rattle.chess_problems.specs.SameProblems.{is_same_move, SameMoveReads}
use Rattle.mate_search.specs.Wins.{win}
use Rattle.mate_search.specs.inside.Truth.{dist, first_moves, truth_among, truth}
use Rattle.mate_search.specs.Laws.{AreFirstMoves}
use Rattle.mate_search.proofs.Searches.{any_contains, contains_any, filter_keeps}
use Rattle.mate_search.proofs.Wins.{legal_each}
use Rattle.mate_search.proofs.MoveOrder.{rising_kept}
use Rattle.mate_search.proofs.Known.{none_found_within}

abbrev may_begin : List Move → Move → Bool
may_begin avoid m = not (list_any (is_same_move m) avoid)

begins : SameMoveReads → (avoid : List Move) (m : Move) → may_begin avoid m ≡ true ↔ (Contains avoid m → ⊥)
begins same avoid m = (
  (λ free there. (
      let found : list_any (is_same_move m) avoid ≡ true = contains_any (is_same_move m) avoid m there ((same m m).1 refl) in
      let not_free : may_begin avoid m ≡ false = ap not found in
      cc)),
  (λ absent. (elim (list_any (is_same_move m) avoid) as (λ b. list_any (is_same_move m) avoid ≡ b → not b ≡ true) [
    | false ↦ λ is. refl
    | true ↦ λ is. let found = any_contains (is_same_move m) avoid is in
        absurd (absent (subst (Contains avoid) (sym ((same m found.0).0 found.2)) found.1))
  ]) refl),
)

pub first_moves_are : SameMoveReads → LegalRise → (q : ProblemValue) → AreFirstMoves q (first_moves q)
unfolding first_moves
first_moves_are same rise q = (
  λ m. (
    (λ c. (
      All-contains (Contains (legal_moves q.position)) _ m (All-filter (may_begin q.avoid) (Contains (legal_moves q.position))
          (legal_moves q.position) (All-contains_itself (legal_moves q.position))) c,
      (begins same q.avoid m).0 (All-contains (λ x. may_begin q.avoid x ≡ true) _ m (filter_passes (may_begin q.avoid) (legal_moves q.position)) c),
    )),
    (λ h. filter_keeps (may_begin q.avoid) (legal_moves q.position) m h.0 ((begins same q.avoid m).1 h.1)),
  ),
  rising_kept (may_begin q.avoid) (legal_moves q.position) (rise q.position),
)

-- Where nothing is to be avoided, they are all legal moves.
all_pass : (ms : List Move) → filter (may_begin []) ms ≡ ms
all_pass [] = refl
all_pass (m ∷ ms) = ap (λ rest. m ∷ rest) (all_pass ms)

pub all_may_begin : (q : ProblemValue) → (length q.avoid == 0) ≡ true → first_moves q ≡ legal_moves q.position
unfolding first_moves
all_may_begin q none =
    ap (λ avoid. filter (may_begin avoid) (legal_moves q.position)) (empty q.avoid none) ∙ all_pass (legal_moves q.position)
  where
    empty : (ms : List Move) → (length ms == 0) ≡ true → ms ≡ []
    empty [] h = refl
    empty (m ∷ ms) h = let some : (length (m ∷ ms) == 0) ≡ false = grind (arith, nat_tests) in cc

-- So what there is to say of the problem is what there is to say of all of them.
pub truth_of_all : (q : ProblemValue) → first_moves q ≡ legal_moves q.position → truth_among (legal_moves q.position) q.position q.bound ≡ truth q
unfolding truth
truth_of_all q all = ap (λ first. truth_among first q.position q.bound) (sym all)

pub none_of_all : (q : ProblemValue) (n : ℕ) → first_moves q ≡ legal_moves q.position → win n q.position ≡ false
    → dist (first_moves q) q.position n ≡ None
none_of_all q n all none = rw all (none_found_within n q.position none)

pub first_moves_legal : (q : ProblemValue) → All (Contains (legal_moves q.position)) (first_moves q)
unfolding first_moves
first_moves_legal q = All-filter (may_begin q.avoid) (Contains (legal_moves q.position)) (legal_moves q.position)
    (All-contains_itself (legal_moves q.position))

pub first_moves_each : (q : ProblemValue) → All (λ m. is_legal q.position m ≡ true) (first_moves q)
unfolding first_moves
first_moves_each q = All-filter (may_begin q.avoid) (λ m. is_legal q.position m ≡ true) (legal_moves q.position) (legal_each q.position)

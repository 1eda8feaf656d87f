-- The keys and the line are legal moves.
use Rattle.std.proofs.Common.{◌≡◌, ◌-◌, ℕ, zero, suc, List, [], ◌∷◌, Some, None, refl, arith}
use Rattle.std.specs.List.{All, Contains}
use Rattle.std.proofs.lemmas.List.Elements.{All-filter, All-contains_itself}
use Rattle.chess_board.specs.Positions.{Setup}
use Rattle.chess_board.specs.Moves.{Move}
use Rattle.chess_board.specs.MakeMove.{after_setup}
use Rattle.chess_moves.specs.inside.Listing.{legal_moves}
use Rattle.chess_moves.specs.Laws.{IsLine, LegalListed}
use Rattle.mate_search.specs.Wins.{leaves_lost}
use Rattle.mate_search.specs.inside.Variation.{variation, least_key, longest_defence, defence}
use Rattle.chess_problems.specs.Outcomes.{AreLegal, IsPlayable}
use Rattle.chess_problems.specs.declared.outcomes.Outcome.{Outcome}
use Rattle.chess_problems.specs.Problems.{ProblemValue}
use Rattle.mate_search.specs.inside.Truth.{dist, first_moves, truth, truth_among}
use Rattle.mate_search.proofs.Searches.{found_has}
use Rattle.mate_search.proofs.FirstMoves.{first_moves_legal}

module _ (law : LegalListed) where
  defence_playable : (n : ℕ) (rest : Setup → List Move) (q : Setup) → ((s : Setup) → IsLine s (rest s)) → IsLine q (defence n rest q)
  defence_playable zero rest q h = tt
  defence_playable (suc j) rest q h = (elim (longest_defence q j) as (λ o. longest_defence q j ≡ o → IsLine q (defence (suc j) rest q)) [
    | None ↦ λ is. rw is tt
    | Some r ↦ λ is. rw is (
      (law q r).0
          (found_has (Contains (legal_moves q)) _ (legal_moves q) r (All-contains_itself (legal_moves q)) is),
      h (after_setup q r),
    )
  ]) refl

  variation_playable : (first : List Move) (n : ℕ) (p : Setup) → All (Contains (legal_moves p)) first → IsLine p (variation first p n)
  unfolding variation
  variation_playable first zero p h = tt
  variation_playable first (suc n) p h =
      (elim (least_key first p (suc n)) as (λ o. least_key first p (suc n) ≡ o → IsLine p (variation first p (suc n))) [
        | None ↦ λ is. rw is tt
        | Some m ↦ λ is.
            let rest = defence_playable n (λ s. variation (legal_moves s) s n) (after_setup p m)
            (λ s. variation_playable (legal_moves s) n s (All-contains_itself (legal_moves s))) in
            rw is ((law p m).0 (found_has (Contains (legal_moves p)) _ first m h is), rest)
      ]) refl

each_legal : (p : Setup) (ms : List Move) → All (Contains (legal_moves p)) ms → AreLegal p ms
each_legal p [] h = tt
each_legal p (m ∷ ms) h = (h 0 m (omega arith), each_legal p ms (λ k d inside. h (suc k) d (omega arith)))

-- What there is to say of legal first moves can be played.
among_playable : LegalListed → (first : List Move) (p : Setup) (b : ℕ) → All (Contains (legal_moves p)) first → IsPlayable p (truth_among first p b)
unfolding truth_among IsPlayable
among_playable law first p b legal = (elim (dist first p b) as (λ o. dist first p b ≡ o → IsPlayable p (truth_among first p b)) [
  | None ↦ λ is. rw is tt
  | Some n ↦ λ is. rw is (
    each_legal p _ (All-filter (leaves_lost (n - 1) p) (Contains (legal_moves p)) first legal),
    variation_playable law first n p legal,
  )
]) refl

-- What there is to say of a problem can be played.
pub truth_playable : LegalListed → (q : ProblemValue) → IsPlayable q.position (truth q)
unfolding truth
truth_playable law q = among_playable law (first_moves q) q.position q.bound (first_moves_legal q)

-- An outcome that is the truth can be played.
pub told_playable : (q : ProblemValue) (o : Outcome) → LegalListed → o ≡ truth q → IsPlayable q.position o
told_playable q o law is = rw is (truth_playable law q)

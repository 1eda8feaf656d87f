-- The principal variation is that of a chess player, and what is told of a problem is its truth.
use Rattle.std.proofs.Common.{◌≡◌, ℕ, zero, suc, ◌-◌, ◌≤◌, true, false, List, ◌∷◌, Some, None, refl, ap, sym, ◌∙◌, arith, add-one}
use Rattle.chess_board.specs.Positions.{Setup}
use Rattle.chess_board.specs.Moves.{Move}
use Rattle.chess_board.specs.MakeMove.{after_setup}
use Rattle.chess_moves.specs.inside.Listing.{legal_moves}
use Rattle.chess_moves.specs.Laws.{IsRising, LegalRise}
use Rattle.chess_problems.specs.SameProblems.{SameMoveReads}
use Rattle.mate_search.specs.Wins.{win, lost, leaves_lost, win_among}
use Rattle.mate_search.specs.inside.Variation.{variation, least_key}
use Rattle.mate_search.specs.PrincipalVariation.{IsKey, IsPrincipalVariation}
use Rattle.mate_search.specs.PrincipalVariation.IsPrincipalVariation.{mates, goes_on}
use Rattle.mate_search.specs.inside.Truth.{dist, first_moves, truth, truth_among}
use Rattle.mate_search.specs.Laws.{IsTold, TruthReads}
use Rattle.mate_search.specs.inside.PartLaws.{LineReads}
use Rattle.mate_search.proofs.Searches.{any_found, none_found, all_found, all_fails, all_contains, contains_any}
use Rattle.mate_search.proofs.Least.{dist_least, dist_none}
use Rattle.mate_search.proofs.Playing.{all_among, key_is, each_wins, not_each, not_mated}
use Rattle.mate_search.proofs.Readings.{keys_read}
use Rattle.mate_search.proofs.FirstMoves.{first_moves_are}
use Rattle.mate_search.proofs.MoveOrder.{first_key, lasts_longest, keys_rise}

-- Where there is no mate within k moves, no move is a key of one.
no_key : (first : List Move) (p : Setup) (k : ℕ) → 1 ≤ k → win_among first k p ≡ false → (m : Move) → ¬ (IsKey first p k m)
unfolding win_among
no_key first p zero some none m key = omega (arith, some)
no_key first p (suc k) some none m key =
    let before : suc k - 1 ≡ k = omega arith in
    let lost_after : leaves_lost k p m ≡ true = ap (λ n. lost n (after_setup p m)) (sym before) ∙ key.1 in
    let wins : win_among first (suc k) p ≡ true = contains_any (leaves_lost k p) first m key.0 lost_after in
    cc

module _ (rise : LegalRise) where
  best_play : (first : List Move) (n : ℕ) (p : Setup) → IsRising first → win_among first (suc n) p ≡ true
      → win_among first n p ≡ false → IsPrincipalVariation first p (suc n) (variation first p (suc n))
  unfolding win_among variation
  best_play first zero p rising w l =
      let found = any_found (leaves_lost zero p) first w in
      let key : least_key first p (suc zero) ≡ Some found.0 = rw (key_is first zero p) found.1 in
      rw key (mates first p found.0 (first_key first p 1 found.0 rising key))
  best_play first (suc j) p rising w l =
      let found = any_found (leaves_lost (suc j) p) first w in
      let m : Move = found.0 in
      let q : Setup = after_setup p m in
      let key : least_key first p (suc (suc j)) ≡ Some m = rw (key_is first (suc j) p) found.1 in
      let before : lost j q ≡ false = none_found (leaves_lost j p) _ first m l found.1 in
      let each = each_wins (win (suc j)) q (not_mated (win j) q before) found.2 in
      let reply = all_fails (λ r. win j (after_setup q r)) (legal_moves q) (not_each (win j) q each.0 before) in
      let r : Move = reply.0 in
      let s : Setup = after_setup q r in
      let wins : win (suc j) s ≡ true = all_found (λ x. win (suc j) (after_setup q x)) _ (legal_moves q) r each.1 reply.1 in
      let rest = best_play (legal_moves s) j s (rise s) (rw (all_among (suc j) s) wins) (rw (all_among j s) reply.2) in
      let longest = lasts_longest rise q j r (λ x c. all_contains (λ y. win (suc j) (after_setup q y)) (legal_moves q) x each.1 c) reply.1 in
      let all : IsPrincipalVariation first p (suc (suc j)) (m ∷ r ∷ variation (legal_moves s) s (suc j)) =
      rw (← (add-one (suc j))) (goes_on first p q s (suc j) m r _ (omega arith)
      (rw (add-one (suc j)) (first_key first p (suc (suc j)) m rising key)) refl longest refl rest) in
      rw key (rw reply.1 all)

  pub line_reads : LineReads
  line_reads first p b n rising e =
      let least = dist_least first p b n e in
      let s : n ≡ suc (n - 1) = omega (arith, least.0) in
      rw s (best_play first (n - 1) p rising (rw s at least.2) (least.3 (n - 1) (omega (arith, least.0))))

  among_told : (first : List Move) (p : Setup) (b : ℕ) → IsRising first → IsTold first p b (truth_among first p b)
  unfolding truth_among
  among_told first p b rising = (elim (dist first p b) as (λ o. dist first p b ≡ o → IsTold first p b (truth_among first p b)) [
    | None ↦ λ is. rw is (λ k some below. no_key first p k some (dist_none first p b is k (omega arith)))
    | Some n ↦ λ is.
        let least = dist_least first p b n is in
        rw is (
          least.0,
          least.1,
          (λ k some below. no_key first p k some (least.3 k below)),
          (keys_read first p n, keys_rise first p n rising),
          line_reads first p b n rising is,
        )
  ]) refl

  pub truth_reads : SameMoveReads → TruthReads
  unfolding truth
  truth_reads same q =
      let first = first_moves_are same rise q in
      (first_moves q, first, among_told (first_moves q) q.position q.bound first.1)

-- The least number of moves to mate.
use Rattle.std.proofs.Common.{◌≡◌, ℕ, zero, suc, ◌+◌, ◌-◌, ◌<◌, ◌≤◌, true, false, List, Some, None, refl, arith, add-one, zero-add, suc-add, inl, inr}
use Rattle.std.proofs.lemmas.Bool.{cases_eq}
use Rattle.chess_board.specs.Positions.{Setup}
use Rattle.chess_board.specs.Moves.{Move}
use Rattle.mate_search.specs.Wins.{win_among}
use Rattle.mate_search.specs.inside.Truth.{dist}

module _ (first : List Move) (p : Setup) where
  dist_more : (k : ℕ) → dist first p k ≡ None → win_among first (k + 1) p ≡ true → dist first p (k + 1) ≡ Some (k + 1)
  unfolding dist
  dist_more k e w = let w' : win_among first (suc k) p ≡ true = rw (add-one k) at w in rw (add-one k) (rw (e, w'))

  dist_kept_one : (b n : ℕ) → dist first p b ≡ Some n → dist first p (suc b) ≡ Some n
  unfolding dist
  dist_kept_one b n e = rw e

  dist_kept_by : (b n more : ℕ) → dist first p b ≡ Some n → dist first p (more + b) ≡ Some n
  dist_kept_by b n zero e = rw (zero-add b) e
  dist_kept_by b n (suc k) e = rw (suc-add k b) (dist_kept_one (k + b) n (dist_kept_by b n k e))

  -- a mate that was found stays the least
  pub dist_kept : (a b n : ℕ) → dist first p a ≡ Some n → a ≤ b → dist first p b ≡ Some n
  dist_kept a b n e h = let s : (b - a) + a ≡ b = omega arith in rw s at (dist_kept_by a n (b - a) e)

  pub dist_found : (k b : ℕ) → dist first p k ≡ None → win_among first (k + 1) p ≡ true → k < b → dist first p b ≡ Some (k + 1)
  dist_found k b e w h = dist_kept (k + 1) b (k + 1) (dist_more k e w) (omega arith)

  pub dist_none_more : (k : ℕ) → dist first p k ≡ None → win_among first (k + 1) p ≡ false → dist first p (k + 1) ≡ None
  unfolding dist
  dist_none_more k e w = let w' : win_among first (suc k) p ≡ false = rw (add-one k) at w in rw (add-one k) (rw (e, w'))

  -- Within none that was tried is there a mate.
  pub dist_none : (b : ℕ) → dist first p b ≡ None → (k : ℕ) → k ≤ b → win_among first k p ≡ false
  unfolding dist win_among
  dist_none zero e k h = let z : k ≡ zero = omega arith in rw z refl
  dist_none (suc b) e k h = (elim (dist first p b) as (λ o. dist first p b ≡ o → win_among first k p ≡ false) [
    | Some j ↦ λ is. let e' = rw is at e in cc
    | None ↦ λ is. let e' = rw is at e in (elim (win_among first (suc b) p) as (λ w. win_among first (suc b) p ≡ w → win_among first k p ≡ false) [
      | true ↦ λ w. let e'' = rw w at e' in cc
      | false ↦ λ w. elim (cases_eq k (suc b)) [
        | inl last ↦ rw last w
        | inr other ↦ dist_none b is k (omega arith)
      ]
    ]) refl
  ]) refl

  -- Where there is none, none is found.
  pub none_dist : (b : ℕ) → ((k : ℕ) → k ≤ b → win_among first k p ≡ false) → dist first p b ≡ None
  unfolding dist
  none_dist zero h = refl
  none_dist (suc b) h = let e = none_dist b (λ k l. h k (omega arith)) in rw (e, h (suc b) (omega arith))

  abbrev pub IsLeast : ℕ → ℕ → Type 0
  IsLeast b n = (1 ≤ n) × (n ≤ b) × (win_among first n p ≡ true) × ((k : ℕ) → k < n → win_among first k p ≡ false)

  pub dist_least : (b n : ℕ) → dist first p b ≡ Some n → IsLeast b n
  unfolding dist
  dist_least zero n e = cc
  dist_least (suc b) n e = (elim (dist first p b) as (λ o. dist first p b ≡ o → IsLeast (suc b) n) [
    | Some k ↦ λ is.
        let e' = rw is at e in
        let same : dist first p b ≡ Some n = cc in
        let r = dist_least b n same in
        (r.0, omega (arith, r.1), r.2, r.3)
    | None ↦ λ is. let e' = rw is at e in (elim (win_among first (suc b) p) as (λ w. win_among first (suc b) p ≡ w → IsLeast (suc b) n) [
      | true ↦ λ w.
          let e'' = rw w at e' in
          let s : n ≡ suc b = cc in
          (omega arith, omega arith, rw s w, λ k l. dist_none b is k (omega arith))
      | false ↦ λ w. let e'' = rw w at e' in cc
    ]) refl
  ]) refl

  pub least_dist : (b n : ℕ) → IsLeast b n → dist first p b ≡ Some n
  least_dist b n least =
      let s : (n - 1) + 1 ≡ n = omega (arith, least.0) in
      let none = none_dist (n - 1) (λ k l. least.3 k (omega (arith, least.0))) in
      rw s at (dist_found (n - 1) b none (rw s least.2) (omega (arith, least.0, least.1)))

  -- Where none is found within k, none is within fewer.
  pub dist_fewer : (b k : ℕ) → b ≤ k → dist first p k ≡ None → dist first p b ≡ None
  dist_fewer b k h e = none_dist b (λ j l. dist_none k e j (omega arith))

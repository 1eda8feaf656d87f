-- The principal variation, step by step, and how long it is.
use Rattle.std.proofs.Common.{◌≡◌, ℕ, zero, suc, ◌+◌, ◌-◌, ◌*◌, ◌<◌, Bool, true, false, List, []}
use Rattle.std.proofs.Common.{◌∷◌, length, find, Some, None, refl, sym, arith, sub-one, ◌∙◌}
use Rattle.std.specs.List.{list_all}
use Rattle.chess_board.specs.Positions.{Setup}
use Rattle.chess_board.specs.Moves.{Move}
use Rattle.chess_board.specs.MakeMove.{after_setup}
use Rattle.chess_moves.specs.inside.Listing.{legal_moves}
use Rattle.chess_moves.specs.Verdicts.{has_legal_move, is_mate}
use Rattle.mate_search.specs.Wins.{win, lost, loses_by, leaves_lost, win_among}
use Rattle.mate_search.specs.inside.Variation.{variation, least_key, longest_defence}
use Rattle.mate_search.specs.Laws.{after_line, HasMatingLine, LineMates}
use Rattle.mate_search.specs.inside.Truth.{dist, first_moves, truth, truth_among}
use Rattle.mate_search.proofs.Searches.{any_found, none_found, all_found, all_fails}
use Rattle.mate_search.proofs.Least.{dist_least}
use Rattle.mate_search.proofs.Wins.{lost_none}

pub variation_no_key : (first : List Move) (p : Setup) (n : ℕ) → None ≡ least_key first p n → variation first p n ≡ []
unfolding variation
variation_no_key first p zero h = refl
variation_no_key first p (suc n) h = rw (← h)

pub variation_one : (first : List Move) (p : Setup) (n : ℕ) (m : Move) → n ≡ 1 → Some m ≡ least_key first p n → variation first p n ≡ m ∷ []
unfolding variation
variation_one first p n m n-is h = rw n-is (let h' : Some m ≡ least_key first p (suc 0) = rw n-is at h in rw (← h'))

stops : (first : List Move) (p : Setup) (n j : ℕ) (m : Move) (q : Setup) → n ≡ suc (suc j) → Some m ≡ least_key first p n
    → q ≡ after_setup p m → None ≡ longest_defence q j → variation first p n ≡ m ∷ []
unfolding variation
stops first p n j m q n-is h e k =
    let h' : Some m ≡ least_key first p (suc (suc j)) = rw n-is at h in
    let k' : None ≡ longest_defence (after_setup p m) j = rw (← e) k in
    rw n-is (rw (← h') (rw (← k')))

pub variation_stops : (first : List Move) (p : Setup) (n : ℕ) (m : Move) (q : Setup) → 1 < n → Some m ≡ least_key first p n
    → q ≡ after_setup p m → None ≡ longest_defence q (n - 2) → variation first p n ≡ m ∷ []
variation_stops first p n m q l h e k = stops first p n (n - 2) m q (omega arith) h e k

more : (first : List Move) (p : Setup) (n k j : ℕ) (m : Move) (q : Setup) (r : Move) (s : Setup) → n ≡ suc (suc j) → k ≡ suc j
    → Some m ≡ least_key first p n → q ≡ after_setup p m → Some r ≡ longest_defence q j → s ≡ after_setup q r
    → variation first p n ≡ m ∷ r ∷ variation (legal_moves s) s k
unfolding variation
more first p n k j m q r s n-is k-is h e g f =
    let h' : Some m ≡ least_key first p (suc (suc j)) = rw n-is at h in
    let g' : Some r ≡ longest_defence (after_setup p m) j = rw (← e) g in
    let f' : s ≡ after_setup (after_setup p m) r = rw (← e) f in
    rw (n-is, k-is, f') (rw (← h') (rw (← g')))

pub variation_more : (first : List Move) (p : Setup) (n : ℕ) (m : Move) (q : Setup) (r : Move) (s : Setup) → 1 < n
    → Some m ≡ least_key first p n → q ≡ after_setup p m → Some r ≡ longest_defence q (n - 2) → s ≡ after_setup q r
    → variation first p n ≡ m ∷ r ∷ variation (legal_moves s) s (n - 1)
variation_more first p n m q r s l h e g f = more first p n (n - 1) (n - 2) m q r s (omega arith) (omega arith) h e g f

-- A side that loses by one test and not by another has a reply that tells them apart.
pub not_mated : (f : Setup → Bool) (q : Setup) → loses_by f q ≡ false → is_mate q ≡ false
not_mated f q e = (elim (is_mate q) as (λ b. is_mate q ≡ b → b ≡ false) [
  | true ↦ λ t. let e' = rw t at e in cc
  | false ↦ λ t. refl
]) refl

pub each_wins : (f : Setup → Bool) (q : Setup) → is_mate q ≡ false → loses_by f q ≡ true
    → (has_legal_move q ≡ true) × (list_all (λ r. f (after_setup q r)) (legal_moves q) ≡ true)
each_wins f q m e = let e' = rw m at e in (elim (has_legal_move q) as (λ b. has_legal_move q ≡ b
    → (b ≡ true) × (list_all (λ r. f (after_setup q r)) (legal_moves q) ≡ true)) [
      | true ↦ λ t. (refl, rw t at e')
      | false ↦ λ t. let n = rw t at e' in cc
    ]) refl

pub not_each : (f : Setup → Bool) (q : Setup) → has_legal_move q ≡ true → loses_by f q ≡ false
    → list_all (λ r. f (after_setup q r)) (legal_moves q) ≡ false
not_each f q h e = let m = not_mated f q e in let e' = rw m at e in rw h at e'

-- With every legal move to begin with, the mates are all mates.
pub all_among : (n : ℕ) (p : Setup) → win_among (legal_moves p) n p ≡ win n p
unfolding win win_among
all_among zero p = refl
all_among (suc n) p = refl

pub key_is : (first : List Move) (n : ℕ) (p : Setup) → least_key first p (suc n) ≡ find (leaves_lost n p) first
key_is first n p = simp sub-one

-- The line to a mate within n moves and not within fewer: its length, and that the defender is mated at its end.
variation_long : (first : List Move) (n : ℕ) (p : Setup) → win_among first (suc n) p ≡ true → win_among first n p ≡ false
    → (length (variation first p (suc n)) + 1 ≡ 2 * suc n) × (is_mate (after_line p (variation first p (suc n))) ≡ true)
unfolding win_among variation
variation_long first zero p w l =
    let found = any_found (leaves_lost zero p) first w in
    let key : least_key first p (suc zero) ≡ Some found.0 = rw (key_is first zero p) found.1 in
    rw key (refl, sym (lost_none zero (after_setup p found.0) refl) ∙ found.2)
variation_long first (suc j) p w l =
    let found = any_found (leaves_lost (suc j) p) first w in
    let m : Move = found.0 in
    let q : Setup = after_setup p m in
    let key : least_key first p (suc (suc j)) ≡ Some m = rw (key_is first (suc j) p) found.1 in
    let before : lost j q ≡ false = none_found (leaves_lost j p) _ first m l found.1 in
    let each = each_wins (win (suc j)) q (not_mated (win j) q before) found.2 in
    let reply = all_fails (λ r. win j (after_setup q r)) (legal_moves q) (not_each (win j) q each.0 before) in
    let r : Move = reply.0 in
    let s : Setup = after_setup q r in
    let wins : win (suc j) s ≡ true = all_found (λ x. win (suc j) (after_setup q x)) _ (legal_moves q) r each.1 reply.1 in
    let rest = variation_long (legal_moves s) j s (rw (all_among (suc j) s) wins) (rw (all_among j s) reply.2) in
    rw key (rw reply.1 (omega (arith, rest.0), rest.1))

variation_of_least : (first : List Move) (p : Setup) (b n : ℕ) → dist first p b ≡ Some n
    → (length (variation first p n) + 1 ≡ 2 * n) × (is_mate (after_line p (variation first p n)) ≡ true)
variation_of_least first p b n e =
    let least = dist_least first p b n e in
    let s : n ≡ suc (n - 1) = omega (arith, least.0) in
    rw s (variation_long first (n - 1) p (rw s at least.2) (least.3 (n - 1) (omega (arith, least.0))))

pub line_mates : LineMates
unfolding truth truth_among
line_mates q =
    let first : List Move = first_moves q in
    let p : Setup = q.position in
    (elim (dist first p q.bound) as (λ o. dist first p q.bound ≡ o → HasMatingLine p (truth q)) [
      | None ↦ λ is. rw is tt
      | Some n ↦ λ is. rw is (variation_of_least first p q.bound n is)
    ]) refl

-- The definitions read with their moves named.
use Rattle.std.proofs.Common.{◌≡◌, ℕ, zero, suc, ◌+◌, ◌-◌, ◌<◌, ◌≤◌, Bool, true, false, ◌&&◌, ◌||◌, List}
use Rattle.std.proofs.Common.{[], ◌∷◌, length, Some, None, Option, refl, sym, ◌∙◌, arith, add-one, inl, inr}
use Rattle.std.specs.Prelude.{nat_lt, ◌⊎◌}
use Rattle.std.specs.List.{Contains, list_any, list_all}
use Rattle.std.proofs.lemmas.Bool.Decides.{nat_tests}
use Rattle.std.proofs.lemmas.List.Elements.{filter_passes, All-filter, All-contains, All-contains_itself}
use Rattle.chess_board.specs.Positions.{Setup}
use Rattle.chess_board.specs.Moves.{Move}
use Rattle.chess_board.specs.MakeMove.{after_setup}
use Rattle.chess_moves.specs.inside.Listing.{legal_moves}
use Rattle.chess_moves.specs.Verdicts.{has_legal_move, is_mate}
use Rattle.mate_search.specs.Wins.{win, leaves_lost}
use Rattle.mate_search.specs.inside.Truth.{dist}
use Rattle.mate_search.specs.Laws.{WinReads, LostReads}
use Rattle.mate_search.specs.inside.PartLaws.{KeysRead, DistReads, NoDistReads}
use Rattle.mate_search.proofs.Searches.{any_contains, contains_any, all_contains, contains_all, filter_keeps}
use Rattle.mate_search.proofs.Wins.{win_none}
use Rattle.mate_search.proofs.Least.{dist_none, none_dist, dist_least, least_dist}
use Rattle.mate_search.proofs.Playing.{all_among, each_wins}

win_next : (n : ℕ) (p : Setup) → win (n + 1) p ≡ list_any (leaves_lost n p) (legal_moves p)
unfolding win
win_next n p = rw (add-one n) refl

pub win_reads : WinReads
win_reads n p = (
  win_none 0 p refl,
  (
    (λ w. any_contains (leaves_lost n p) (legal_moves p) (rw (win_next n p) at w)),
    (λ found. rw (win_next n p) (contains_any (leaves_lost n p) (legal_moves p) found.0 found.1 found.2)),
  ),
)

some_one : (xs : List Move) → nat_lt 0 (length xs) ≡ true → (x : Move) × Contains xs x
some_one [] h = cc
some_one (x ∷ xs) h = (x, (0, omega arith, refl))

is_some : (xs : List Move) (x : Move) → Contains xs x → nat_lt 0 (length xs) ≡ true
is_some [] x (k, on, e) = absurd (omega arith)
is_some (y ∷ ys) x c = grind (arith, nat_tests)

one_left : (k : ℕ) (q : Setup) → win k q ≡ true → 1 ≤ k
one_left zero q w = let none = win_none 0 q refl in cc
one_left (suc k) q w = omega arith

pub lost_reads : LostReads
lost_reads k q = (
  (λ l. (elim (is_mate q) as (λ b. is_mate q ≡ b → (is_mate q ≡ true) ⊎ ((1 ≤ k) × ((r : Move) × Contains (legal_moves q) r)
      × ((r : Move) → Contains (legal_moves q) r → win k (after_setup q r) ≡ true))) [
        | true ↦ λ t. inl t
        | false ↦ λ t.
            let each = each_wins (win k) q t l in
            let has = some_one (legal_moves q) each.0 in
            let met : (r : Move) → Contains (legal_moves q) r → win k (after_setup q r) ≡ true =
            λ r c. all_contains (λ x. win k (after_setup q x)) (legal_moves q) r each.1 c in
            inr (one_left k (after_setup q has.0) (met has.0 has.1), has, met)
      ]) refl),
  (λ h. elim h [
    | inl mated ↦ rw mated refl
    | inr met ↦
        let has : has_legal_move q ≡ true = is_some (legal_moves q) met.1.0 met.1.1 in
        let all : list_all (λ r. win k (after_setup q r)) (legal_moves q) ≡ true =
        contains_all (λ r. win k (after_setup q r)) (legal_moves q) met.2 in
        lost_by (is_mate q) (has_legal_move q) (list_all (λ r. win k (after_setup q r)) (legal_moves q)) has all
  ]),
)
  where
    lost_by : (a b c : Bool) → b ≡ true → c ≡ true → (a || (b && c)) ≡ true
    lost_by true b c e f = refl
    lost_by false b c e f = rw (e, f) refl

pub keys_read : KeysRead
keys_read first p n m = (
  (λ c. (
    All-contains (Contains first) _ m (All-filter (leaves_lost (n - 1) p) (Contains first) first (All-contains_itself first)) c,
    All-contains (λ x. leaves_lost (n - 1) p x ≡ true) _ m (filter_passes (leaves_lost (n - 1) p) first) c,
  )),
  (λ h. filter_keeps (leaves_lost (n - 1) p) first m h.0 h.1),
)

pub dist_reads : DistReads
dist_reads first p b n = (dist_least first p b n, least_dist first p b n)

pub no_dist_reads : NoDistReads
no_dist_reads first p b = (dist_none first p b, none_dist first p b)

-- The least number of moves in what is told, whatever is told besides.
abbrev pub IsTimeTold : Setup → ℕ → Option ℕ → Type 0
IsTimeTold p b (Some n) = (1 ≤ n) × (n ≤ b) × (win n p ≡ true) × ((k : ℕ) → k < n → win k p ≡ false)
IsTimeTold p b None = (n : ℕ) → n ≤ b → win n p ≡ false

pub time_told : (p : Setup) (b : ℕ) → IsTimeTold p b (dist (legal_moves p) p b)
time_told p b = (elim (dist (legal_moves p) p b) as (λ o. dist (legal_moves p) p b ≡ o → IsTimeTold p b (dist (legal_moves p) p b)) [
  | None ↦ λ is. rw is (λ n within. sym (all_among n p) ∙ dist_none (legal_moves p) p b is n within)
  | Some n ↦ λ is.
      let least = dist_least (legal_moves p) p b n is in
      rw is (least.0, least.1, sym (all_among n p) ∙ least.2, λ k below. sym (all_among k p) ∙ least.3 k below)
]) refl

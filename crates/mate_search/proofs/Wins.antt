-- Forced mate, step by step.
use Rattle.std.proofs.Common.{◌≡◌, ℕ, zero, suc, ◌-◌, ◌<◌, Bool, true, false, cond, not, ◌&&◌, ◌||◌, List, [], ◌∷◌, filter, refl, sym, ap, ◌∙◌, arith, sub-one}
use Rattle.std.specs.Prelude.{nat_lt, length, Contains}
use Rattle.std.proofs.lemmas.Bool.{lt-ltb, false_from_ne_true, and_parts}
use Rattle.std.specs.List.{All, list_any, list_all}
use Rattle.std.proofs.lemmas.List.Elements.{filter_passes}
use Rattle.chess_board.specs.Positions.{Setup}
use Rattle.chess_board.specs.Moves.{Move}
use Rattle.chess_board.specs.MakeMove.{after_setup}
use Rattle.chess_board.specs.Legality.{is_legal}
use Rattle.chess_board.specs.Attacks.{is_in_check}
use Rattle.chess_moves.specs.Laws.{LegalListed}
use Rattle.chess_moves.specs.inside.Listing.{legal_moves, moves_below}
use Rattle.chess_moves.specs.Verdicts.{has_legal_move, is_mate, has_mating_move}
use Rattle.chess_moves.specs.Escapes.{Escape}
use Rattle.mate_search.specs.Wins.{win, lost, loses_by, leaves_lost, win_among}
use Rattle.mate_search.proofs.Searches.{any_weaker, all_weaker, all_contains}

-- Each move of the list is legal.
pub legal_each : (p : Setup) → All (λ m. is_legal p m ≡ true) (legal_moves p)
unfolding legal_moves
legal_each p = filter_passes (is_legal p) (moves_below 64)

pub all_legal : (p : Setup) → list_all (is_legal p) (legal_moves p) ≡ true
unfolding legal_moves
all_legal p = all_kept (is_legal p) (moves_below 64)
  where
    all_kept : (f : Move → Bool) (xs : List Move) → list_all f (filter f xs) ≡ true
    all_kept f [] = refl
    all_kept f (x ∷ xs) = (elim (f x) as (λ b. f x ≡ b → list_all f (cond b (x ∷ filter f xs) (filter f xs)) ≡ true) [
      | true ↦ λ e.
          rw e (all_kept f xs)
      | false ↦ λ e. all_kept f xs
    ]) refl

pub win_none : (n : ℕ) (p : Setup) → n ≡ 0 → win n p ≡ false
unfolding win
win_none n p h = rw h

pub win_step : (n : ℕ) (p : Setup) → 0 < n → win n p ≡ list_any (leaves_lost (n - 1) p) (legal_moves p)
unfolding win
win_step zero p h = absurd (omega arith)
win_step (suc n) p h = simp sub-one

pub win_among_step : (first : List Move) (n : ℕ) (p : Setup) → 0 < n → win_among first n p ≡ list_any (leaves_lost (n - 1) p) first
unfolding win_among
win_among_step first zero p h = absurd (omega arith)
win_among_step first (suc n) p h = simp sub-one

-- No reply at all, or one that no win in none meets: nothing is left but mate.
none_left : (f : Move → Bool) (xs : List Move) → ((r : Move) → f r ≡ false) → (nat_lt 0 (length xs) && list_all f xs) ≡ false
none_left f [] h = refl
none_left f (x ∷ xs) h = rw (h x) (and_false (nat_lt 0 (length (x ∷ xs))))
  where
    and_false : (b : Bool) → (b && false) ≡ false
    and_false true = refl
    and_false false = refl

or_false : (a b : Bool) → b ≡ false → (a || b) ≡ a
or_false true b e = refl
or_false false b e = e

-- Where the attacker has no more moves, only a mated defender is lost.
pub lost_none : (k : ℕ) (q : Setup) → k ≡ 0 → lost k q ≡ is_mate q
lost_none k q h = or_false (is_mate q) (has_legal_move q && list_all (λ r. win k (after_setup q r)) (legal_moves q))
    (none_left (λ r. win k (after_setup q r)) (legal_moves q) (λ r. win_none k (after_setup q r) h))

pub loses_weaker : (f g : Setup → Bool) (p : Setup) → ((q : Setup) → f q ≡ true → g q ≡ true) → loses_by f p ≡ true → loses_by g p ≡ true
loses_weaker f g p h e = (elim (is_mate p) as (λ b. is_mate p ≡ b → loses_by g p ≡ true) [
  | true ↦ λ t. rw t
  | false ↦ λ t. let e' = rw t at e in rw t ((elim (has_legal_move p) as (λ b. has_legal_move p ≡ b
      → (has_legal_move p && list_all (λ r. g (after_setup p r)) (legal_moves p)) ≡ true) [
        | true ↦ λ u. rw u (all_weaker _ _ (legal_moves p) (λ r. h (after_setup p r)) (rw u at e'))
        | false ↦ λ u. let n = rw u at e' in cc
      ]) refl)
]) refl

pub win_more : (n : ℕ) (p : Setup) → win n p ≡ true → win (suc n) p ≡ true
unfolding win
win_more zero p e = cc
win_more (suc n) p e = any_weaker _ _ (legal_moves p) (λ m. loses_weaker (win n) (win (suc n)) (after_setup p m) (win_more n)) e

-- A mate in one move is a legal move that mates.
pub win_one : (p : Setup) → win 1 p ≡ has_mating_move p
unfolding has_mating_move
win_one p =
    win_step 1 p (omega arith)
    ∙ any_same (leaves_lost 0 p) (λ m. is_mate (after_setup p m)) (legal_moves p) (λ m. lost_none 0 (after_setup p m) refl)
  where
    any_same : (f g : Move → Bool) (xs : List Move) → ((x : Move) → f x ≡ g x) → list_any f xs ≡ list_any g xs
    any_same f g [] h = refl
    any_same f g (x ∷ xs) h = rw (h x, any_same f g xs h)

-- Whoever has a move is not mated.
pub no_mate : (b : Bool) → ((b && not true) || (true && false)) ≡ false
no_mate true = refl
no_mate false = refl

-- One legal reply after which the attacker does not win refutes.
pub refuted_by : LegalListed → (k : ℕ) (q : Setup) (r : Move) → r.origin < 64 → r.target < 64 → is_legal q r ≡ true
    → win k (after_setup q r) ≡ false → lost k q ≡ false
refuted_by listed k q r from to legal fails =
    let there : Contains (legal_moves q) r = (listed q r).1 (from, to, legal) in
    let some : has_legal_move q ≡ true = found (legal_moves q) there in
    let all : list_all (λ s. win k (after_setup q s)) (legal_moves q) ≡ false = false_from_ne_true _ (λ e.
    let won = all_contains (λ s. win k (after_setup q s)) (legal_moves q) r e there in cc) in
    rw (some, all) (no_mate (is_in_check q.men q.side))
  where
    found : (ms : List Move) → Contains ms r → nat_lt 0 (length ms) ≡ true
    found ms (j, on, e) = lt-ltb 0 (length ms) (omega arith)

-- Moves that are gone through one by one: the next of them, and those behind it.
pub some_next : (ms rest : List Move) (r : Move) → ms ≡ r ∷ rest → nat_lt 0 (length ms) ≡ true
some_next ms rest r is = lt-ltb 0 (length ms) (omega (arith, ap length is))

pub all_behind : (f : Move → Bool) (ms rest : List Move) (r : Move) → ms ≡ r ∷ rest → list_all f ms ≡ true → list_all f rest ≡ true
all_behind f ms rest r is all = (and_parts (f r) (list_all f rest) (rw is at all)).1

-- The next of them wins.
pub win_by_next : (n : ℕ) (p : Setup) (ms rest : List Move) (m : Move) → 0 < n
    → list_any (leaves_lost (n - 1) p) ms ≡ list_any (leaves_lost (n - 1) p) (legal_moves p)
    → ms ≡ m ∷ rest → lost (n - 1) (after_setup p m) ≡ true → win n p ≡ true
win_by_next n p ms rest m h any is wins = win_step n p h ∙ sym any ∙ ap (list_any (leaves_lost (n - 1) p)) is
    ∙ ap (λ (b : Bool). b || list_any (leaves_lost (n - 1) p) rest) wins

-- None is left, and none has won.
pub no_win_left : (n : ℕ) (p : Setup) (ms : List Move) → 0 < n
    → list_any (leaves_lost (n - 1) p) ms ≡ list_any (leaves_lost (n - 1) p) (legal_moves p)
    → ms ≡ [] → win n p ≡ false
no_win_left n p ms h any is = win_step n p h ∙ sym any ∙ ap (list_any (leaves_lost (n - 1) p)) is

-- The next of them refutes.
pub refuted_by_next : (k : ℕ) (q : Setup) (ms rest : List Move) (r : Move) → ms ≡ r ∷ rest
    → (list_all (λ s. win k (after_setup q s)) (legal_moves q) ≡ true → list_all (λ s. win k (after_setup q s)) ms ≡ true)
    → (nat_lt 0 (length ms) ≡ true → has_legal_move q ≡ true) → win k (after_setup q r) ≡ false → lost k q ≡ false
refuted_by_next k q ms rest r is left legal fails =
    let some : has_legal_move q ≡ true = legal (some_next ms rest r is) in
    let all : list_all (λ s. win k (after_setup q s)) (legal_moves q) ≡ false = false_from_ne_true _ (λ e.
    let won = (and_parts (win k (after_setup q r)) (list_all (λ s. win k (after_setup q s)) rest) (rw is at (left e))).0 in cc) in
    rw (some, all) (no_mate (is_in_check q.men q.side))

-- After an escape no move mates, so the defender is not lost with one more move.
pub escaped : LegalListed → (q : Setup) → Escape q → lost 1 q ≡ false
escaped listed q e = refuted_by listed 1 q e.reply e.origin e.target e.legal (win_one (after_setup q e.reply) ∙ e.unmated)

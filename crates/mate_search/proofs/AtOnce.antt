-- Mate in one: the keys are the moves that mate, and the first of them is the line.
use Rattle.std.proofs.Common.{◌≡◌, ℕ, ◌<◌, ◌≤◌, Bool, true, false, List, [], ◌∷◌, filter, find, length, get_or, None, Some, nat_lt, refl, sym, ap, ◌∙◌, arith}
use Rattle.chess_board.specs.Positions.{Setup}
use Rattle.chess_board.specs.Moves.{Move}
use Rattle.chess_board.specs.MakeMove.{after_setup}
use Rattle.chess_moves.specs.inside.Listing.{legal_moves}
use Rattle.chess_moves.specs.Verdicts.{is_mate, mating_moves}
use Rattle.mate_search.specs.Wins.{win, leaves_lost}
use Rattle.mate_search.specs.inside.Truth.{dist}
use Rattle.mate_search.specs.inside.Variation.{keys, variation}
use Rattle.mate_search.proofs.Keys.{dist_by_key, win_by_keys}
use Rattle.mate_search.proofs.Playing.{all_among, variation_one}
use Rattle.mate_search.proofs.Wins.{lost_none}

kept_alike : {X : Type 0} (f g : X → Bool) (xs : List X) → ((x : X) → f x ≡ g x) → filter f xs ≡ filter g xs
kept_alike f g [] h = refl
kept_alike f g (x ∷ xs) h = rw (h x, kept_alike f g xs h) refl

pub first_kept : {X : Type 0} (f : X → Bool) (xs kept : List X) (d : X) → filter f xs ≡ kept → 0 < length kept → Some (get_or kept 0 d) ≡ find f xs
first_kept f [] kept d e some = absurd (omega (arith, some, ap length e))
first_kept f (x ∷ xs) kept d e some = (elim (f x) as (λ b. f x ≡ b → Some (get_or kept 0 d) ≡ find f (x ∷ xs)) [
  | true ↦ λ t. let e' = rw t at e in rw (t, ← e') refl
  | false ↦ λ t. rw t (first_kept f xs kept d (rw t at e) some)
]) refl

pub keys_at_once : (p : Setup) → keys (legal_moves p) p 1 ≡ mating_moves p
unfolding mating_moves
keys_at_once p = kept_alike (leaves_lost 0 p) (λ m. is_mate (after_setup p m)) (legal_moves p) (λ m. lost_none 0 (after_setup p m) refl)

pub none_in_none : (first : List Move) (p : Setup) → dist first p 0 ≡ None
unfolding dist
none_in_none first p = refl

pub least_at_once : (p : Setup) (b : ℕ) → 0 < length (mating_moves p) → 1 ≤ b → dist (legal_moves p) p b ≡ Some 1
least_at_once p b some h = dist_by_key (legal_moves p) p 0 b (none_in_none (legal_moves p) p) (omega (arith, some, ap length (keys_at_once p))) (omega arith)

pub win_at_once : (p : Setup) → win 1 p ≡ nat_lt 0 (length (mating_moves p))
win_at_once p = sym (all_among 1 p) ∙ win_by_keys (legal_moves p) p 0 ∙ ap (λ (ms : List Move). nat_lt 0 (length ms)) (keys_at_once p)

pub line_at_once : (p : Setup) (d : Move) → 0 < length (mating_moves p) → variation (legal_moves p) p 1 ≡ get_or (mating_moves p) 0 d ∷ []
line_at_once p d some =
    let first = first_kept (leaves_lost 0 p) (legal_moves p) (mating_moves p) d (keys_at_once p) some in
    variation_one (legal_moves p) p 1 (get_or (mating_moves p) 0 d) refl first

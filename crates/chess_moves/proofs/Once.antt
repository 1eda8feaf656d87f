-- No line of play stands twice among the lines of play.
use Rattle.std.proofs.Common.{◌≡◌, ℕ, zero, suc, ◌<◌, List, [], ◌∷◌, ◌++◌, refl, sym, ap, ◌∙◌, arith, inl, inr}
use Rattle.std.specs.Prelude.{Contains}
use Rattle.std.proofs.lemmas.List.Elements.{Contains-append_right, Contains-append_cases}
use Rattle.chess_board.specs.Positions.{Setup}
use Rattle.chess_board.specs.Moves.{Move, move_place}
use Rattle.chess_board.specs.MakeMove.{after_setup}
use Rattle.chess_moves.specs.inside.Listing.{legal_moves}
use Rattle.chess_moves.specs.Plays.{plays}
use Rattle.chess_moves.specs.Laws.{IsAbove, IsRising, IsOnce, PlaysOnce}
use Rattle.chess_moves.proofs.Rises.{legal_rise}
use Rattle.chess_moves.proofs.Lines.{begun, begun_in, lines_of, lines_in}

-- A move that stands in a list above a place comes after that place.
above_of : (k : ℕ) (ms : List Move) (m : Move) → IsAbove k ms → Contains ms m → k < move_place m
above_of k [] m a (i, on, e) = absurd (omega arith)
above_of k (x ∷ xs) m a (zero, on, e) = rw e at a.0
above_of k (x ∷ xs) m a (suc i, on, e) = above_of k xs m a.1 (i, omega arith, e)

-- two lists that have nothing in common, one after the other
once_both : (xs ys : List (List Move)) → IsOnce xs → IsOnce ys → ((x : List Move) → Contains xs x → Contains ys x → ⊥) → IsOnce (xs ++ ys)
once_both [] ys a b apart = b
once_both (x ∷ xs) ys a b apart = (
  (λ c. elim (Contains-append_cases xs ys x c) [
    | inl h ↦ a.0 h
    | inr h ↦ apart x (0, omega arith, refl) h
  ]),
  once_both xs ys a.1 b (λ y c d. apart y (Contains-append_right (x ∷ []) xs y c) d),
)

first_of : Move → List Move → Move
first_of m [] = m
first_of m (x ∷ xs) = x

rest_of : List Move → List Move
rest_of [] = []
rest_of (x ∷ xs) = xs

once_begun : (m : Move) (lines : List (List Move)) → IsOnce lines → IsOnce (begun m lines)
unfolding rest_of
once_begun m [] a = tt
once_begun m (x ∷ xs) a = (
  (λ c. let r = begun_in m xs (m ∷ x) c in let same : x ≡ r.0 = ap rest_of r.2 in a.0 (rw same r.1)),
  once_begun m xs a.1,
)

once_lines : (f : Move → List (List Move)) (ms : List Move) → IsRising ms → ((m : Move) → IsOnce (f m)) → IsOnce (lines_of f ms)
unfolding first_of
once_lines f [] r once = tt
once_lines f (x ∷ xs) r once = once_both (begun x (f x)) (lines_of f xs) (once_begun x (f x) (once x)) (once_lines f xs r.1 once) (λ line c d.
    let a = begun_in x (f x) line c in
    let b = lines_in f xs line d in
    let same : x ≡ b.0 = ap (first_of x) (sym a.2 ∙ b.4) in
    let later = above_of (move_place x) xs b.0 r.0 b.2 in
    let place = ap move_place same in
    absurd (omega (arith, later, place)))

plays_once_of : (d : ℕ) (p : Setup) → IsOnce (plays p d)
unfolding plays
plays_once_of zero p = ((λ c. absurd (let on = c.1 in omega arith)), tt)
plays_once_of (suc d) p = once_lines (λ m. plays (after_setup p m) d) (legal_moves p) (legal_rise p) (λ m. plays_once_of d (after_setup p m))

pub plays_once : PlaysOnce
plays_once p d = plays_once_of d p

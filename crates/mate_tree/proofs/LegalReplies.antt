-- Lists of legal moves that pass a test.
use Rattle.std.proofs.Common.{◌≡◌, ◌∙◌, ℕ, zero, suc, ◌+◌, ◌<◌, Bool, true, false, cond, List, [], ◌∷◌, ◌++◌, filter, length, take, get_or, refl}
use Rattle.std.proofs.Common.{ap, arith, append-nil}
use Rattle.std.specs.List.{Contains}
use Rattle.std.proofs.lemmas.List.Elements.{filter_more, filter_passes, All-filter, All-contains, All-contains_itself, Contains-append_right}
use Rattle.chess_board.specs.Positions.{Setup}
use Rattle.chess_board.specs.Moves.{Move}
use Rattle.chess_moves.specs.inside.Listing.{legal_moves}
use Rattle.chess_moves.specs.Verdicts.{mating_moves}
use Rattle.chess_problems.specs.Outcomes.{AreLegal}
use Rattle.mate_tree.specs.Parries.{parrying}

pub each_legal : (p : Setup) (ms : List Move) → ((m : Move) → Contains ms m → Contains (legal_moves p) m) → AreLegal p ms
each_legal p [] has = record {}
each_legal p (m ∷ ms) has = (has m (0, omega arith, refl), each_legal p ms (λ n c. has n (Contains-append_right (m ∷ []) ms n c)))

-- What a filter keeps is one of the list, and passes.
pub filter_has : (f : Move → Bool) (ms : List Move) (m : Move) → Contains (filter f ms) m → Contains ms m × (f m ≡ true)
filter_has f ms m c = (
  All-contains (Contains ms) _ m (All-filter f (Contains ms) ms (All-contains_itself ms)) c,
  All-contains (λ x. f x ≡ true) _ m (filter_passes f ms) c,
)

pub filter_keeps : (f : Move → Bool) (ms : List Move) (m : Move) → Contains ms m → f m ≡ true → Contains (filter f ms) m
filter_keeps f [] m (k, on, e) t = absurd (omega arith)
filter_keeps f (y ∷ ys) m (zero, on, e) t =
    let g : f y ≡ true = ap f e ∙ t in
    rw g (0, omega arith, e)
filter_keeps f (y ∷ ys) m (suc k, on, e) t =
    let r = filter_keeps f ys m (k, omega arith, e) t in
    elim (f y) as (λ b. Contains (cond b (y ∷ filter f ys) (filter f ys)) m) [ true ↦ Contains-append_right (y ∷ []) (filter f ys) m r | false ↦ r ]

pub filter_legal : (f : Move → Bool) (p : Setup) → AreLegal p (filter f (legal_moves p))
filter_legal f p = each_legal p (filter f (legal_moves p)) (λ m c. (filter_has f (legal_moves p) m c).0)

pub mates_legal : (p : Setup) → AreLegal p (mating_moves p)
unfolding mating_moves
mates_legal p = filter_legal _ p

pub parrying_legal : (k : ℕ) (q : Setup) → AreLegal q (parrying k q)
unfolding parrying
parrying_legal k q = filter_legal _ q

-- one more element that a filter keeps, or leaves out
pub kept_more : (f : Move → Bool) (xs : List Move) (i : ℕ) (x : Move) (old new : List Move) → i < length xs → x ≡ get_or xs i x
    → f x ≡ true → old ≡ filter f (take i xs) → new ≡ old ++ x ∷ [] → new ≡ filter f (take (i + 1) xs)
kept_more f xs i x old new on is passes e n = rw (filter_more f xs i x on) (rw (← is) (rw passes (rw (← e) n)))

pub left_out : (f : Move → Bool) (xs : List Move) (i : ℕ) (x : Move) (old : List Move) → i < length xs → x ≡ get_or xs i x
    → f x ≡ false → old ≡ filter f (take i xs) → old ≡ filter f (take (i + 1) xs)
left_out f xs i x old on is fails e = rw (filter_more f xs i x on) (rw (← is) (rw fails (rw (append-nil (filter f (take i xs))) e)))

-- The list holds exactly the legal moves.
use Rattle.std.proofs.Common.{◌≡◌, ℕ, zero, suc, ◌<◌, Bool, true, false, cond, List, [], ◌∷◌, filter}
use Rattle.std.proofs.Common.{Option, Some, None, refl, sym, ap, subst, ◌∙◌, arith, inl, inr}
use Rattle.std.specs.Prelude.{Contains}
use Rattle.std.specs.List.{list_all}
use Rattle.std.specs.Prelude.{nat_lt, length}
use Rattle.std.proofs.lemmas.Bool.{cases_eq, and_parts, lt-ltb}
use Rattle.std.proofs.lemmas.List.Elements.{Contains-append_left, Contains-append_right, Contains-append_cases}
use Rattle.chess_board.specs.declared.men.Kind.{Kind}
use Rattle.chess_board.specs.declared.men.Kind.TheVariants.{Pawn, Knight, Bishop, Rook, Queen, King}
use Rattle.chess_board.specs.declared.men.Man.{Man}
use Rattle.chess_board.specs.Moves.{Move}
use Rattle.chess_board.specs.Positions.{Setup}
use Rattle.chess_board.specs.PseudoLegal.{suits, promotes, is_promotion}
use Rattle.chess_board.specs.Legality.{is_legal}
use Rattle.chess_moves.specs.inside.Listing.{move_of, promotions, moves_between, moves_to, moves_below, legal_moves}
use Rattle.chess_moves.specs.Laws.{LegalListed}
use Rattle.chess_moves.specs.inside.LegalTargets.{ways, IsTarget}
use Rattle.chess_moves.proofs.Played.{played}

pub kept : (f : Move → Bool) (xs : List Move) (x : Move) → Contains xs x → f x ≡ true → Contains (filter f xs) x
kept f [] x (k, on, e) t = absurd (omega arith)
kept f (y ∷ ys) x (zero, on, e) t =
    let g : f y ≡ true = ap f e ∙ t in
    rw g (0, omega arith, e)
kept f (y ∷ ys) x (suc k, on, e) t =
    let r = kept f ys x (k, omega arith, e) t in
    elim (f y) as (λ b. Contains (cond b (y ∷ filter f ys) (filter f ys)) x) [ true ↦ Contains-append_right (y ∷ []) (filter f ys) x r | false ↦ r ]

pub sifted : (f : Move → Bool) (xs : List Move) (x : Move) → Contains (filter f xs) x → Contains xs x × (f x ≡ true)
sifted f [] x (k, on, e) = absurd (omega arith)
sifted f (y ∷ ys) x c =
    (elim (f y) as (λ b. f y ≡ b → Contains (cond b (y ∷ filter f ys) (filter f ys)) x → Contains (y ∷ ys) x × (f x ≡ true)) [
      | false ↦ λ t h. let r = sifted f ys x h in (Contains-append_right (y ∷ []) ys x r.0, r.1)
      | true ↦ λ t h. elim (Contains-append_cases (y ∷ []) (filter f ys) x h) [
        | inl here ↦ let e = only y x here in ((0, omega arith, e), ap f (sym e) ∙ t)
        | inr there ↦ let r = sifted f ys x there in (Contains-append_right (y ∷ []) ys x r.0, r.1)
      ]
    ]) refl c
  where
    only : (y x : Move) → Contains (y ∷ []) x → y ≡ x
    only y x (zero, on, e) = e
    only y x (suc k, on, e) = absurd (omega arith)

pub between_in : (o t : ℕ) (m : Move) → Contains (moves_between o t) m → (m.origin ≡ o) × (m.target ≡ t)
unfolding moves_between
between_in o t m (zero, on, e) = (ap (λ x. x.origin) (sym e), ap (λ x. x.target) (sym e))
between_in o t m (suc zero, on, e) = (ap (λ x. x.origin) (sym e), ap (λ x. x.target) (sym e))
between_in o t m (suc (suc zero), on, e) = (ap (λ x. x.origin) (sym e), ap (λ x. x.target) (sym e))
between_in o t m (suc (suc (suc zero)), on, e) = (ap (λ x. x.origin) (sym e), ap (λ x. x.target) (sym e))
between_in o t m (suc (suc (suc (suc zero))), on, e) = (ap (λ x. x.origin) (sym e), ap (λ x. x.target) (sym e))
between_in o t m (suc (suc (suc (suc (suc k)))), on, e) = absurd (omega arith)

pub to_in : (o n : ℕ) (m : Move) → Contains (moves_to o n) m → (m.origin ≡ o) × (m.target < n)
unfolding moves_to
to_in o zero m (k, on, e) = absurd (omega arith)
to_in o (suc n) m c = elim (Contains-append_cases (moves_to o n) (moves_between o n) m c) [
  | inl h ↦ let r = to_in o n m h in (r.0, (let x = r.1 in omega arith))
  | inr h ↦ let r = between_in o n m h in (r.0, (let x = r.1 in omega arith))
]

below_in : (n : ℕ) (m : Move) → Contains (moves_below n) m → (m.origin < n) × (m.target < 64)
unfolding moves_below
below_in zero m (k, on, e) = absurd (omega arith)
below_in (suc n) m c = elim (Contains-append_cases (moves_below n) (moves_to n 64) m c) [
  | inl h ↦ let r = below_in n m h in ((let x = r.0 in omega arith), r.1)
  | inr h ↦ let r = to_in n 64 m h in ((let x = r.0 in omega arith), r.1)
]

to_has : (o t n : ℕ) (m : Move) → t < n → Contains (moves_between o t) m → Contains (moves_to o n) m
unfolding moves_to
to_has o t zero m l c = absurd (omega arith)
to_has o t (suc n) m l c = elim (cases_eq t n) [
  | inl e ↦ Contains-append_right (moves_to o n) (moves_between o n) m (rw e at c)
  | inr ne ↦ Contains-append_left (moves_to o n) (moves_between o n) m (to_has o t n m (omega arith) c)
]

below_has : (o n : ℕ) (m : Move) → o < n → Contains (moves_to o 64) m → Contains (moves_below n) m
unfolding moves_below
below_has o zero m l c = absurd (omega arith)
below_has o (suc n) m l c = elim (cases_eq o n) [
  | inl e ↦ Contains-append_right (moves_below n) (moves_to n 64) m (rw e at c)
  | inr ne ↦ Contains-append_left (moves_below n) (moves_to n 64) m (below_has o n m (omega arith) c)
]

-- The move itself stands between its squares.
pub between_has : (man : Man) (o t : ℕ) (r : Option Kind) → suits man t r ≡ true → Contains (moves_between o t) (move_of o t r)
unfolding moves_between
between_has man o t None s = (0, omega arith, refl)
between_has man o t (Some Knight) s = (1, omega arith, refl)
between_has man o t (Some Bishop) s = (2, omega arith, refl)
between_has man o t (Some Rook) s = (3, omega arith, refl)
between_has man o t (Some Queen) s = (4, omega arith, refl)
between_has man o t (Some Pawn) s = let x = (and_parts (promotes man t) (is_promotion Pawn) s).1 in cc
between_has man o t (Some King) s = let x = (and_parts (promotes man t) (is_promotion King) s).1 in cc

pub legal_listed : LegalListed
unfolding legal_moves
legal_listed p m = (
  (λ c. let s = sifted (is_legal p) (moves_below 64) m c in let r = below_in 64 m s.0 in (r.0, r.1, s.1)),
  (λ h. let w = played p m h.2 in
      kept (is_legal p) (moves_below 64) m (below_has m.origin 64 m h.0
      (to_has m.origin m.target 64 m h.1 (between_has w.0 m.origin m.target m.promotion w.1.suits))) h.2),
)

-- All that pass a test pass it.
pub all_kept : (f : Move → Bool) (xs : List Move) → list_all f (filter f xs) ≡ true
all_kept f [] = refl
all_kept f (x ∷ xs) = (elim (f x) as (λ b. f x ≡ b → list_all f (cond b (x ∷ filter f xs) (filter f xs)) ≡ true) [
  | true ↦ λ e.
      rw e (all_kept f xs)
  | false ↦ λ e. all_kept f xs
]) refl

pub all_legal : (p : Setup) → list_all (is_legal p) (legal_moves p) ≡ true
unfolding legal_moves
all_legal p = all_kept (is_legal p) (moves_below 64)

-- A way that suits the man stands among its ways.
ways_have : (man : Man) (o t : ℕ) (r : Option Kind) → suits man t r ≡ true → Contains (ways man o t) (move_of o t r)
ways_have man o t None s = (elim (promotes man t) as (λ b. promotes man t ≡ b
    → Contains (cond b (promotions o t) (move_of o t None ∷ [])) (move_of o t None)) [
      | true ↦ λ e. let never = rw e at s in cc
      | false ↦ λ e. (0, omega arith, refl)
    ]) refl
ways_have man o t (Some asked) s =
    let both = and_parts (promotes man t) (is_promotion asked) s in
    let promoted : promotes man t ≡ true = both.0 in
    rw promoted (one asked both.1)
  where
    one : (k : Kind) → is_promotion k ≡ true → Contains (promotions o t) (move_of o t (Some k))
    one Knight h = (0, omega arith, refl)
    one Bishop h = (1, omega arith, refl)
    one Rook h = (2, omega arith, refl)
    one Queen h = (3, omega arith, refl)
    one Pawn h = cc
    one King h = cc

-- Such a way is legal where its square is a target.
pub legal_target : (p : Setup) (man : Man) (o t : ℕ) (r : Option Kind) (is : Bool) → suits man t r ≡ true
    → IsTarget is p man o t → is_legal p (move_of o t r) ≡ is
legal_target p man o t r true s are =
    (sifted (is_legal p) (moves_between o t) (move_of o t r)
    (subst (λ (ms : List Move). Contains ms (move_of o t r)) (sym are) (ways_have man o t r s))).1
legal_target p man o t r false s are = (elim (is_legal p (move_of o t r)) as (λ b. is_legal p (move_of o t r) ≡ b → b ≡ false) [
  | false ↦ λ e. refl
  | true ↦ λ e. absurd (nowhere (subst (λ (ms : List Move). Contains ms (move_of o t r)) are
      (kept (is_legal p) (moves_between o t) (move_of o t r) (between_has man o t r s) e)))
]) refl
  where
    nowhere : Contains {X = Move} [] (move_of o t r) → ⊥
    nowhere (k, on, e) = omega arith

-- A man that is not promoted on a target has a legal move.
pub some_legal : (p : Setup) (man : Man) (o t : ℕ) → t < 64 → promotes man t ≡ false → IsTarget true p man o t
    → nat_lt 0 (length (filter (is_legal p) (moves_to o 64))) ≡ true
some_legal p man o t on last are =
    let suited : suits man t None ≡ true = rw last refl in
    let legal = legal_target p man o t None true suited are in
    let there = kept (is_legal p) (moves_to o 64) (move_of o t None) (to_has o t 64 (move_of o t None) on (between_has man o t None suited)) legal in
    lt-ltb 0 (length (filter (is_legal p) (moves_to o 64))) (let inside = there.1 in omega arith)

-- A side has at most 1,024 legal moves: at most 64 from each of its at most 16 men.
use Rattle.std.proofs.Common.{◌≡◌, ℕ, zero, suc, ◌+◌, ◌*◌, ◌≤◌, Bool, true, false, cond, eqb, List, [], ◌∷◌, filter}
use Rattle.std.proofs.Common.{length, take, get_or, count_by, Option, Some, None, refl, ap, ◌∙◌, arith, append-nil}
use Rattle.std.proofs.lemmas.Bool.{eqb-true, eq-eqb}
use Rattle.std.proofs.lemmas.List.Sums.{sum_by-take-le, sum_by-cons}
use Rattle.chess_board.specs.declared.men.Kind.{Kind}
use Rattle.chess_board.specs.declared.men.Kind.TheVariants.{Pawn, Knight, Bishop, Rook, Queen, King}
use Rattle.chess_board.specs.declared.men.Colour.{Colour}
use Rattle.chess_board.specs.declared.men.Colour.TheVariants.{White, Black}
use Rattle.chess_board.specs.declared.men.Man.{Man}
use Rattle.chess_board.specs.Squares.{rank_of}
use Rattle.chess_board.specs.Men.{is_of}
use Rattle.chess_board.specs.inside.KindTests.{is_pawn_kind}
use Rattle.chess_board.specs.Positions.{Setup, man_at}
use Rattle.chess_board.specs.Soundness.{IsSound}
use Rattle.chess_board.specs.Moves.{Move}
use Rattle.chess_board.specs.PseudoLegal.{last_rank, pawn_goes, goes, promotes}
use Rattle.chess_board.specs.Legality.{is_legal}
use Rattle.chess_moves.specs.inside.Listing.{move_of, promotions, moves_between, moves_to, moves_below, legal_moves}
use Rattle.chess_moves.specs.inside.Shifts.{rank_before}
use Rattle.chess_moves.proofs.Played.{not_own, not_suited, not_gone}
use Rattle.chess_moves.proofs.PawnSteps.{pawn_before}
use Rattle.chess_moves.proofs.Sieve.{many, kept, promotions_kept, many-promotions, between_kept, many-between, many-to_more, many-below_more}

-- From one square to another.

one_none : (f : Move → Bool) (o t : ℕ) (r : Option Kind) → f (move_of o t r) ≡ false → kept f o t r ≡ []
one_none f o t r h = rw h refl

one_at_most : (f : Move → Bool) (o t : ℕ) (r : Option Kind) → length (kept f o t r) ≤ 1
one_at_most f o t r = elim (f (move_of o t r)) as (λ b. length (cond b (move_of o t r ∷ []) []) ≤ 1) [ true ↦ omega arith | false ↦ omega arith ]

one_zero : (f : Move → Bool) (o t : ℕ) (r : Option Kind) → f (move_of o t r) ≡ false → length (kept f o t r) ≡ 0
one_zero f o t r h = ap length (one_none f o t r h)

-- none of the five moves passes
none_between : (f : Move → Bool) (o t : ℕ) → ((r : Option Kind) → f (move_of o t r) ≡ false) → many f (moves_between o t) ≡ 0
none_between f o t fails =
    let n = λ (r : Option Kind). one_zero f o t r (fails r) in
    omega (arith, many-between f o t, many-promotions f o t, n None, n (Some Knight), n (Some Bishop), n (Some Rook), n (Some Queen))

-- Where the man is promoted, the promotions are all that can be legal.
pub between_promoted : (p : Setup) (o t : ℕ) (man : Man) → man_at p.men o ≡ Some man → promotes man t ≡ true
    → filter (is_legal p) (moves_between o t) ≡ filter (is_legal p) (promotions o t)
between_promoted p o t man is yes' =
    let plain : is_legal p (move_of o t None) ≡ false = not_suited p (move_of o t None) man is (rw yes' refl) in
    between_kept (is_legal p) o t ∙ rw (one_none (is_legal p) o t None plain) refl

-- Where it is not, the plain move is.
pub between_plain : (p : Setup) (o t : ℕ) (man : Man) → man_at p.men o ≡ Some man → promotes man t ≡ false
    → filter (is_legal p) (moves_between o t) ≡ filter (is_legal p) (move_of o t None ∷ [])
between_plain p o t man is no' =
    let n = λ (k : Kind). one_none (is_legal p) o t (Some k) (not_suited p (move_of o t (Some k)) man is (rw no' refl)) in
    between_kept (is_legal p) o t ∙ rw (promotions_kept (is_legal p) o t) (simp (n Knight, n Bishop, n Rook, n Queen, append-nil) refl)

few_between : (p : Setup) (o t : ℕ) (man : Man) → man_at p.men o ≡ Some man → many (is_legal p) (moves_between o t) ≤ cond (promotes man t) 4 1
few_between p o t man is =
    let f : Move → Bool = is_legal p in
    let at = λ (r : Option Kind). one_at_most f o t r in
    (elim (promotes man t) as (λ b. promotes man t ≡ b → many f (moves_between o t) ≤ cond b 4 1) [
      | true ↦ λ yes'. omega (
        arith,
        ap length (between_promoted p o t man is yes'),
        many-promotions f o t,
        at (Some Knight),
        at (Some Bishop),
        at (Some Rook),
        at (Some Queen),
      )
      | false ↦ λ no'. omega (arith, ap length (between_plain p o t man is no'), at None)
    ]) refl

none_reached : (p : Setup) (o t : ℕ) (man : Man) → man_at p.men o ≡ Some man → goes p man.colour man.kind o t ≡ false
    → many (is_legal p) (moves_between o t) ≡ 0
none_reached p o t man is h = none_between (is_legal p) o t (λ r. not_gone p (move_of o t r) man is h)

-- From one square.

many_none : (p : Setup) (o n : ℕ) → is_of p.side (man_at p.men o) ≡ false → many (is_legal p) (moves_to o n) ≡ 0
unfolding moves_to
many_none p o zero h = refl
many_none p o (suc n) h = omega (
  arith,
  many-to_more (is_legal p) o n,
  many_none p o n h,
  none_between (is_legal p) o n (λ r. not_own p (move_of o n r) h),
)

-- There are none where no man of the side to move stands.
pub none_from : (p : Setup) (o : ℕ) → is_of p.side (man_at p.men o) ≡ false → filter (is_legal p) (moves_to o 64) ≡ []
none_from p o h = empty_list (filter (is_legal p) (moves_to o 64)) (many_none p o 64 h)
  where
    empty_list : (xs : List Move) → length xs ≡ 0 → xs ≡ []
    empty_list [] h = refl
    empty_list (x ∷ xs) h = absurd (omega (arith, h))

-- the sum of a bound for each target below n
total : (ℕ → ℕ) → ℕ → ℕ
total cap zero = 0
total cap (suc n) = total cap n + cap n

many_total : (f : Move → Bool) (o : ℕ) (cap : ℕ → ℕ) → ((t : ℕ) → many f (moves_between o t) ≤ cap t) → (n : ℕ) → many f (moves_to o n) ≤ total cap n
unfolding total moves_to
many_total f o cap h zero = omega arith
many_total f o cap h (suc n) = omega (arith, many-to_more f o n, many_total f o cap h n, h n)

total_one : total (λ t. 1) 64 ≡ 64
unfolding total
total_one = refl

total_last : (c : Colour) → total (λ t. cond (eqb (rank_of t) (last_rank c)) 4 0) 64 ≡ 32
unfolding total
total_last White = refl
total_last Black = refl

total_other : (c : Colour) → total (λ t. cond (eqb (rank_of t) (last_rank c)) 0 1) 64 ≡ 56
unfolding total
total_other White = refl
total_other Black = refl

pawn_kind : (k : Kind) → is_pawn_kind k ≡ true → k ≡ Pawn
pawn_kind Pawn h = refl
pawn_kind Knight h = cc
pawn_kind Bishop h = cc
pawn_kind Rook h = cc
pawn_kind Queen h = cc
pawn_kind King h = cc

not_true : (b : Bool) → (b ≡ true → ⊥) → b ≡ false
not_true true h = absurd (h refl)
not_true false h = refl

-- a pawn on the rank before the last promotes with each move, and any other with none
few_of_pawn : (p : Setup) (o : ℕ) (man : Man) → man_at p.men o ≡ Some man → is_pawn_kind man.kind ≡ true → many (is_legal p) (moves_to o 64) ≤ 64
few_of_pawn p o man is pawn =
    let f : Move → Bool = is_legal p in
    let c : Colour = man.colour in
    let kind = pawn_kind man.kind pawn in
    let goes_is : (t : ℕ) → goes p man.colour man.kind o t ≡ pawn_goes p c o t = λ t. rw kind refl in
    let promotes_is : (t : ℕ) → promotes man t ≡ eqb (rank_of t) (last_rank c) = λ t. rw pawn in
    (elim (eqb (rank_of o) (rank_before c)) as (λ b. eqb (rank_of o) (rank_before c) ≡ b → many f (moves_to o 64) ≤ 64) [
      | true ↦ λ at.
          let from = eqb-true (rank_of o) (rank_before c) at in
          let each : (t : ℕ) → many f (moves_between o t) ≤ cond (eqb (rank_of t) (last_rank c)) 4 0 = λ t.
          (elim (eqb (rank_of t) (last_rank c)) as (λ b. eqb (rank_of t) (last_rank c) ≡ b → many f (moves_between o t) ≤ cond b 4 0) [
            | true ↦ λ l. rw l at (rw (promotes_is t) at (few_between p o t man is))
            | false ↦ λ l. let stays : goes p man.colour man.kind o t ≡ false = rw (goes_is t) (not_true (pawn_goes p c o t)
                (λ g. let e = eq-eqb (rank_of t) (last_rank c) ((pawn_before p c o t g).1 from) in cc)) in
                omega (arith, none_reached p o t man is stays)
          ]) refl in
          omega (arith, many_total f o (λ t. cond (eqb (rank_of t) (last_rank c)) 4 0) each 64, total_last c)
      | false ↦ λ at.
          let each : (t : ℕ) → many f (moves_between o t) ≤ cond (eqb (rank_of t) (last_rank c)) 0 1 = λ t.
          (elim (eqb (rank_of t) (last_rank c)) as (λ b. eqb (rank_of t) (last_rank c) ≡ b → many f (moves_between o t) ≤ cond b 0 1) [
            | false ↦ λ l. rw l at (rw (promotes_is t) at (few_between p o t man is))
            | true ↦ λ l. let stays : goes p man.colour man.kind o t ≡ false =
                rw (goes_is t) (not_true (pawn_goes p c o t) (λ g. let e =
                eq-eqb (rank_of o) (rank_before c) ((pawn_before p c o t g).0 (eqb-true (rank_of t) (last_rank c) l)) in cc)) in
                omega (arith, none_reached p o t man is stays)
          ]) refl in
          omega (arith, many_total f o (λ t. cond (eqb (rank_of t) (last_rank c)) 0 1) each 64, total_other c)
    ]) refl

few_of_piece : (p : Setup) (o : ℕ) (man : Man) → man_at p.men o ≡ Some man → is_pawn_kind man.kind ≡ false → many (is_legal p) (moves_to o 64) ≤ 64
few_of_piece p o man is piece =
    let each : (t : ℕ) → many (is_legal p) (moves_between o t) ≤ 1 = λ t. rw piece at (few_between p o t man is) in
    omega (arith, many_total (is_legal p) o (λ t. 1) each 64, total_one)

few_from : (p : Setup) (o : ℕ) → many (is_legal p) (moves_to o 64) ≤ 64
few_from p o = (elim (man_at p.men o) as (λ m. man_at p.men o ≡ m → many (is_legal p) (moves_to o 64) ≤ 64) [
  | None ↦ λ is. omega (arith, many_none p o 64 (rw is))
  | Some man ↦ λ is. (elim (is_pawn_kind man.kind) as (λ b. is_pawn_kind man.kind ≡ b → many (is_legal p) (moves_to o 64) ≤ 64) [
    | true ↦ λ t. few_of_pawn p o man is t
    | false ↦ λ t. few_of_piece p o man is t
  ]) refl
]) refl

-- From all squares.

own_more : (xs : List (Option Man)) (n : ℕ) (side : Colour)
    → count_by (is_of side) (take (suc n) xs) ≡ count_by (is_of side) (take n xs) + cond (is_of side (get_or xs n None)) 1 0
own_more [] zero side = refl
own_more [] (suc n) side = refl
own_more (x ∷ xs) zero side = refl
own_more (x ∷ xs) (suc n) side = omega (
  arith,
  own_more xs n side,
  sum_by-cons (λ y. cond (is_of side y) 1 0) x (take (suc n) xs),
  sum_by-cons (λ y. cond (is_of side y) 1 0) x (take n xs),
)

few_below : (p : Setup) (n : ℕ) → many (is_legal p) (moves_below n) ≤ 64 * count_by (is_of p.side) (take n p.men)
unfolding moves_below
few_below p zero = omega arith
few_below p (suc n) = (elim (is_of p.side (man_at p.men n)) as (λ b. is_of p.side (man_at p.men n) ≡ b
    → many (is_legal p) (moves_below (suc n)) ≤ 64 * count_by (is_of p.side) (take (suc n) p.men)) [
      | true ↦ λ t. let one : count_by (is_of p.side) (take (suc n) p.men) ≡ count_by (is_of p.side) (take n p.men) + 1 =
          rw t at (own_more p.men n p.side) in
          omega (arith, many-below_more (is_legal p) n, few_from p n, few_below p n, one)
      | false ↦ λ t. let one : count_by (is_of p.side) (take (suc n) p.men) ≡ count_by (is_of p.side) (take n p.men) + 0 =
          rw t at (own_more p.men n p.side) in
          omega (arith, many-below_more (is_legal p) n, many_none p n 64 t, few_below p n, one)
    ]) refl

sixteen : (p : Setup) → IsSound p → count_by (is_of p.side) p.men ≤ 16
sixteen p sound = go p.side sound.few.0 sound.few.1
  where
    go : (c : Colour) → count_by (is_of White) p.men ≤ 16 → count_by (is_of Black) p.men ≤ 16 → count_by (is_of c) p.men ≤ 16
    go White a b = a
    go Black a b = b

pub few_legal : (p : Setup) → IsSound p → length (legal_moves p) ≤ 1024
unfolding legal_moves
few_legal p sound = omega (arith, sixteen p sound, few_below p 64, sum_by-take-le (λ x. cond (is_of p.side x) 1 0) p.men 64)

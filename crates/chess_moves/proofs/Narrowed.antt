-- A man's moves to some of its targets, where no other passes a test.
use Rattle.std.proofs.Common.{◌≡◌, ℕ, zero, suc, ◌<◌, Bool, true, false, ◌&&◌, ◌||◌, cond, List}
use Rattle.std.proofs.Common.{[], ◌∷◌, filter, Some, refl, sym, ap, ◌∙◌, arith, bit_and}
use Rattle.std.specs.Prelude.{Contains}
use Rattle.std.specs.List.{list_any, list_all, flat_map}
use Rattle.std.proofs.lemmas.List.Folds.{list_any-append, list_all-append}
use Rattle.std.proofs.lemmas.List.Elements.{Contains-append_right}
use Rattle.square_sets.specs.Members.{has, members_below, members}
use Rattle.chess_board.specs.declared.men.Man.{Man}
use Rattle.chess_board.specs.MakeMove.{after_setup}
use Rattle.chess_board.specs.PseudoLegal.{goes}
use Rattle.chess_board.specs.Legality.{is_legal}
use Rattle.chess_board.specs.Moves.{Move}
use Rattle.chess_board.specs.Positions.{Setup, man_at}
use Rattle.chess_moves.specs.GivesCheck.{gives_check}
use Rattle.chess_moves.specs.inside.Listing.{moves_between, moves_to}
use Rattle.chess_moves.specs.inside.LegalTargets.{ways, AreTargets}
use Rattle.chess_moves.specs.Verdicts.{is_mate}
use Rattle.chess_moves.proofs.Listed.{between_in, to_in, all_kept}
use Rattle.chess_moves.proofs.Mates.{no_mate}
use Rattle.chess_moves.proofs.Members.{flat_map-below_suc}
use Rattle.chess_moves.proofs.Played.{played}
use Rattle.chess_moves.proofs.SetBits.{has_and, has_none}
use Rattle.chess_moves.proofs.Walks.{legal_to}

-- No move of the list that passes the one test passes the other.
pub none_kept : (f g : Move → Bool) (xs : List Move) → ((m : Move) → Contains xs m → g m ≡ true → f m ≡ false) → list_any f (filter g xs) ≡ false
none_kept f g [] h = refl
none_kept f g (x ∷ xs) h =
    let rest = none_kept f g xs (λ m c. h m (Contains-append_right (x ∷ []) xs m c)) in
    (elim (g x) as (λ b. g x ≡ b → list_any f (cond b (x ∷ filter g xs) (filter g xs)) ≡ false) [
      | true ↦ λ e. let here = h x (0, omega arith, refl) e in rw (here, rest) refl
      | false ↦ λ e. rest
    ]) refl

pub any_narrowed : (f : Move → Bool) (ways : ℕ → List Move) (set targets n : ℕ)
    → ((t : ℕ) → t < n → has targets t ≡ true → has set t ≡ false → list_any f (ways t) ≡ false)
    → list_any f (flat_map ways (members_below (bit_and set targets) n)) ≡ list_any f (flat_map ways (members_below targets n))
unfolding members_below
any_narrowed f ways set targets zero h = refl
any_narrowed f ways set targets (suc n) h =
    ap (list_any f) (flat_map-below_suc ways (bit_and set targets) n)
    ∙ list_any-append f (flat_map ways (members_below (bit_and set targets) n)) (cond (has (bit_and set targets) n) (ways n) [])
    ∙ ap (λ x. x || list_any f (cond (has (bit_and set targets) n) (ways n) [])) (any_narrowed f ways set targets n (λ t l. h t (omega arith)))
    ∙ ap (λ x. list_any f (flat_map ways (members_below targets n)) || x) last
    ∙ sym (ap (list_any f) (flat_map-below_suc ways targets n)
    ∙ list_any-append f (flat_map ways (members_below targets n)) (cond (has targets n) (ways n) []))
  where
    cases : (s t : Bool) → (t ≡ true → s ≡ false → list_any f (ways n) ≡ false)
        → list_any f (cond (s && t) (ways n) []) ≡ list_any f (cond t (ways n) [])
    cases true t k = refl
    cases false true k = sym (k refl refl)
    cases false false k = refl

    last : list_any f (cond (has (bit_and set targets) n) (ways n) []) ≡ list_any f (cond (has targets n) (ways n) [])
    last = ap (λ x. list_any f (cond x (ways n) [])) (has_and set targets n) ∙ cases (has set n) (has targets n) (h n (omega arith))

all_narrowed : (f : Move → Bool) (man : Man) (o set targets n : ℕ) → ((t : ℕ) → t < n → has targets t ≡ true → list_all f (ways man o t) ≡ true)
    → list_all f (flat_map (ways man o) (members_below (bit_and set targets) n)) ≡ true
unfolding members_below
all_narrowed f man o set targets zero h = refl
all_narrowed f man o set targets (suc n) h =
    ap (list_all f) (flat_map-below_suc (ways man o) (bit_and set targets) n)
    ∙ list_all-append f (flat_map (ways man o) (members_below (bit_and set targets) n)) (cond (has (bit_and set targets) n) (ways man o n) [])
    ∙ ap (λ x. x && list_all f (cond (has (bit_and set targets) n) (ways man o n) [])) (all_narrowed f man o set targets n (λ t l. h t (omega arith)))
    ∙ ap (λ x. list_all f (cond x (ways man o n) [])) (has_and set targets n)
    ∙ cases (has set n) (has targets n) (h n (omega arith))
  where
    cases : (s t : Bool) → (t ≡ true → list_all f (ways man o n) ≡ true) → list_all f (cond (s && t) (ways man o n) []) ≡ true
    cases true true k = k refl
    cases true false k = refl
    cases false t k = refl

-- Legal moves from a square to others than these give no check; they do not mate.
abbrev pub AreCheckSquares : ℕ → Setup → ℕ → Type 0
AreCheckSquares set p o = (m : Move) → is_legal p m ≡ true → m.origin ≡ o → m.target < 64 → has set m.target ≡ false → gives_check p m ≡ false

abbrev pub AreMateSquares : ℕ → Setup → ℕ → Type 0
AreMateSquares set p o = (m : Move) → is_legal p m ≡ true → m.origin ≡ o → m.target < 64
    → has set m.target ≡ false → is_mate (after_setup p m) ≡ false

-- A move without check does not mate.
pub mate_squares : (p : Setup) (o checks : ℕ) → AreCheckSquares checks p o → AreMateSquares checks p o
mate_squares p o checks check m legal at t_on out = no_mate p m (check m legal at t_on out)

-- Of these squares those to which the man goes.
pub gone_squares : (p : Setup) (man : Man) (o set goals : ℕ) → man_at p.men o ≡ Some man → AreMateSquares set p o
    → ((t : ℕ) → t < 64 → goes p man.colour man.kind o t ≡ true → has goals t ≡ true) → AreMateSquares (bit_and set goals) p o
gone_squares p man o set goals there quiet reached m legal at t_on out =
    let by = played p m legal in
    let here : man_at p.men m.origin ≡ Some man = ap (man_at p.men) at ∙ there in
    let same : by.0 ≡ man = let is = by.1.there in cc in
    let gone : goes p man.colour man.kind o m.target ≡ true = ap (λ s. goes p man.colour man.kind s m.target) (sym at)
    ∙ ap (λ (x : Man). goes p x.colour x.kind m.origin m.target) (sym same) ∙ by.1.goes in
    quiet m legal at t_on (cases (has set m.target) (has goals m.target) (sym (has_and set goals m.target) ∙ out) (reached m.target t_on gone))
  where
    cases : (x y : Bool) → (x && y) ≡ false → y ≡ true → x ≡ false
    cases true true e f = e
    cases true false e f = cc
    cases false y e f = refl

-- Only a move to both may mate.
pub both_squares : (p : Setup) (o a b : ℕ) → AreMateSquares a p o → AreMateSquares b p o → AreMateSquares (bit_and a b) p o
both_squares p o a b first second m legal at t_on out =
    (elim (has a m.target) as (λ x. has a m.target ≡ x → is_mate (after_setup p m) ≡ false) [
      | false ↦ λ e. first m legal at t_on e
      | true ↦ λ e. second m legal at t_on (ap (λ x. x && has b m.target) (sym e) ∙ sym (has_and a b m.target) ∙ out)
    ]) refl

-- Fewer squares, where moves to those that were dropped do not mate.
pub fewer_squares : (p : Setup) (o candidates set : ℕ) → AreMateSquares candidates p o
    → ((m : Move) → is_legal p m ≡ true → m.origin ≡ o → m.target < 64 → has candidates m.target ≡ true
    → has set m.target ≡ false → is_mate (after_setup p m) ≡ false)
    → AreMateSquares set p o
fewer_squares p o candidates set all dropped m legal at t_on out =
    (elim (has candidates m.target) as (λ b. has candidates m.target ≡ b → is_mate (after_setup p m) ≡ false) [
      | true ↦ λ e. dropped m legal at t_on e out
      | false ↦ λ e. all m legal at t_on e
    ]) refl

module _ (p : Setup) (man : Man) (o set targets : ℕ) (quiet : AreMateSquares set p o) where
  -- Where there are none, the man does not mate.
  pub none_mates : set ≡ 0 → list_any (λ m. is_mate (after_setup p m)) (filter (is_legal p) (moves_to o 64)) ≡ false
  none_mates none = none_kept (λ m. is_mate (after_setup p m)) (is_legal p) (moves_to o 64) (λ m c legal.
      let at = to_in o 64 m c in
      quiet m legal at.0 at.1 (has_none set m.target none))

  -- It mates exactly where a move to one of them does.
  pub narrowed_mates : AreTargets targets p man o
      → list_any (λ m. is_mate (after_setup p m)) (flat_map (ways man o) (members (bit_and set targets)))
      ≡ list_any (λ m. is_mate (after_setup p m)) (filter (is_legal p) (moves_to o 64))
  unfolding members
  narrowed_mates are =
      any_narrowed (λ m. is_mate (after_setup p m)) (ways man o) set targets 64 (λ t l there out.
      let kept : filter (is_legal p) (moves_between o t) ≡ ways man o t = rw there at (are t l) in
      rw (← kept) (none_kept (λ m. is_mate (after_setup p m)) (is_legal p) (moves_between o t) (λ m c legal.
      let at = between_in o t m c in
      quiet m legal at.0 (rw at.1 l) (ap (has set) at.1 ∙ out))))
      ∙ sym (ap (list_any (λ m. is_mate (after_setup p m))) (legal_to p man o targets are))

  pub narrowed_legal : AreTargets targets p man o → list_all (is_legal p) (flat_map (ways man o) (members (bit_and set targets))) ≡ true
  unfolding members
  narrowed_legal are = all_narrowed (is_legal p) man o set targets 64 (λ t l there.
      let kept : filter (is_legal p) (moves_between o t) ≡ ways man o t = rw there at (are t l) in
      ap (list_all (is_legal p)) (sym kept) ∙ all_kept (is_legal p) (moves_between o t))

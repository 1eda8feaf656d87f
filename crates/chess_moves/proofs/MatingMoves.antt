-- The moves that mate, man by man.
use Rattle.std.proofs.Common.{◌≡◌, ℕ, zero, suc, ◌≤◌, ◌<◌, Bool, true, false, ◌&&◌, cond, List, [], ◌∷◌, ◌++◌}
use Rattle.std.proofs.Common.{filter, length, refl, sym, ap, ◌∙◌, arith, bit_and}
use Rattle.std.specs.Prelude.{Contains}
use Rattle.std.specs.List.{flat_map}
use Rattle.std.proofs.lemmas.List.Elements.{Contains-append_right, filter-append}
use Rattle.square_sets.specs.Members.{has, members_below, members}
use Rattle.square_sets.specs.BitScan.{IsSplit}
use Rattle.chess_board.specs.declared.men.Man.{Man}
use Rattle.chess_board.specs.MakeMove.{after_setup}
use Rattle.chess_board.specs.Men.{is_of}
use Rattle.chess_board.specs.Sets.{IsSetOf}
use Rattle.chess_board.specs.Soundness.{IsSound}
use Rattle.chess_board.specs.Legality.{is_legal}
use Rattle.chess_board.specs.Moves.{Move}
use Rattle.chess_board.specs.Positions.{Setup}
use Rattle.chess_moves.specs.inside.Listing.{moves_between, moves_to, legal_moves}
use Rattle.chess_moves.specs.inside.LegalTargets.{ways, AreTargets}
use Rattle.chess_moves.specs.inside.MateInOne.{mates_of}
use Rattle.chess_moves.specs.inside.MoveGeneration.{moves_of_men}
use Rattle.chess_moves.specs.Verdicts.{is_mate, mating_moves}
use Rattle.chess_moves.proofs.Few.{few_legal}
use Rattle.chess_moves.proofs.Listed.{between_in, to_in}
use Rattle.chess_moves.proofs.Members.{flat_map-below_suc}
use Rattle.chess_moves.proofs.MatingMen.{AreMatingMen}
use Rattle.chess_moves.proofs.Narrowed.{AreMateSquares}
use Rattle.chess_moves.proofs.SetBits.{has_and, has_none}
use Rattle.chess_moves.proofs.Walks.{first_man, legal_of_men, legal_to}

-- No move of the list that passes the one test passes the other.
none_listed : (f g : Move → Bool) (xs : List Move) → ((m : Move) → Contains xs m → g m ≡ true → f m ≡ false) → filter f (filter g xs) ≡ []
none_listed f g [] h = refl
none_listed f g (x ∷ xs) h =
    let rest = none_listed f g xs (λ m c. h m (Contains-append_right (x ∷ []) xs m c)) in
    (elim (g x) as (λ b. g x ≡ b → filter f (cond b (x ∷ filter g xs) (filter g xs)) ≡ []) [
      | true ↦ λ e. let here = h x (0, omega arith, refl) e in rw here rest
      | false ↦ λ e. rest
    ]) refl

listed_narrowed : (f : Move → Bool) (ways : ℕ → List Move) (set targets n : ℕ)
    → ((t : ℕ) → t < n → has targets t ≡ true → has set t ≡ false → filter f (ways t) ≡ [])
    → filter f (flat_map ways (members_below (bit_and set targets) n)) ≡ filter f (flat_map ways (members_below targets n))
unfolding members_below
listed_narrowed f ways set targets zero h = refl
listed_narrowed f ways set targets (suc n) h =
    ap (filter f) (flat_map-below_suc ways (bit_and set targets) n)
    ∙ filter-append f (flat_map ways (members_below (bit_and set targets) n)) (cond (has (bit_and set targets) n) (ways n) [])
    ∙ ap (λ (ms : List Move). ms ++ filter f (cond (has (bit_and set targets) n) (ways n) []))
    (listed_narrowed f ways set targets n (λ t l. h t (omega arith)))
    ∙ ap (λ (ms : List Move). filter f (flat_map ways (members_below targets n)) ++ ms) last
    ∙ sym (ap (filter f) (flat_map-below_suc ways targets n)
    ∙ filter-append f (flat_map ways (members_below targets n)) (cond (has targets n) (ways n) []))
  where
    cases : (s t : Bool) → (t ≡ true → s ≡ false → filter f (ways n) ≡ [])
        → filter f (cond (s && t) (ways n) []) ≡ filter f (cond t (ways n) [])
    cases true t k = refl
    cases false true k = sym (k refl refl)
    cases false false k = refl

    last : filter f (cond (has (bit_and set targets) n) (ways n) []) ≡ filter f (cond (has targets n) (ways n) [])
    last = ap (λ x. filter f (cond x (ways n) [])) (has_and set targets n) ∙ cases (has set n) (has targets n) (h n (omega arith))

module _ (p : Setup) (man : Man) (o set targets : ℕ) (quiet : AreMateSquares set p o) where
  -- Where there are no squares to which a move may mate, none does.
  pub no_mates : set ≡ 0 → mates_of p o ≡ []
  no_mates none = none_listed (λ m. is_mate (after_setup p m)) (is_legal p) (moves_to o 64) (λ m c legal.
      let at = to_in o 64 m c in
      quiet m legal at.0 at.1 (has_none set m.target none))

  -- The moves that mate are among those to these squares.
  pub narrowed_list : AreTargets targets p man o
      → filter (λ m. is_mate (after_setup p m)) (flat_map (ways man o) (members (bit_and set targets))) ≡ mates_of p o
  unfolding members
  narrowed_list are =
      listed_narrowed (λ m. is_mate (after_setup p m)) (ways man o) set targets 64 (λ t l there out.
      let kept : filter (is_legal p) (moves_between o t) ≡ ways man o t = rw there at (are t l) in
      rw (← kept) (none_listed (λ m. is_mate (after_setup p m)) (is_legal p) (moves_between o t) (λ m c legal.
      let at = between_in o t m c in
      quiet m legal at.0 (rw at.1 l) (ap (has set) at.1 ∙ out))))
      ∙ sym (ap (filter (λ m. is_mate (after_setup p m))) (legal_to p man o targets are))

-- those of the lowest man, and those of the others
pub first_mates : (p : Setup) (set o rest : ℕ) → IsSplit set o rest
    → filter (λ m. is_mate (after_setup p m)) (moves_of_men p (members set))
    ≡ mates_of p o ++ filter (λ m. is_mate (after_setup p m)) (moves_of_men p (members rest))
first_mates p set o rest split =
    ap (filter (λ m. is_mate (after_setup p m))) (first_man p set o rest split)
    ∙ filter-append (λ m. is_mate (after_setup p m)) (filter (is_legal p) (moves_to o 64)) (moves_of_men p (members rest))

-- They are the mating moves of the men of the side to move, and of some of them where no other mates.
pub mates_of_men : (p : Setup) (asked own : ℕ) → IsSetOf own (is_of p.side) p.men → AreMatingMen asked p
    → filter (λ m. is_mate (after_setup p m)) (moves_of_men p (members (bit_and asked own))) ≡ mating_moves p
unfolding mating_moves members
mates_of_men p asked own is quiet =
    listed_narrowed (λ m. is_mate (after_setup p m)) (λ o. filter (is_legal p) (moves_to o 64)) asked own 64 (λ o l there out.
    none_listed (λ m. is_mate (after_setup p m)) (is_legal p) (moves_to o 64) (λ m c legal.
    let at = to_in o 64 m c in
    quiet m legal (rw at.0 l) at.1 (ap (has asked) at.0 ∙ out)))
    ∙ ap (filter (λ m. is_mate (after_setup p m))) (sym (legal_of_men p own is))

fewer_kept : (f : Move → Bool) (xs : List Move) → length (filter f xs) ≤ length xs
fewer_kept f [] = omega arith
fewer_kept f (x ∷ xs) = elim (f x) as (λ b. length (cond b (x ∷ filter f xs) (filter f xs)) ≤ length (x ∷ xs)) [
  | true ↦ omega (arith, fewer_kept f xs)
  | false ↦ omega (arith, fewer_kept f xs)
]

-- There are no more than the list has room for.
pub few_mates : (p : Setup) → IsSound p → length (mating_moves p) ≤ 1024
unfolding mating_moves
few_mates p sound = omega (arith, fewer_kept (λ m. is_mate (after_setup p m)) (legal_moves p), few_legal p sound)

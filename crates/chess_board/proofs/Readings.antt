-- The tests of attack in the words of the Laws.
use Rattle.std.proofs.Common.{◌≡◌, ℕ, zero, suc, ◌<◌, Bool, true, false, not, ◌||◌, List, Option, Some, None, refl, sym, ap, arith, inl, inr}
use Rattle.std.proofs.lemmas.Bool.{or_cases, and_parts, and_from}
use Rattle.chess_board.specs.declared.men.Colour.{Colour}
use Rattle.chess_board.specs.declared.men.Kind.{Kind}
use Rattle.chess_board.specs.declared.men.Man.{Man}
use Rattle.chess_board.specs.Squares.{any_below}
use Rattle.chess_board.specs.Positions.{man_at, is_empty}
use Rattle.chess_board.specs.Men.{man_of, is_colour}
use Rattle.chess_board.specs.Attacks.{is_between, attacks_as, attacks_from, man_attacks}
use Rattle.chess_board.specs.Laws.{AttackedReads, ClearReads}
use Rattle.chess_board.proofs.Below.{any_at, all_yes, all_from}
use Rattle.chess_board.proofs.Colours.{colour_same, is_colour_same}
use Rattle.chess_board.proofs.Walk.{empty_reads}

any_some : (p : ℕ → Bool) (n : ℕ) → any_below n p ≡ true → (k : ℕ) × (k < n) × (p k ≡ true)
unfolding any_below
any_some p zero h = cc
any_some p (suc n) h = elim (or_cases (any_below n p) (p n) h) [
  | inl e ↦ let r = any_some p n e in (r.0, (let x = r.1 in omega arith), r.2)
  | inr e ↦ (n, omega arith, e)
]

seen : (men : List (Option Man)) (place : Option Man) (colour : Colour) (a b : ℕ) → man_attacks men place colour a b ≡ true →
    (kind : Kind) × (place ≡ man_of colour kind) × (attacks_as men colour kind a b ≡ true)
seen men None colour a b h = cc
seen men (Some man) colour a b h =
    let q = and_parts (is_colour colour man.colour) (attacks_as men man.colour man.kind a b) h in
    let same = colour_same colour man.colour q.0 in
    (man.kind, ap (λ (c : Colour). man_of c man.kind) (sym same), rw same q.1)

pub attacked_reads : AttackedReads
attacked_reads men b colour = (
  (λ h. let r = any_some (λ a. attacks_from men colour a b) 64 h in let s = seen men (man_at men r.0) colour r.0 b r.2 in (r.0, r.1, s.0, s.1, s.2)),
  (λ w. any_at (λ a. attacks_from men colour a b) 64 w.0 w.1
      (rw w.3 (and_from (is_colour colour colour) (attacks_as men colour w.2 w.0 b) (is_colour_same colour) w.4))),
)

pub clear_reads : ClearReads
clear_reads men a b = (
  (λ h s on between. let x = all_yes (λ y. not (is_between a b y) || is_empty men y) 64 s h on in empty_reads men s (rw between at x)),
  (λ h. all_from (λ y. not (is_between a b y) || is_empty men y) 64 (λ s on.
      (elim (is_between a b s) as (λ t. is_between a b s ≡ t → (not t || is_empty men s) ≡ true) [
        | true ↦ λ e. let none = h s on e in rw none refl
        | false ↦ λ e. refl
      ]) refl)),
)

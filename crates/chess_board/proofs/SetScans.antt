-- Loops over the squares of a set of men that look for one which passes a test.
use Rattle.std.proofs.Common.{◌≡◌, ℕ, ◌<◌, Bool, true, false, not, ◌&&◌, eqb, List, Option, refl, sym, ap, ◌∙◌}
use Rattle.std.proofs.lemmas.Bool.{eqb-true, and_parts, and_from}
use Rattle.std.proofs.lemmas.Nat.Bits.{bit_at-zero}
use Rattle.square_sets.specs.Members.{has}
use Rattle.square_sets.specs.BitScan.{IsSplit}
use Rattle.chess_board.specs.declared.men.Man.{Man}
use Rattle.chess_board.specs.Positions.{man_at}
use Rattle.chess_board.specs.Sets.{IsSetOf}
use Rattle.chess_board.specs.Squares.{some_square}
use Rattle.chess_board.proofs.Below.{any_at, any_fails}

-- Such men stand on the squares that are left, and on no other square does one pass.
pub record IsScan (left : ℕ) (such : Option Man → Bool) (men : List (Option Man)) (passes : ℕ → Bool) : Type 0 where
  pub there : (s : ℕ) → s < 64 → has left s ≡ true → such (man_at men s) ≡ true
  pub only : (s : ℕ) → s < 64 → has left s ≡ false → (such (man_at men s) && passes s) ≡ false

module _ (such : Option Man → Bool) (men : List (Option Man)) (passes : ℕ → Bool) where
  pub scan_all : (set : ℕ) → IsSetOf set such men → IsScan set such men passes
  scan_all set is = record {
    there = λ s l e. sym (is s l) ∙ e;
    only = λ s l e. ap (λ b. b && passes s) (sym (is s l) ∙ e);
  }

  and_fails : (a b : Bool) → b ≡ false → (a && b) ≡ false
  and_fails true b h = h
  and_fails false b h = refl

  pub scan_rest : (left square rest : ℕ) → IsSplit left square rest → IsScan left such men passes → passes square ≡ false
      → IsScan rest such men passes
  scan_rest left square rest split scan fails = record {
    there = λ s l e. scan.there s l ((and_parts (not (eqb s square)) (has left s) (sym (split.others s l) ∙ e)).1);
    only = λ s l out.
        (elim (eqb s square) as (λ b. eqb s square ≡ b → (such (man_at men s) && passes s) ≡ false) [
          | true ↦ λ e. let same = eqb-true s square e in rw same (and_fails (such (man_at men square)) (passes square) fails)
          | false ↦ λ e. scan.only s l (rw e at (sym (split.others s l) ∙ out))
        ]) refl;
  }

  pub scan_found : (left square rest : ℕ) → IsSplit left square rest → IsScan left such men passes → passes square ≡ true
      → some_square (λ s. such (man_at men s) && passes s) ≡ true
  scan_found left square rest split scan here =
      let first = split.lowest in
      any_at (λ s. such (man_at men s) && passes s) 64 square first.on_board
      (and_from (such (man_at men square)) (passes square) (scan.there square first.on_board first.there) here)

  pub scan_none : (left : ℕ) → left ≡ 0 → IsScan left such men passes → some_square (λ s. such (man_at men s) && passes s) ≡ false
  scan_none left done scan =
      any_fails (λ s. such (man_at men s) && passes s) 64 (λ s l. scan.only s l (let none = bit_at-zero s in rw (done, none)))

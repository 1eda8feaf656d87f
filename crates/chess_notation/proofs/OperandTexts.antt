-- Operands that are spelled fit, and are squeezed to their texts with one space before each.
use Rattle.std.proofs.Common.{◌≡◌, ℕ, zero, suc, ◌+◌, ◌<◌, ◌≤◌, ◌==◌, nat_le, List, [], ◌∷◌, ◌++◌}
use Rattle.std.proofs.Common.{true, false, length, refl, ap, sym, ◌∙◌, arith, replicate}
use Rattle.std.proofs.lemmas.Bool.Decides.{nat_tests}
use Rattle.std.proofs.lemmas.List.{append-nil}
use Rattle.chess_notation.specs.declared.quoting.Mode.{Mode}
use Rattle.chess_notation.specs.declared.quoting.Mode.TheVariants.{Gap, Plain, Quoted, Closed}
use Rattle.chess_notation.specs.Quoting.{fits_from, squeezed_from}
use Rattle.chess_notation.specs.Operations.{Operand, operand_text, AreWordBytes, HaveNoQuote, IsOperand, SpellsOperands, operands_text}
use Rattle.chess_notation.specs.Operations.Operand.{Word, Text}
use Rattle.chess_notation.proofs.WordSplits.{not_byte}

-- The text is read on to what follows it.
pub record ReadsOn (mode : Mode) (text : List ℕ) (after : Mode) (shown : List ℕ) : Type 0 where
  pub fits : (rest : List ℕ) → fits_from mode (text ++ rest) ≡ fits_from after rest
  pub squeezed : (rest : List ℕ) → squeezed_from mode (text ++ rest) ≡ shown ++ squeezed_from after rest

pub on_spaces : (n : ℕ) → ReadsOn Gap (replicate n 32) Gap []
on_spaces zero = record { fits = λ rest. refl; squeezed = λ rest. refl }
on_spaces (suc n) = record { fits = λ rest. (on_spaces n).fits rest; squeezed = λ rest. (on_spaces n).squeezed rest }

pub on_word : (word : List ℕ) → AreWordBytes word → ReadsOn Plain word Plain word
on_word [] bytes = record { fits = λ rest. refl; squeezed = λ rest. refl }
on_word (b ∷ bs) bytes =
    let no_space : (b == 32) ≡ false = not_byte b 32 bytes.0 in
    let no_mark : (b == 34) ≡ false = not_byte b 34 bytes.1 in
    record {
      fits = λ rest. rw (no_mark, no_space) ((on_word bs bytes.3).fits rest);
      squeezed = λ rest. rw no_space (ap (λ t. b ∷ t) ((on_word bs bytes.3).squeezed rest));
    }

any_count : (n : ℕ) (bs : List ℕ) → squeezed_from (Quoted n) bs ≡ squeezed_from (Quoted 0) bs
any_count n [] = refl
any_count n (b ∷ bs) = refl

on_string : (n : ℕ) (text : List ℕ) → n + length text ≤ 255 → HaveNoQuote text → ReadsOn (Quoted n) (text ++ 34 ∷ []) Closed (text ++ 34 ∷ [])
on_string n [] short bytes = record { fits = λ rest. refl; squeezed = λ rest. refl }
on_string n (b ∷ bs) short bytes =
    let no_mark : (b == 34) ≡ false = not_byte b 34 bytes.0 in
    let small : n < 255 = omega arith in
    let room : nat_le 255 n ≡ false = grind (arith, nat_tests) in
    let again : ReadsOn (Quoted (n + 1)) (bs ++ 34 ∷ []) Closed (bs ++ 34 ∷ []) = on_string (n + 1) bs (omega arith) bytes.1 in
    record {
      fits = λ rest. rw (no_mark, room) (again.fits rest);
      squeezed = λ rest. rw no_mark (ap (λ t. b ∷ t) (sym (any_count (n + 1) ((bs ++ 34 ∷ []) ++ rest)) ∙ again.squeezed rest));
    }

-- Behind an operand comes the end or a space.
pub record IsDone (text squeezed : List ℕ) : Type 0 where
  pub plain : fits_from Plain text ≡ true
  pub closed : fits_from Closed text ≡ true
  pub plain_squeezed : squeezed_from Plain text ≡ squeezed
  pub closed_squeezed : squeezed_from Closed text ≡ squeezed

on_operand : (operand : Operand) (rest squeezed : List ℕ) → IsOperand operand → IsDone rest squeezed
    → (fits_from Gap (operand_text operand ++ rest) ≡ true)
    × (squeezed_from Gap (operand_text operand ++ rest) ≡ 32 ∷ (operand_text operand ++ squeezed))
on_operand (Word []) rest squeezed is done = absurd (is.0 refl)
on_operand (Word (b ∷ bs)) rest squeezed is done =
    let no_space : (b == 32) ≡ false = not_byte b 32 is.1.0 in
    let no_mark : (b == 34) ≡ false = not_byte b 34 is.1.1 in
    let on = on_word bs is.1.3 in (
      rw (no_mark, no_space) (on.fits rest ∙ done.plain),
      rw (no_mark, no_space) (ap (λ t. 32 ∷ b ∷ t) (on.squeezed rest ∙ ap (λ t. bs ++ t) done.plain_squeezed)),
    )
on_operand (Text text) rest squeezed is done =
    let on = on_string 0 text (omega (arith, is.0)) is.1 in
    (on.fits rest ∙ done.closed, ap (λ t. 32 ∷ 34 ∷ t) (on.squeezed rest ∙ ap (λ t. (text ++ 34 ∷ []) ++ t) done.closed_squeezed))

pub spelled_done : (operands : List Operand) (text : List ℕ) → SpellsOperands text operands → IsDone text (operands_text operands)
spelled_done [] text h = done_spaces text h.0 h.1 where
  done_spaces : (text : List ℕ) (n : ℕ) → text ≡ replicate n 32 → IsDone text []
  done_spaces text zero e = rw e (record { plain = refl; closed = refl; plain_squeezed = refl; closed_squeezed = refl })
  done_spaces text (suc n) e =
      let on = on_spaces n in
      let nothing : replicate n 32 ++ [] ≡ replicate n 32 = append-nil (replicate n 32) in
      let fits : fits_from Gap (replicate n 32) ≡ true = sym (ap (fits_from Gap) nothing) ∙ on.fits [] in
      let squeezed : squeezed_from Gap (replicate n 32) ≡ [] = sym (ap (squeezed_from Gap) nothing) ∙ on.squeezed [] in
      rw e (record { plain = fits; closed = fits; plain_squeezed = squeezed; closed_squeezed = squeezed })
spelled_done (operand ∷ operands) text h =
    let done = spelled_done operands h.1 h.4 in
    let there = on_operand operand h.1 (operands_text operands) h.3 done in
    let on = on_spaces h.0 in
    let fits : fits_from Gap (replicate h.0 32 ++ (operand_text operand ++ h.1)) ≡ true = on.fits (operand_text operand ++ h.1) ∙ there.0 in
    let squeezed : squeezed_from Gap (replicate h.0 32 ++ (operand_text operand ++ h.1)) ≡ operands_text (operand ∷ operands) =
    on.squeezed (operand_text operand ++ h.1) ∙ there.1 in
    rw h.2 (record { plain = fits; closed = fits; plain_squeezed = squeezed; closed_squeezed = squeezed })

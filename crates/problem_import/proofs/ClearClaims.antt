-- Lines by what they claim.
use Rattle.std.proofs.Common.{◌≡◌, ◌==◌, ◌∙◌, ℕ, suc, suc-ne-zero, eqb-true, List, [], ◌∷◌, length, true, false, not, Some, None, ap, refl, sym, subst}
use Rattle.std.specs.Prelude.{is_some}
use Rattle.chess_board.specs.Positions.{Setup}
use Rattle.chess_notation.specs.Claims.{claim_words, claims_fault, claims_text}
use Rattle.chess_notation.specs.Records.{RecordValue, Reads}
use Rattle.chess_notation.specs.Words.{words_in}
use Rattle.chess_notation.specs.declared.claims.ClaimFault.{ClaimFault}
use Rattle.problem_import.specs.Imports.{IsClean}
use Rattle.problem_import.specs.Mendable.{has_clear_claims}

nothing_claimed : (p : Setup) → claims_fault p (words_in []) ≡ None
unfolding words_in
nothing_claimed p = refl

pub clear : (p : Setup) (line words : List ℕ) → words ≡ claims_text line → claims_fault p (words_in words) ≡ None
    → true ≡ has_clear_claims p line
unfolding has_clear_claims claim_words
clear p line words is none = sym (ap (λ f. not (is_some f)) (ap (λ w. claims_fault p (words_in w)) (sym is) ∙ none))

pub no_claims : (p : Setup) (line words : List ℕ) → words ≡ claims_text line → (length words == 0) ≡ true → true ≡ has_clear_claims p line
no_claims p line [] is none = clear p line [] is (nothing_claimed p)
no_claims p line (b ∷ bs) is none = absurd (suc-ne-zero (length bs) (eqb-true (suc (length bs)) 0 none))

pub unclear : (p : Setup) (line words : List ℕ) (fault : ClaimFault) → words ≡ claims_text line
    → claims_fault p (words_in words) ≡ Some fault → false ≡ has_clear_claims p line
unfolding has_clear_claims claim_words
unclear p line words fault is some = sym (ap (λ f. not (is_some f)) (ap (λ w. claims_fault p (words_in w)) (sym is) ∙ some))

-- A line is not clean whose record claims what names no move.
pub unclear_line : (p : Setup) (line : List ℕ) → ((r : RecordValue) → Reads line 3 r → r.position ≡ p) → false ≡ has_clear_claims p line
    → IsClean line → ⊥
unclear_line p line only off (nothing, some) =
    let on : has_clear_claims p line ≡ true = subst (λ q. has_clear_claims q line ≡ true) (only some.0 some.1) some.2 in
    let no : false ≡ true = off ∙ on in cc

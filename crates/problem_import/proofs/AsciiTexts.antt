-- What stands for a line in ASCII.
use Rattle.std.proofs.Common.{◌≡◌, ℕ, List, [], ◌∷◌, ◌++◌, length, ◌==◌, Bool, true, false, ◌||◌, if◌then◌else◌, Option, Some, None, refl, ap, sym, ◌∙◌}
use Rattle.std.specs.List.{list_all}
use Rattle.std.proofs.lemmas.Bool.{and_parts}
use Rattle.std.proofs.lemmas.List.{append-nil}
use Rattle.chess_notation.specs.Operations.{is_printable}
use Rattle.problem_import.specs.Imports.{IsRecord}
use Rattle.problem_import.specs.Letters.{IsAscii, IsTextOf, is_plain_byte, plain_before, plain_byte, plain_front, trimmed}
use Rattle.problem_import.proofs.FieldTexts.{some_of}

chosen : (p : Bool) (x y : Option ℕ) → p ≡ true → (if p then x else y) ≡ x
chosen true x y is = refl
chosen false x y is = let no : false ≡ true = is in cc

itself : (b : ℕ) → is_printable b ≡ true → plain_byte b ≡ Some b
itself b is = chosen (is_printable b) (Some b) (if (b == 9) || (b == 13) then Some 32 else None) is

printable_front : (line : List ℕ) → list_all is_printable line ≡ true → plain_front line ≡ line
printable_front [] is = refl
printable_front (b ∷ bs) is =
    let parts = and_parts (is_printable b) (list_all is_printable bs) is in
    ap (λ p. plain_before p (plain_front bs)) (itself b parts.0) ∙ ap (λ t. b ∷ t) (printable_front bs parts.1)

pub printable_ascii : (line text : List ℕ) → list_all is_printable line ≡ true → text ≡ line → IsAscii line text
unfolding IsAscii
printable_ascii line text are is = ([], is ∙ sym (printable_front line are) ∙ sym (append-nil (plain_front line)), λ _. refl)

pub front_ascii : (line none text : List ℕ) → none ≡ [] → text ≡ none ++ plain_front line → IsAscii line text
unfolding IsAscii
front_ascii line none text empty is = ([], is ∙ ap (λ t. t ++ plain_front line) empty ∙ sym (append-nil (plain_front line)), λ _. refl)

pub behind_front : (line none front more text back : List ℕ) → none ≡ [] → front ≡ none ++ plain_front line → text ≡ front ++ more
    → (list_all is_plain_byte line ≡ true → back ≡ []) → (length back == 0) ≡ false → IsAscii line text
unfolding IsAscii
behind_front line none front more text back empty first is whole some =
    (more, is ∙ ap (λ t. t ++ more) (first ∙ ap (λ t. t ++ plain_front line) empty), λ all. absurd (some_of back some (whole all)))

-- ---- what a line says

pub says_trimmed : (line ascii text : List ℕ) → IsAscii line ascii → text ≡ trimmed ascii → IsTextOf line text
unfolding IsTextOf
says_trimmed line ascii text is same = (ascii, is, same)

pub record_says : (line text : List ℕ) → IsRecord line → text ≡ trimmed line → IsTextOf line text
record_says line text (r, reads) same = says_trimmed line line text (printable_ascii line line reads.printable refl) same

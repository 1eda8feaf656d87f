-- What operations say, one behind the other.
use Rattle.std.proofs.Common.{◌≡◌, ℕ, List, [], ◌∷◌, Bool, true, false, None, Some, if◌then◌else◌, refl, ap, sym, ◌∙◌}
use Rattle.std.specs.Prelude.{codes}
use Rattle.std.specs.Str.{bytes_eq}
use Rattle.chess_notation.specs.RecordFields.{behind_fields}
use Rattle.chess_notation.specs.Words.{behind, word_at}
use Rattle.stipulations.specs.Parts.{parts_of as parts_of_text}
use Rattle.stipulations.specs.Stipulations.{asked, asked_by_name, both}
use Rattle.stipulations.specs.declared.asked.Asked.{Asked}
use Rattle.stipulations.specs.declared.asked.Asked.TheVariants.{Nothing, Moves, Two, Unknown}
use Rattle.problem_import.specs.Numbers.{asked_by, asked_by_id, asked_by_sign, asked_together, behind_number, bound_among, bound_of_word}
use Rattle.problem_import.specs.Numbers.{parts_of, said, said_by}
use Rattle.problem_import.proofs.TextParts.{behind_part}

both_nothing : (a : Asked) → both a Nothing ≡ a
both_nothing Nothing = refl
both_nothing (Moves n) = refl
both_nothing Two = refl
both_nothing Unknown = refl

together_nothing : (by : List ℕ → Asked) → by [] ≡ Nothing → (a : Asked) → asked_together by a ([] ∷ []) ≡ a
together_nothing by none a = ap (both a) none ∙ both_nothing a

pub asked_next : (by : List ℕ → Asked) → by [] ≡ Nothing → (sign : ℕ) (text part rest : List ℕ) (ended : Bool) (a next : Asked)
    → parts_of sign text ≡ part ∷ (if ended then parts_of sign rest else []) → (ended ≡ false → rest ≡ []) → next ≡ both a (by part)
    → asked_together by next (parts_of sign rest) ≡ asked_together by a (parts_of sign text)
asked_next by none sign text part rest ended a next cut last is =
    rw is (sym (behind_part (asked_together by (both a (by part))) (together_nothing by none (both a (by part))) sign rest ended last)
    ∙ ap (asked_together by a) (sym cut))

pub asked_done : (by : List ℕ → Asked) → by [] ≡ Nothing → (sign : ℕ) (text : List ℕ) (a : Asked) → parts_of sign text ≡ [] ∷ []
    → a ≡ asked_together by a (parts_of sign text)
asked_done by none sign text a is = sym (ap (asked_together by a) is ∙ together_nothing by none a)

pub no_sign : asked_by_sign [] ≡ Nothing
no_sign = refl

pub nothing_asked : asked_by [] ≡ Nothing
unfolding word_at behind asked parts_of_text
nothing_asked = refl

pub nothing_by_id : asked_by_id [] ≡ Nothing
unfolding word_at behind asked_by_name parts_of_text
nothing_by_id = refl

no_bound : bound_among ([] ∷ []) ≡ bound_among []
unfolding word_at behind
no_bound = refl

bound_other : (part : List ℕ) (parts : List (List ℕ)) → bytes_eq (word_at part) (codes "dm") ≡ false
    → bound_among (part ∷ parts) ≡ bound_among parts
bound_other part parts test = rw test refl

pub bound_next : (sign : ℕ) (text part rest : List ℕ) (ended : Bool) → parts_of sign text ≡ part ∷ (if ended then parts_of sign rest else [])
    → (ended ≡ false → rest ≡ []) → bytes_eq (word_at part) (codes "dm") ≡ false
    → bound_among (parts_of sign rest) ≡ bound_among (parts_of sign text)
bound_next sign text part rest ended cut last test =
    sym (behind_part bound_among no_bound sign rest ended last)
    ∙ sym (bound_other part (if ended then parts_of sign rest else []) test) ∙ ap bound_among (sym cut)

pub bound_here : (sign : ℕ) (text part : List ℕ) (parts : List (List ℕ)) (n : ℕ) → parts_of sign text ≡ part ∷ parts
    → bytes_eq (word_at part) (codes "dm") ≡ true → n ≡ bound_of_word (word_at (behind part)) → Some n ≡ bound_among (parts_of sign text)
bound_here sign text part parts n cut test is =
    let here : bound_among (part ∷ parts) ≡ Some (bound_of_word (word_at (behind part))) = rw test refl in
    ap (λ m. Some m) is ∙ sym here ∙ ap bound_among (sym cut)

pub bound_done : (sign : ℕ) (text : List ℕ) → parts_of sign text ≡ [] ∷ [] → None ≡ bound_among (parts_of sign text)
bound_done sign text is = sym (ap bound_among is ∙ no_bound)

pub said_of : (line rest operations : List ℕ) (asks : Asked) → asks ≡ said_by (parts_of 59 operations)
    → operations ≡ behind_number (behind_number rest) → rest ≡ behind_fields line → asks ≡ said line
unfolding said
said_of line rest operations asks is counters fields =
    is ∙ ap (λ t. said_by (parts_of 59 t)) (counters ∙ ap (λ t. behind_number (behind_number t)) fields)

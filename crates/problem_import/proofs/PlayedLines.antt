-- Operands of which one is numbered as a later move, part by part.
use Rattle.std.proofs.Common.{◌≡◌, ℕ, List, [], ◌∷◌, Bool, true, false, if◌then◌else◌, refl, ap, sym, ◌∙◌}
use Rattle.std.specs.List.{list_any}
use Rattle.problem_import.specs.Numbers.{parts_of}
use Rattle.problem_import.specs.Solutions.{is_later, is_play}
use Rattle.problem_import.proofs.TextParts.{behind_part}

none_later : list_any is_later ([] ∷ []) ≡ list_any is_later []
unfolding is_later
none_later = refl

later_other : (part : List ℕ) (parts : List (List ℕ)) → is_later part ≡ false → list_any is_later (part ∷ parts) ≡ list_any is_later parts
later_other part parts test = rw test refl

later_here : (part : List ℕ) (parts : List (List ℕ)) → is_later part ≡ true → list_any is_later (part ∷ parts) ≡ true
later_here part parts test = rw test refl

pub play_next : (text part rest : List ℕ) (ended : Bool) → parts_of 32 text ≡ part ∷ (if ended then parts_of 32 rest else [])
    → (ended ≡ false → rest ≡ []) → is_later part ≡ false → is_play rest ≡ is_play text
play_next text part rest ended cut last test =
    sym (behind_part (list_any is_later) none_later 32 rest ended last)
    ∙ sym (later_other part (if ended then parts_of 32 rest else []) test) ∙ ap (list_any is_later) (sym cut)

pub play_here : (text part : List ℕ) (parts : List (List ℕ)) → parts_of 32 text ≡ part ∷ parts → is_later part ≡ true → true ≡ is_play text
play_here text part parts cut test = sym (later_here part parts test) ∙ ap (list_any is_later) (sym cut)

pub play_done : (text : List ℕ) → parts_of 32 text ≡ [] ∷ [] → false ≡ is_play text
play_done text is = sym (ap (list_any is_later) is ∙ none_later)

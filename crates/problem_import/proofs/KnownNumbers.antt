-- How many moves a record is to ask that was found, and does.
use Rattle.std.proofs.Common.{◌≡◌, inl, inr, ℕ, List, Option, None, Some, refl, sym, subst, ◌∙◌}
use Rattle.std.specs.Prelude.{IfSome}
use Rattle.problem_import.specs.Imports.{HasNumberOf, IsNumber}
use Rattle.problem_import.specs.Letters.{IsTextOf}
use Rattle.problem_import.specs.Numbers.{said}
use Rattle.problem_import.specs.declared.changes.Form.{Form}
use Rattle.problem_import.specs.declared.changes.Form.TheVariants.{Line, Game, Popeye}
use Rattle.problem_import.specs.declared.findings.Number.{Number}
use Rattle.problem_import.specs.declared.findings.Number.TheVariants.{Said, Own, Unsaid}
use Rattle.problem_import.specs.inside.Findings.{Asks, IsAsked, IsAskedOf, IsNumberOf}
use Rattle.stipulations.specs.declared.asked.Asked.{Asked}

pub asked_of_line : (form : Form) (whole line : List ℕ) (asks : Asked) (number : Number) → IsTextOf whole line → asks ≡ said line
    → IsAsked whole asks number → IsAskedOf form whole number
unfolding IsAskedOf
asked_of_line form whole line asks number says is fits = λ _. (line, says, subst (λ a. IsAsked whole a number) is fits)

pub asked_of_game : (form : Form) (line : List ℕ) (number : Number) → form ≡ Game → IsAskedOf form line number
unfolding IsAskedOf
asked_of_game form line number is = λ other. let no : Game ≡ Line = sym is ∙ other in cc

pub asked_of_popeye : (form : Form) (line : List ℕ) (number : Number) → form ≡ Popeye → IsAskedOf form line number
unfolding IsAskedOf
asked_of_popeye form line number is = λ other. let no : Popeye ≡ Line = sym is ∙ other in cc

pub asked_moved : (before form : Form) (line : List ℕ) (number : Number) → form ≡ before → IsAskedOf before line number
    → IsAskedOf form line number
asked_moved before form line number is = subst (λ f. IsAskedOf f line number) (sym is)

-- ---- a number that is known

pub number_said : (form : Form) (given : Option ℕ) (line : List ℕ) (n : ℕ) → IsAskedOf form line (Said n) → IsNumberOf form given line (Some n)
unfolding IsAskedOf IsNumberOf
number_said form given line n asks is =
    let (text, says, same) = asks is in
    (text, says, n, refl, subst (λ a. IsNumber given line a n) (sym same) refl)

pub number_own : (form : Form) (given : Option ℕ) (line : List ℕ) → IsAskedOf form line Own → IsNumberOf form given line (Some 3)
unfolding IsAskedOf IsNumberOf
number_own form given line asks is =
    let (text, says, fits) = asks is in
    (text, says, 3, refl, subst (λ a. IsNumber given line a 3) (sym fits.0) (inl (fits.1, refl)))

pub number_given : (before form : Form) (given : Option ℕ) (line : List ℕ) (n : ℕ) (moves : Option ℕ) → form ≡ before → given ≡ Some n
    → moves ≡ Some n → IsAskedOf before line Unsaid → IsNumberOf form given line moves
unfolding IsAskedOf IsNumberOf
number_given before form given line n moves same is known asks of_line =
    let (text, says, fits) = asks (sym same ∙ of_line) in
    (text, says, n, known, subst (λ a. IsNumber given line a n) (sym fits.0) (inr (fits.1, is)))

-- ---- a record that asks it

pub own_number : (form : Form) (given : Option ℕ) (line made : List ℕ) (moves : Option ℕ) → form ≡ Line → IsNumberOf form given line moves
    → Asks moves made → HasNumberOf given line made
unfolding IsNumberOf
own_number form given line made moves is number asks =
    let (text, says, n, known, fits) = number is in
    let so : Asks (Some n) made = subst (λ m. Asks m made) known asks in
    (text, says, λ r reads. subst (λ k. IsNumber given line (said text) k) (sym (so r reads)) fits)

pub asks_known : (moves : Option ℕ) (made : List ℕ) (bound : ℕ) → IfSome moves (λ n. bound ≡ n) → Asks (Some bound) made → Asks moves made
asks_known None made bound same known = tt
asks_known (Some n) made bound same known = λ r reads. known r reads ∙ same

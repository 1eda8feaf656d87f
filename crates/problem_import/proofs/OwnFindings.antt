-- What is found of a line, one finding after the other.
use Rattle.std.proofs.Common.{◌≡◌, ℕ, ◌<◌, List, [], ◌∷◌, ◌++◌, length, get_or, ap, sym, subst, ◌∙◌}
use Rattle.std.proofs.lemmas.List.Elements.{All-get_or, All-nil, All-push}
use Rattle.chess_notation.specs.RecordFields.{line_fields}
use Rattle.problem_import.specs.Letters.{IsTextOf}
use Rattle.problem_import.specs.declared.changes.Form.{Form}
use Rattle.problem_import.specs.declared.changes.Form.TheVariants.{Line, Game, Popeye}
use Rattle.problem_import.specs.declared.findings.Finding.{Finding}
use Rattle.problem_import.specs.inside.Findings.{AreFoundOf, IsFoundOf, IsOwn}

pub none_found : (line : List ℕ) (findings : List Finding) → findings ≡ [] → AreFoundOf line findings
unfolding AreFoundOf
none_found line findings is = rw is (All-nil (λ (f : Finding). IsFoundOf line f.found))

pub one_found : (line : List ℕ) (old new : List Finding) (finding : Finding) → new ≡ old ++ finding ∷ [] → AreFoundOf line old
    → IsFoundOf line finding.found → AreFoundOf line new
unfolding AreFoundOf
one_found line old new finding is before one = rw is (All-push (λ (f : Finding). IsFoundOf line f.found) old finding before one)

pub found_at : (line : List ℕ) (findings : List Finding) (i : ℕ) (finding : Finding) → i < length findings → finding ≡ get_or findings i finding
    → AreFoundOf line findings → IsFoundOf line finding.found
unfolding AreFoundOf
found_at line findings i finding within is all =
    let P : Finding → Type 0 = λ f. IsFoundOf line f.found in
    subst P (sym is) (All-get_or P findings i finding within all)

-- What was made of what a line says is of it, and what was made of something else isn't said to be.
pub own_of_line : (form : Form) (whole line made : List ℕ) → IsTextOf whole line → line_fields made ≡ line_fields line → IsOwn form whole made
unfolding IsOwn
own_of_line form whole line made says same = λ _. (line, says, same)

pub own_of_game : (form : Form) (line made : List ℕ) → form ≡ Game → IsOwn form line made
unfolding IsOwn
own_of_game form line made is = λ other. let no : Game ≡ Line = sym is ∙ other in cc

pub own_of_popeye : (form : Form) (line made : List ℕ) → form ≡ Popeye → IsOwn form line made
unfolding IsOwn
own_of_popeye form line made is = λ other. let no : Popeye ≡ Line = sym is ∙ other in cc

pub own_moved : (before form : Form) (line text given made whole : List ℕ) → form ≡ before → given ≡ text → line_fields made ≡ line_fields given
    → whole ≡ made → IsOwn before line text → IsOwn form line whole
unfolding IsOwn
own_moved before form line text given made whole is there same here own = λ of_line.
    let (says, one, fields) = own (sym is ∙ of_line) in
    (says, one, ap line_fields here ∙ same ∙ ap line_fields there ∙ fields)

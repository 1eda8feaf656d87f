-- What is made of a line has its position, and its number of moves.
use Rattle.std.proofs.Common.{◌≡◌, ℕ, List, [], ◌∷◌, ◌++◌, Bool, true, false, ◌||◌, Option, refl, ap, sym, subst, ◌∙◌}
use Rattle.chess_board.specs.Fens.{SpellsSetup}
use Rattle.chess_board.specs.Fields.{side_text}
use Rattle.chess_board.specs.Positions.{Setup}
use Rattle.chess_board.specs.declared.men.Colour.{Colour}
use Rattle.chess_board.specs.declared.men.Colour.TheVariants.{White, Black}
use Rattle.chess_notation.specs.Words.{word_at, behind}
use Rattle.chess_notation.specs.RecordFields.{line_fields}
use Rattle.problem_import.specs.Changes.{telling}
use Rattle.problem_import.specs.Imports.{HasPositionOf, IsRecord, KeepsProblem}
use Rattle.problem_import.specs.Letters.{IsAscii, IsTextOf, trimmed}
use Rattle.problem_import.specs.declared.changes.Change.{Change}
use Rattle.problem_import.specs.declared.changes.Changes.{Changes}
use Rattle.problem_import.specs.declared.changes.Form.{Form}
use Rattle.problem_import.specs.declared.changes.Form.TheVariants.{Line, Game, Popeye}
use Rattle.problem_import.specs.inside.FieldTexts.{GoesOn}
use Rattle.problem_import.specs.inside.Findings.{Asks, IsNumberOf, IsOwn}
use Rattle.problem_import.specs.inside.KeptChanges.{has_change, is_game, is_popeye}
use Rattle.problem_import.proofs.FieldTexts.{fields_go_on, reads_position}
use Rattle.problem_import.proofs.KnownNumbers.{own_number}

line_form : (form : Form) → (is_game form || is_popeye form) ≡ false → form ≡ Line
line_form Line is = refl
line_form Game is = let no : true ≡ false = is in cc
line_form Popeye is = let no : true ≡ false = is in cc

own_position : (form : Form) (line made : List ℕ) → form ≡ Line → IsOwn form line made → HasPositionOf line made
unfolding IsOwn
own_position form line made is own =
    let (text, says, same) = own is in
    (text, says, λ r reads. subst (λ f. SpellsSetup f r.position) same (reads_position made r reads))

pub keeps_problem : (c : Changes) (given : Option ℕ) (line made : List ℕ) (moves : Option ℕ) → IsOwn c.form line made
    → IsNumberOf c.form given line moves → Asks moves made → KeepsProblem given line made (has_change c)
keeps_problem c given line made moves own number asks = λ off.
    let is : c.form ≡ Line = line_form c.form off in
    (own_position c.form line made is own, own_number c.form given line made moves is number asks)

-- What stands apart behind a record leaves its position.
pub own_on : (form : Form) (line made more : List ℕ) → IsRecord made → GoesOn made more → IsOwn form line made → IsOwn form line more
unfolding IsOwn
own_on form line made more one on own = λ is.
    let (text, says, same) = own is in
    (text, says, fields_go_on made more one on ∙ same)

pub own_bounded : (before form : Form) (line text bounded made : List ℕ) → form ≡ before → IsRecord text → GoesOn text bounded → made ≡ bounded
    → IsOwn before line text → IsOwn form line made
own_bounded before form line text bounded made is one on same own =
    subst (λ m. IsOwn form line m) (sym same) (subst (λ f. IsOwn f line bounded) (sym is) (own_on before line text bounded one on own))

pub telling_on : (made : List ℕ) (has : Change → Bool) → GoesOn made (made ++ telling has)
unfolding GoesOn telling
telling_on made has = (telling has, refl, refl)

pub keeps_told : (c : Changes) (given : Option ℕ) (line made : List ℕ) (moves : Option ℕ) → IsRecord made → IsOwn c.form line made
    → IsNumberOf c.form given line moves → Asks moves (made ++ telling (has_change c))
    → KeepsProblem given line (made ++ telling (has_change c)) (has_change c)
keeps_told c given line made moves one own number asks =
    keeps_problem c given line (made ++ telling (has_change c)) moves
    (own_on c.form line made (made ++ telling (has_change c)) one (telling_on made (has_change c)) own) number asks

-- ---- nothing says no position

no_side : (side : Colour) → [] ≡ side_text side → ⊥
no_side White is = let no : [] ≡ 119 ∷ [] = is in cc
no_side Black is = let no : [] ≡ 98 ∷ [] = is in cc

no_fields : (p : Setup) → SpellsSetup (line_fields []) p → ⊥
unfolding line_fields word_at behind
no_fields p spells = no_side p.side spells.side

empty_text : (text : List ℕ) → IsTextOf [] text → text ≡ []
unfolding IsTextOf IsAscii
empty_text text (ascii, (more, is, whole), same) = same ∙ ap trimmed (is ∙ whole refl)

pub no_empty_position : (r : List ℕ) → IsRecord r → HasPositionOf [] r → ⊥
no_empty_position r (value, reads) (text, says, spells) =
    no_fields value.position (subst (λ t. SpellsSetup (line_fields t) value.position) (empty_text text says) (spells value reads))

-- Not for believing: which changes are told, of what is kept of them. No contract of a public call rests on it.
use Rattle.std.specs.Prelude.{Bool, true, false, not, ◌&&◌, ◌||◌}
use Rattle.problem_import.specs.declared.changes.Change.{Change}
use Rattle.problem_import.specs.declared.changes.Change.TheVariants.{Pgn, Popeye, Letters, Tabs, Quotes, Marks, Moves}
use Rattle.problem_import.specs.declared.changes.Change.TheVariants.{Bound, Semicolon, Operation, Cut, Spaces}
use Rattle.problem_import.specs.declared.changes.Changes.{Changes}
use Rattle.problem_import.specs.declared.changes.Form.{Form}
use Rattle.problem_import.specs.declared.changes.Form.TheVariants as forms

abbrev pub is_line : Form → Bool
is_line forms.Line = true
is_line forms.Game = false
is_line forms.Popeye = false

abbrev pub is_game : Form → Bool
is_game forms.Line = false
is_game forms.Game = true
is_game forms.Popeye = false

abbrev pub is_popeye : Form → Bool
is_popeye forms.Line = false
is_popeye forms.Game = false
is_popeye forms.Popeye = true

-- Spaces are told where nothing else is.
abbrev pub is_told : Form → (letters tabs quotes marks moves bound semicolon operation cut : Bool) → Change → Bool
is_told form letters tabs quotes marks moves bound semicolon operation cut Pgn = is_game form
is_told form letters tabs quotes marks moves bound semicolon operation cut Popeye = is_popeye form
is_told form letters tabs quotes marks moves bound semicolon operation cut Letters = letters
is_told form letters tabs quotes marks moves bound semicolon operation cut Tabs = tabs
is_told form letters tabs quotes marks moves bound semicolon operation cut Quotes = quotes
is_told form letters tabs quotes marks moves bound semicolon operation cut Marks = marks
is_told form letters tabs quotes marks moves bound semicolon operation cut Moves = moves
is_told form letters tabs quotes marks moves bound semicolon operation cut Bound = bound
is_told form letters tabs quotes marks moves bound semicolon operation cut Semicolon = semicolon
is_told form letters tabs quotes marks moves bound semicolon operation cut Operation = operation
is_told form letters tabs quotes marks moves bound semicolon operation cut Cut = cut
is_told form letters tabs quotes marks moves bound semicolon operation cut Spaces =
    is_line form && (not (letters || tabs) && (not (quotes || marks) && (not moves && (not (bound || semicolon) && not (operation || cut)))))

abbrev pub has_change : Changes → Change → Bool
has_change c change = is_told c.form c.letters c.tabs c.quotes c.marks c.moves c.bound c.semicolon c.operation c.cut change

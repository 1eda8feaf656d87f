-- What `import --keep` tells of what was changed (own to this project).
use Rattle.std.specs.Prelude.{◌≡◌, ℕ, List, [], ◌∷◌, ◌++◌, codes, Bool, true, false, ◌||◌, if◌then◌else◌}
use Rattle.problem_import.specs.declared.changes.Change.{Change}
use Rattle.problem_import.specs.declared.changes.Change.TheVariants.{Pgn, Popeye, Letters, Tabs, Quotes, Marks, Moves}
use Rattle.problem_import.specs.declared.changes.Change.TheVariants.{Bound, Semicolon, Operation, Cut, Spaces}

abbrev pub change_name : Change → List ℕ
change_name Pgn = codes "PGN"
change_name Popeye = codes "Popeye"
change_name Letters = codes "letters"
change_name Tabs = codes "tabs"
change_name Quotes = codes "quotation marks"
change_name Marks = codes "marks behind moves"
change_name Moves = codes "moves"
change_name Bound = codes "bound"
change_name Semicolon = codes "semicolon"
change_name Operation = codes "empty operation"
change_name Cut = codes "cut"
change_name Spaces = codes "spaces"

-- in the order in which they are told
abbrev pub all_changes : List Change
all_changes = Pgn ∷ Popeye ∷ Letters ∷ Tabs ∷ Quotes ∷ Marks ∷ Moves ∷ Bound ∷ Semicolon ∷ Operation ∷ Cut ∷ Spaces ∷ []

abbrev pub separator : Bool → List ℕ
separator is_first = if is_first then codes ": " else codes ", "

-- The names of those that were made, each behind what stands before it.
abbrev pub listed : (Change → Bool) → Bool → List Change → List ℕ
listed has is_first [] = []
listed has is_first (change ∷ changes) =
    if has change then separator is_first ++ change_name change ++ listed has false changes else listed has is_first changes

-- The operation that tells of these, behind a space: ` c9 "import: PGN, letters";`.
unfoldable pub telling : (Change → Bool) → List ℕ
telling has = codes " c9 \"import" ++ listed has true all_changes ++ codes "\";"

abbrev pub IsAny : (Change → Bool) → Type 0
IsAny has = (change : Change) × (has change ≡ true)

-- Something was changed to make this of the line: it isn't the line as it stands, unless it was made of a game or of a problem for Popeye.
abbrev pub IsChanged : (line made : List ℕ) → (Change → Bool) → Type 0
IsChanged line made has = IsAny has × (made ≡ line → (has Pgn || has Popeye) ≡ true)

-- The row of a line: seven fields, parted by tabs (own to this project).
use Rattle.std.specs.Prelude.{ℕ, ◌==◌, List, [], ◌∷◌, ◌++◌, Option, Some, None, map, filter, drop, codes, decimal, not}
use Rattle.chess_board.specs.Characters.{char}
use Rattle.chess_board.specs.Positions.{Setup}
use Rattle.chess_board.specs.Moves.{Move}
use Rattle.chess_problems.specs.declared.outcomes.Outcome.{Outcome}
use Rattle.chess_problems.specs.declared.outcomes.Outcome.TheVariants.{Mate, NoMate}
use Rattle.chess_notation.specs.SanText.{san_text}
use Rattle.chess_notation.specs.Opcodes.{operands_under}
use Rattle.chess_notation.specs.Answers.{in_order, operand_words}
use Rattle.chess_notation.specs.Records.{RecordValue}
use Rattle.mate_claims.specs.declared.bound_sources.BoundSource.{BoundSource}
use Rattle.mate_claims.specs.declared.bound_sources.BoundSource.TheVariants.{Line, Default}

-- a hyphen in place of nothing
abbrev pub or_hyphen : List ℕ → List ℕ
or_hyphen [] = char "-" ∷ []
or_hyphen (b ∷ bs) = b ∷ bs

-- a field behind its tab
abbrev pub field : List ℕ → List ℕ
field text = char "\t" ∷ or_hyphen text

-- moves as the `bm` of an answer lists them, each behind a space
abbrev pub listed : Setup → List Move → List ℕ
listed p moves = operand_words (in_order (map (san_text p) moves))

abbrev pub length_field : ℕ → List ℕ
length_field n = field (char "#" ∷ decimal n)

-- the number of moves asked for, with a question mark where the line says none
abbrev pub asked_field : BoundSource → ℕ → List ℕ
asked_field Line n = length_field n
asked_field Default n = length_field n ++ char "?" ∷ []

-- the length of the shortest mate
abbrev pub found_field : Outcome → List ℕ
found_field (Mate n keys pv) = length_field n
found_field NoMate = field []

-- the keys; there is none where there is no mate
abbrev pub keys_found : Outcome → List Move
keys_found (Mate n keys pv) = keys.items
keys_found NoMate = []

-- the length and the keys that were found; a question mark where it isn't known whether there is a mate
abbrev pub found_fields : Setup → Option Outcome → List ℕ
found_fields p (Some outcome) = found_field outcome ++ field (drop 1 (listed p (keys_found outcome)))
found_fields p None = field (char "?" ∷ []) ++ field []

-- operands of which each stands behind a space, without the first space and the quotation marks
abbrev pub unquoted : List ℕ → List ℕ
unquoted operands = filter (λ b. not (b == char "\"")) (drop 1 operands)

-- the row of a record: its line's place, a word for what comes of its claims, the length asked for, what was found, where it is known, the
-- claims, each behind a space, the operands of `id`
unfoldable pub row_of : List ℕ → RecordValue → BoundSource → List ℕ → Option Outcome → List ℕ → List ℕ
row_of place r source word outcome claims =
    place ++ field word ++ asked_field source r.bound ++ found_fields r.position outcome ++ field (drop 1 claims) ++ field (unquoted (operands_under (codes "id") r.rest)) ++ char "\n" ∷ []

-- the row of a line that is refused: its place and the fault's name
unfoldable pub refused_row : List ℕ → List ℕ → List ℕ
refused_row place name = place ++ field name ++ field [] ++ field [] ++ field [] ++ field [] ++ field [] ++ char "\n" ∷ []

-- What there may be to mend in a line that is a record (own to this project).
use Rattle.std.specs.Prelude.{ℕ, ◌==◌, List, is_some, Bool, not, ◌&&◌, ◌||◌}
use Rattle.std.specs.List.{list_all}
use Rattle.chess_board.specs.Characters.{char}
use Rattle.chess_board.specs.Positions.{Setup}
use Rattle.chess_notation.specs.Claims.{claim_words, claims_fault}
use Rattle.chess_notation.specs.RecordFields.{behind_fields}
use Rattle.stipulations.specs.Stipulations.{speaks_of_aim}

-- the bytes of what may be mended outside strings: a quotation mark of another kind, a mark behind a move, a number of moves
abbrev pub is_mendable : ℕ → Bool
is_mendable b = (b == char "'") || (b == char "!") || (b == char "?") || (b == char "#")

abbrev pub is_settled : ℕ → Bool
is_settled b = not (is_mendable b)

-- Nothing stands in the line that may be mended, neither one of these bytes nor, behind its fields, what speaks of a mate or of another aim.
abbrev pub has_nothing_to_mend : List ℕ → Bool
has_nothing_to_mend line = list_all is_settled line && not (speaks_of_aim (behind_fields line))

-- What the line claims in `bm` are lengths, and legal moves as SAN names them.
unfoldable pub has_clear_claims : Setup → List ℕ → Bool
has_clear_claims p line = not (is_some (claims_fault p (claim_words line)))

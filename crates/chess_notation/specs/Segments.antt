-- A text cut at each semicolon outside a string. A quotation mark outside a string opens one, and the next one closes it.
use Rattle.std.specs.Prelude.{ℕ, ◌==◌, List, [], ◌∷◌, Bool, false, not, ◌&&◌, if◌then◌else◌}
use Rattle.chess_board.specs.Characters.{char}

-- the segments that a semicolon ends, and what follows the last of them
pub record Segments : Type 0 where
  pub ended : List (List ℕ)
  pub rest : List ℕ

abbrev pub byte_onto : ℕ → List (List ℕ) → List ℕ → Segments
byte_onto b [] rest = record { ended = []; rest = b ∷ rest }
byte_onto b (segment ∷ segments) rest = record { ended = (b ∷ segment) ∷ segments; rest = rest }

-- the byte in front of the first segment
abbrev pub with_byte : ℕ → Segments → Segments
with_byte b cut = byte_onto b cut.ended cut.rest

-- an ended segment in front
abbrev pub with_segment : List ℕ → Segments → Segments
with_segment segment cut = record { ended = segment ∷ cut.ended; rest = cut.rest }

-- whether a string is open behind the byte
abbrev pub inside_after : Bool → ℕ → Bool
inside_after inside b = if b == char "\"" then not inside else inside

-- a semicolon outside a string
abbrev pub ends_segment : Bool → ℕ → Bool
ends_segment inside b = not inside && (b == char ";")

abbrev pub segments_from : Bool → List ℕ → Segments
segments_from inside [] = record { ended = []; rest = [] }
segments_from inside (b ∷ bs) =
    if ends_segment inside b then with_segment [] (segments_from false bs) else with_byte b (segments_from (inside_after inside b) bs)

abbrev pub segments_of : List ℕ → Segments
segments_of text = segments_from false text

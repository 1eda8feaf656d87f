-- Text as it stands in a page (HTML Standard, section 13.1.4): whatever it holds, no byte of it begins or ends markup.
use Rattle.std.specs.Prelude.{ℕ, ◌==◌, List, [], ◌∷◌, codes, if◌then◌else◌}
use Rattle.std.specs.List.{flat_map}
use Rattle.chess_board.specs.Characters.{char}

-- what stands for a byte
abbrev pub escaped_byte : ℕ → List ℕ
escaped_byte b =
    if b == char "&" then codes "&amp;"
    else if b == char "<" then codes "&lt;"
    else if b == char ">" then codes "&gt;"
    else if b == char "\"" then codes "&quot;"
    else if b == char "'" then codes "&#39;"
    else b ∷ []

abbrev pub escaped : List ℕ → List ℕ
escaped text = flat_map escaped_byte text

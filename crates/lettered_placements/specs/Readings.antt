-- What a text says whose placement has the letters of a language (own to this project; a placement is that of the PGN Specification,
-- section 16.1.3.1, with the letters of section 17: capitals are White's men, small letters Black's).
use Rattle.std.specs.Prelude.{ℕ, ◌-◌, ◌==◌, nat_le, List, ◌++◌, count_by, drop, length, map, position, take, Option, Some, None, is_some, Bool, if◌then◌else◌}
use Rattle.std.specs.Char.{is_ascii_lowercase, is_ascii_uppercase, is_ascii_whitespace, to_ascii_lowercase, to_ascii_uppercase}
use Rattle.std.specs.List.{prefix_len}
use Rattle.std.specs.Option.{option_map_or}
use Rattle.chess_board.specs.Characters.{char}
use Rattle.chess_board.specs.Placement.{kind_letter}
use Rattle.chess_board.specs.declared.men.Kind.{Kind}
use Rattle.move_words.specs.declared.languages.Letters.{Letters}
use Rattle.move_words.specs.Languages.{kind_of_letter}

-- the capital that FEN has for a man, and one that it has for none
abbrev pub capital_read : Option Kind → ℕ
capital_read None = char "?"
capital_read (Some kind) = kind_letter kind

-- What stands in FEN for a byte of a placement: its man's letter, where it is one. Where a king has two letters, placements are in English.
abbrev pub letter_read : Letters → ℕ → ℕ
letter_read l b =
    if is_some l.behind_king then b else (if is_ascii_uppercase b then capital_read (kind_of_letter l b)
    else (if is_ascii_lowercase b then to_ascii_lowercase (capital_read (kind_of_letter l (to_ascii_uppercase b))) else b))

-- The word is a placement, as far as can be seen: it has three strokes.
abbrev pub is_placement : List ℕ → Bool
is_placement word = nat_le 3 (count_by (λ b. b == char "/") word)

-- how many bytes the placement has with which a text begins, before white space; 0 where it begins with none
abbrev pub placement_length : List ℕ → ℕ
placement_length text = option_map_or (λ n. if is_placement (take n text) then n else 0) (position is_ascii_whitespace text) 0

-- A text is read by the placement with which it begins.
abbrev pub text_read : Letters → List ℕ → List ℕ
text_read l text = map (letter_read l) (take (placement_length text) text) ++ drop (placement_length text) text

-- a line from its first byte on that is no white space
abbrev pub after_white : List ℕ → List ℕ
after_white line = drop (prefix_len is_ascii_whitespace line) line

-- A line is read behind the white space at its front.
unfoldable pub line_read : Letters → List ℕ → List ℕ
line_read l line = take (length line - length (after_white line)) line ++ text_read l (after_white line)

-- What stands before a position in a list: a running number, a bullet, or that a FEN follows (own to this project).
use Rattle.std.specs.Prelude.{ℕ, ◌==◌, ◌&&◌, ◌||◌, nat_lt, not, List, [], ◌∷◌, codes, length, Bool, false, if◌then◌else◌}
use Rattle.std.specs.Char.{is_ascii_digit}
use Rattle.std.specs.List.{list_all, list_any}
use Rattle.std.specs.Str.{str_eq_ignore_ascii_case}
use Rattle.chess_board.specs.Characters.{char}
use Rattle.chess_notation.specs.Records.{max_line}
use Rattle.chess_notation.specs.Words.{after_spaces, behind, is_empty_text, word_at}
use Rattle.mail_lines.specs.Placements.{begins_position}

-- the marks that stand with a running number
abbrev pub marks : List ℕ
marks = codes "()[]{}.:#*-="

abbrev pub is_of_label : ℕ → Bool
is_of_label b = is_ascii_digit b || list_any (λ mark. b == mark) marks

-- Words that are labels, small and large letters alike: the last is a bullet, U+2022, in UTF-8.
abbrev pub labels : List (List ℕ)
labels = codes "fen" ∷ codes "fen:" ∷ codes "fen=" ∷ (226 ∷ 128 ∷ 162 ∷ []) ∷ []

-- the sign of a remark
abbrev pub is_remark_sign : List ℕ → Bool
is_remark_sign [] = false
is_remark_sign (b ∷ []) = b == char "#"
is_remark_sign (b ∷ c ∷ bs) = false

-- The word is a label: digits and marks, but no remark's sign; or one of these words.
unfoldable pub is_label : List ℕ → Bool
is_label word =
    not (is_empty_text word) && not (is_remark_sign word) && list_all is_of_label word || list_any (λ label. str_eq_ignore_ascii_case word label) labels

-- the text behind a label, where it begins a position: from its first byte that is no space
abbrev pub bared_behind : (line rest : List ℕ) → List ℕ
bared_behind line rest = if begins_position rest then after_spaces rest else line

-- A line without one label or two before its position.
unfoldable pub bared : List ℕ → List ℕ
bared line =
    if nat_lt max_line (length line) || not (is_label (word_at line)) then line
    else (if is_label (word_at (behind line)) then bared_behind line (behind (behind line)) else bared_behind line (behind line))

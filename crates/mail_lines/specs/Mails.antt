-- Lines that a problem takes on, as mails and lists have them: the FEN on one line, what is asked and the key on the next ones, an empty line,
-- and the next problem (own to this project). A line here is without its CR.
use Rattle.std.specs.Prelude.{ℕ, ◌==◌, ◌&&◌, ◌||◌, nat_lt, nat_le, not, List, [], ◌∷◌, ◌++◌, codes, length, map, take, Bool, true, false, if◌then◌else◌}
use Rattle.std.specs.Char.{is_ascii_digit, is_ascii_whitespace}
use Rattle.std.specs.List.{list_all, list_any, slice_split}
use Rattle.std.specs.Str.{str_eq_ignore_ascii_case}
use Rattle.chess_board.specs.Characters.{char}
use Rattle.chess_notation.specs.Records.{max_line}
use Rattle.chess_notation.specs.SaidBounds.{is_bound}
use Rattle.chess_notation.specs.Words.{after_spaces, word_at}
use Rattle.lettered_placements.specs.Readings.{line_read}
use Rattle.move_words.specs.Languages.{is_english}
use Rattle.move_words.specs.declared.languages.Letters.{Letters}
use Rattle.stipulations.specs.Stipulations.{speaks_of_aim}
use Rattle.text_lines.specs.Lines.{lines_of, without_cr}
use Rattle.mail_lines.specs.Labels.{bared}
use Rattle.mail_lines.specs.Placements.{begins_position, has_part, has_word, is_like_placement}

-- One of the words, cut at spaces and at semicolons, is `dm`.
unfoldable pub asks_bound : List ℕ → Bool
asks_bound text = list_any (has_word is_bound) (slice_split (λ b. b == char ";") text)

-- The line begins a problem that takes on the lines behind it: it begins a position, and asks no bound itself.
unfoldable pub begins_mail : List ℕ → Bool
begins_mail line = nat_le (length line) max_line && begins_position line && not (asks_bound line)

-- `#` and a space behind it, or nothing
abbrev pub is_remark : List ℕ → Bool
is_remark [] = false
is_remark (b ∷ []) = b == char "#"
is_remark (b ∷ c ∷ bs) = (b == char "#") && (c == char " ")

-- `--`, behind which a mail is signed
abbrev pub is_rule : List ℕ → Bool
is_rule [] = false
is_rule (b ∷ []) = false
is_rule (b ∷ c ∷ bs) = (b == char "-") && (c == char "-")

-- a tag pair, or a comment
abbrev pub begins_apart : List ℕ → Bool
begins_apart [] = false
begins_apart (b ∷ bs) = (b == char "[") || (b == char "%") || (b == char ";")

-- `BeginProblem`, as Popeye's problems begin
abbrev pub begins_popeye : List ℕ → Bool
begins_popeye word = str_eq_ignore_ascii_case (take 4 word) (codes "begi")

-- The line belongs to none: the problem before it has no more lines.
unfoldable pub ends_mail : List ℕ → Bool
ends_mail line =
    list_all is_ascii_whitespace line || nat_lt max_line (length line) || begins_apart (after_spaces line) || is_remark (after_spaces line)
    || is_rule (after_spaces line) || begins_popeye (word_at line) || has_word (has_part is_like_placement) line

-- what a problem takes on of the lines behind its own
abbrev pub added : List (List ℕ) → List ℕ
added [] = []
added (line ∷ lines) = if ends_mail line then [] else codes " ; " ++ line ++ added lines

-- a first byte of a Cyrillic letter in UTF-8
abbrev pub is_of_cyrillic : ℕ → Bool
is_of_cyrillic b = (b == 208) || (b == 209)

-- A line with Cyrillic letters and a digit: it may speak of an aim, in words that are not known here.
abbrev pub may_speak_in_cyrillic : List ℕ → Bool
may_speak_in_cyrillic line = list_any is_of_cyrillic line && list_any is_ascii_digit line

-- a quotation mark, which stands in a tag pair and in what files of Olive's say
abbrev pub has_mark : List ℕ → Bool
has_mark line = list_any (λ b. b == 34) line

-- The line says what is asked of the positions behind it: it begins none itself, and speaks of an aim, as far as can be seen.
unfoldable pub is_heading : List ℕ → Bool
is_heading line = not (begins_position line) && not (has_mark line) && (speaks_of_aim line || may_speak_in_cyrillic line)

-- The lines behind this one are headed: it is a heading, or was headed itself. An empty line ends that, one that begins
-- with `--`, and one that is too long to be read.
unfoldable pub is_headed_behind : (is_headed : Bool) → List ℕ → Bool
is_headed_behind is_headed line = not (list_all is_ascii_whitespace line) && nat_le (length line) max_line && not (is_rule (after_spaces line))
    && (is_headed || is_heading line)

-- Lines, where a problem is open or isn't, or they are headed: each that begins a problem has those that it takes on behind it, and in the places
-- of these stand empty ones. Where lines are headed, what is asked may stand before each position, and so none takes on the lines behind it.
abbrev pub with_mails : (is_open is_headed : Bool) → List (List ℕ) → List (List ℕ)
with_mails is_open is_headed [] = []
with_mails is_open is_headed (line ∷ lines) =
    if is_open && not (ends_mail line) then [] ∷ with_mails true false lines
    else (if not is_headed && begins_mail (bared line) then (bared line ++ added lines) ∷ with_mails true false lines
    else bared line ∷ with_mails false (is_headed_behind is_headed (bared line)) lines)

-- a line with its CR, by which its text is what stands before that, whatever that is
abbrev pub with_cr : List ℕ → List ℕ
with_cr line = line ++ char "\r" ∷ []

-- lines one behind the other, a newline between each two
abbrev pub lines_text : List (List ℕ) → List ℕ
lines_text [] = []
lines_text (line ∷ []) = with_cr line
lines_text (line ∷ next ∷ lines) = with_cr line ++ char "\n" ∷ lines_text (next ∷ lines)

-- a line with English letters for the men of its placement, which may have these: without labels, unless it is too long to be read
unfoldable pub line_in : Letters → List ℕ → List ℕ
line_in letters line = if is_english letters || nat_lt max_line (length line) then line else line_read letters (bared line)

-- what a line of an input says: without its CR, and with English letters
abbrev pub text_in : Letters → List ℕ → List ℕ
text_in letters line = line_in letters (without_cr line)

-- the input that has the lines of another so joined
unfoldable pub mailed : Letters → List ℕ → List ℕ
mailed letters input = lines_text (with_mails false false (map (text_in letters) (lines_of input)))

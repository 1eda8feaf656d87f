-- What a problem in Popeye's input says (own to this project; the commands and the men's letters: Popeye's input in English). Each word that is
-- no command belongs to the nearest command before it. The words of a problem are listed from the last to the first.
use Rattle.std.specs.Prelude.{ℕ, ◌+◌, ◌-◌, ◌*◌, ◌/◌, ◌%◌, ◌==◌, nat_le, List, [], ◌∷◌, codes, length, take}
use Rattle.std.specs.Prelude.{Bool, true, false, ◌&&◌, ◌||◌, Option, Some, None, is_some, if◌then◌else◌}
use Rattle.std.specs.Char.{to_ascii_lowercase, to_ascii_uppercase}
use Rattle.std.specs.Str.{str_eq_ignore_ascii_case}
use Rattle.chess_board.specs.Characters.{char}
use Rattle.chess_board.specs.Men.{man_of}
use Rattle.chess_board.specs.declared.men.Colour.{Colour}
use Rattle.chess_board.specs.declared.men.Colour.TheVariants.{White, Black}
use Rattle.chess_board.specs.declared.men.Kind.{Kind}
use Rattle.chess_board.specs.declared.men.Kind.TheVariants.{Pawn, Knight, Bishop, Rook, Queen, King}
use Rattle.chess_board.specs.declared.men.Man.{Man}
use Rattle.stipulations.specs.Stipulations.{asked}
use Rattle.stipulations.specs.declared.asked.Asked.{Asked}
use Rattle.stipulations.specs.declared.asked.Asked.TheVariants.{Nothing}
use Rattle.problem_import.specs.declared.popeye_words.Command.{Command}
use Rattle.problem_import.specs.declared.popeye_words.Command.TheVariants.{Begin, Text, Remark, Stipulation, Forsyth, Pieces, Options, Conditions, End}

-- ---- commands

-- The word is the name, or four letters of its front or more, small or large.
unfoldable pub stands_for : (word name : List ℕ) → Bool
stands_for word name = nat_le 4 (length word) && (nat_le (length word) (length name) && str_eq_ignore_ascii_case word (take (length word) name))

abbrev pub is_text_word : List ℕ → Bool
is_text_word word = stands_for word (codes "Author") || (stands_for word (codes "Origin") || stands_for word (codes "Title"))

abbrev pub is_remark_word : List ℕ → Bool
is_remark_word word = stands_for word (codes "Remark") || stands_for word (codes "Award")

abbrev pub is_end_word : List ℕ → Bool
is_end_word word = stands_for word (codes "EndProblem") || stands_for word (codes "NextProblem")

-- the command that a word is
unfoldable pub command_of : List ℕ → Option Command
command_of word =
    if stands_for word (codes "BeginProblem") then Some Begin
    else (if is_text_word word then Some Text
    else (if is_remark_word word then Some Remark
    else (if stands_for word (codes "Stipulation") then Some Stipulation
    else (if stands_for word (codes "Forsyth") then Some Forsyth
    else (if stands_for word (codes "Pieces") then Some Pieces
    else (if stands_for word (codes "Option") then Some Options
    else (if stands_for word (codes "Condition") then Some Conditions
    else (if is_end_word word then Some End else None))))))))

-- What stands behind it on the line says nothing: names, remarks, and what follows a problem's end.
abbrev pub ends_line : Option Command → Bool
ends_line (Some Text) = true
ends_line (Some Remark) = true
ends_line (Some End) = true
ends_line _ = false

abbrev pub is_begin : Option Command → Bool
is_begin (Some Begin) = true
is_begin _ = false

abbrev pub is_end : Option Command → Bool
is_end (Some End) = true
is_end _ = false

-- The words end a problem.
abbrev pub has_end : List (List ℕ) → Bool
has_end [] = false
has_end (word ∷ said) = is_end (command_of word) || has_end said

-- The last of them begins the next problem, too.
abbrev pub begins_next : List (List ℕ) → Bool
begins_next [] = false
begins_next (word ∷ said) = stands_for word (codes "NextProblem")

-- the words of a line, up to one that ends it, put before those that were said
abbrev pub said_onto : (words said : List (List ℕ)) → List (List ℕ)
said_onto [] said = said
said_onto (word ∷ words) said = if ends_line (command_of word) then word ∷ said else said_onto words (word ∷ said)

abbrev pub or_command : Option Command → Option Command → Option Command
or_command None before = before
or_command (Some command) before = Some command

-- the nearest command
abbrev pub nearest : List (List ℕ) → Option Command
nearest [] = None
nearest (word ∷ said) = or_command (command_of word) (nearest said)

-- ---- men

-- the kind of a letter: S is the knight
abbrev pub kind_of_capital : ℕ → Option Kind
kind_of_capital letter =
    if letter == char "K" then Some King
    else (if letter == char "Q" then Some Queen
    else (if letter == char "R" then Some Rook
    else (if letter == char "B" then Some Bishop
    else (if letter == char "S" then Some Knight
    else (if letter == char "P" then Some Pawn else None)))))

abbrev pub kind_of : ℕ → Option Kind
kind_of letter = kind_of_capital (to_ascii_uppercase letter)

abbrev pub is_among : (first last b : ℕ) → Bool
is_among first last b = nat_le first b && nat_le b last

abbrev pub is_square : (file rank : ℕ) → Bool
is_square file rank = is_among (char "a") (char "h") (to_ascii_lowercase file) && is_among (char "1") (char "8") rank

-- the number of a square, from 0 for a1 to 63 for h8
abbrev pub square_of : (file rank : ℕ) → ℕ
square_of file rank = 8 * (rank - char "1") + (to_ascii_lowercase file - char "a")

-- a file's letter and a rank's digit, again and again
abbrev pub are_squares_on : List ℕ → Bool
are_squares_on [] = true
are_squares_on (file ∷ []) = false
are_squares_on (file ∷ rank ∷ squares) = is_square file rank && are_squares_on squares

-- a kind's letter and one square or more: `Sb5f4`
abbrev pub is_men : List ℕ → Bool
is_men [] = false
is_men (letter ∷ []) = false
is_men (letter ∷ b ∷ squares) = is_some (kind_of letter) && are_squares_on (b ∷ squares)

abbrev pub man_if : Option Colour → Option Kind → Option Man
man_if (Some colour) (Some kind) = man_of colour kind
man_if _ _ = None

-- what stands on a square, where such a man stands on each of these
abbrev pub man_among : (squares : List ℕ) → Option Man → (square : ℕ) → Option Man
man_among [] man square = None
man_among (file ∷ []) man square = None
man_among (file ∷ rank ∷ squares) man square = if square_of file rank == square then man else man_among squares man square

-- the man of such a colour that a word puts on a square
abbrev pub man_said : Option Colour → (word : List ℕ) → (square : ℕ) → Option Man
man_said colour [] square = None
man_said colour (letter ∷ squares) square = man_among squares (man_if colour (kind_of letter)) square

abbrev pub colour_named : List ℕ → Option Colour
colour_named word = if stands_for word (codes "White") then Some White else (if stands_for word (codes "Black") then Some Black else None)

abbrev pub colour_at : Option Command → (word : List ℕ) → Option Colour → Option Colour
colour_at None word before = if is_men word then before else colour_named word
colour_at (Some command) word before = None

-- the colour of men behind such words: it is named before them, with nothing but men between
abbrev pub colour_before : List (List ℕ) → Option Colour
colour_before [] = None
colour_before (word ∷ said) = colour_at (command_of word) word (colour_before said)

-- ---- a placement: FEN's, with S for the knight

-- White's letters are the large ones.
abbrev pub man_of_letter : ℕ → Option Man
man_of_letter letter = man_if (Some (if is_among (char "A") (char "Z") letter then White else Black)) (kind_of letter)

-- the square of a place, where places are counted as a placement has them: a8 first, then b8, and h1 last
abbrev pub square_at : (place : ℕ) → ℕ
square_at place = 8 * (7 - place / 8) + place % 8

-- the man that what is left of a placement puts on a square, behind so many places
abbrev pub man_placed : (place : ℕ) → (rest : List ℕ) → (square : ℕ) → Option Man
man_placed place [] square = None
man_placed place (b ∷ bs) square =
    if b == char "/" then man_placed place bs square
    else (if is_among (char "1") (char "8") b then man_placed (place + (b - char "0")) bs square
    else (if square_at place == square then man_of_letter b else man_placed (place + 1) bs square))

-- ---- the problem

abbrev pub or_man : Option Man → Option Man → Option Man
or_man None other = other
or_man (Some man) other = Some man

-- the man that a word puts on a square, where such words were said before
abbrev pub man_put : Option Command → (word : List ℕ) → Option Colour → (square : ℕ) → Option Man
man_put (Some Forsyth) word colour square = man_placed 0 word square
man_put (Some Pieces) word colour square = if is_men word then man_said colour word square else None
man_put _ word colour square = None

abbrev pub man_by : Option Command → (word : List ℕ) → (said : List (List ℕ)) → (square : ℕ) → Option Man
man_by None word said square = man_put (nearest said) word (colour_before said) square
man_by (Some command) word said square = None

-- the man on a square
abbrev pub man_on : (words : List (List ℕ)) → (square : ℕ) → Option Man
man_on [] square = None
man_on (word ∷ said) square = or_man (man_on said square) (man_by (command_of word) word said square)

abbrev pub asked_at : Option Command → (nearest : Option Command) → (word : List ℕ) → Asked → Asked
asked_at None (Some Stipulation) word before = asked word
asked_at _ _ word before = before

-- what the words ask: by that behind `Stipulation`
abbrev pub asked_in : List (List ℕ) → Asked
asked_in [] = Nothing
asked_in (word ∷ said) = asked_at (command_of word) (nearest said) word (asked_in said)

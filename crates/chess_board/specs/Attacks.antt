-- Which squares a man attacks: those on which it could capture, whoever stands there, and whether or not the man may move
-- because of its own king (FIDE Laws of Chess, articles 3.1 to 3.9). Castling and en passant attack nothing.
use Rattle.std.specs.Prelude.{ℕ, ◌+◌, List, Option, Some, None, Bool, false, ◌&&◌, ◌||◌, not, ◌==◌, nat_lt, nat_le}
use Rattle.chess_board.specs.declared.men.Colour.{Colour}
use Rattle.chess_board.specs.declared.men.Colour.TheVariants.{White, Black}
use Rattle.chess_board.specs.declared.men.Kind.{Kind}
use Rattle.chess_board.specs.declared.men.Kind.TheVariants.{Pawn, Knight, Bishop, Rook, Queen, King}
use Rattle.chess_board.specs.declared.men.Man.{Man}
use Rattle.chess_board.specs.Squares.{file_of, rank_of, file_gap, rank_gap, some_square, each_square}
use Rattle.chess_board.specs.Men.{is_colour, is_man, other_side}
use Rattle.chess_board.specs.Positions.{man_at, is_empty}

-- x lies strictly between a and b
abbrev pub is_amid : ℕ → ℕ → ℕ → Bool
is_amid a b x = (nat_lt a x && nat_lt x b) || (nat_lt b x && nat_lt x a)

abbrev pub on_one_rank : ℕ → ℕ → Bool
on_one_rank a b = rank_of a == rank_of b

abbrev pub on_one_file : ℕ → ℕ → Bool
on_one_file a b = file_of a == file_of b

abbrev pub on_one_diagonal : ℕ → ℕ → Bool
on_one_diagonal a b = file_gap a b == rank_gap a b

abbrev pub is_between_on_rank : ℕ → ℕ → ℕ → Bool
is_between_on_rank a b s = on_one_rank a b && on_one_rank a s && is_amid (file_of a) (file_of b) (file_of s)

abbrev pub is_between_on_file : ℕ → ℕ → ℕ → Bool
is_between_on_file a b s = on_one_file a b && on_one_file a s && is_amid (rank_of a) (rank_of b) (rank_of s)

abbrev pub is_between_on_diagonal : ℕ → ℕ → ℕ → Bool
is_between_on_diagonal a b s =
    on_one_diagonal a b && on_one_diagonal a s && on_one_diagonal s b
    && is_amid (file_of a) (file_of b) (file_of s) && is_amid (rank_of a) (rank_of b) (rank_of s)

-- Square s lies strictly between a and b, which are on one rank, one file or one diagonal.
abbrev pub is_between : ℕ → ℕ → ℕ → Bool
is_between a b s = is_between_on_rank a b s || is_between_on_file a b s || is_between_on_diagonal a b s

-- No man stands strictly between two squares.
abbrev pub is_clear : List (Option Man) → ℕ → ℕ → Bool
is_clear men a b = each_square (λ s. not (is_between a b s) || is_empty men s)

-- Two squares are in line for a rook: on one rank or one file (article 3.3).
abbrev pub is_rook_line : ℕ → ℕ → Bool
is_rook_line a b = not (a == b) && (on_one_rank a b || on_one_file a b)

-- Two squares are in line for a bishop: on one diagonal (article 3.2).
abbrev pub is_bishop_line : ℕ → ℕ → Bool
is_bishop_line a b = not (a == b) && on_one_diagonal a b

-- Square b is so many ranks in front of a, as the colour's pawns go.
abbrev pub is_forward : Colour → ℕ → ℕ → ℕ → Bool
is_forward White steps a b = rank_of b == rank_of a + steps
is_forward Black steps a b = rank_of a == rank_of b + steps

-- A man of this colour and kind on a attacks b, among these men.
abbrev pub attacks_as : List (Option Man) → Colour → Kind → ℕ → ℕ → Bool
attacks_as men colour Pawn a b = (file_gap a b == 1) && is_forward colour 1 a b
attacks_as men colour Knight a b = ((file_gap a b == 1) && (rank_gap a b == 2)) || ((file_gap a b == 2) && (rank_gap a b == 1))
attacks_as men colour Bishop a b = is_bishop_line a b && is_clear men a b
attacks_as men colour Rook a b = is_rook_line a b && is_clear men a b
attacks_as men colour Queen a b = (is_bishop_line a b || is_rook_line a b) && is_clear men a b
attacks_as men colour King a b = not (a == b) && nat_le (file_gap a b) 1 && nat_le (rank_gap a b) 1

-- This man, or none, is of the colour and attacks b from a.
abbrev pub man_attacks : List (Option Man) → Option Man → Colour → ℕ → ℕ → Bool
man_attacks men None colour a b = false
man_attacks men (Some man) colour a b = is_colour colour man.colour && attacks_as men man.colour man.kind a b

-- A man of the colour stands on a and attacks b.
abbrev pub attacks_from : List (Option Man) → Colour → ℕ → ℕ → Bool
attacks_from men colour a b = man_attacks men (man_at men a) colour a b

-- Some man of the colour attacks the square.
abbrev pub is_attacked : List (Option Man) → ℕ → Colour → Bool
is_attacked men square colour = some_square (λ a. attacks_from men colour a square)

-- The colour's king stands on the square and is attacked there.
abbrev pub is_king_attacked : List (Option Man) → Colour → ℕ → Bool
is_king_attacked men colour square = is_man colour King (man_at men square) && is_attacked men square (other_side colour)

-- The colour's king is attacked (article 3.9).
abbrev pub is_in_check : List (Option Man) → Colour → Bool
is_in_check men colour = some_square (λ square. is_king_attacked men colour square)

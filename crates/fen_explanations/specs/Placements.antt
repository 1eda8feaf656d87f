-- What a placement says of each square, whether or not it is right (PGN Specification, section 16.1.3.1). Ranks are counted from 0 for the
-- first, and files from 0 for the a-file; the first rank of the text is the eighth.
use Rattle.std.specs.Prelude.{ℕ, zero, suc, ◌-◌, ◌==◌, nat_le, nat_lt, Bool, false, ◌&&◌, if◌then◌else◌, List, [], ◌∷◌, ◌++◌}
use Rattle.std.specs.Prelude.{Option, None, Some, length, slice_index_or, sum_by}
use Rattle.std.specs.List.{slice_split}
use Rattle.chess_board.specs.Characters.{char}
use Rattle.chess_board.specs.Men.{man_of}
use Rattle.chess_board.specs.Placement.{coloured_letter}
use Rattle.chess_board.specs.Squares.{file_of, rank_of}
use Rattle.chess_board.specs.declared.men.Colour.{Colour}
use Rattle.chess_board.specs.declared.men.Colour.TheVariants.{White, Black}
use Rattle.chess_board.specs.declared.men.Kind.{Kind}
use Rattle.chess_board.specs.declared.men.Kind.TheVariants.{Pawn, Knight, Bishop, Rook, Queen, King}
use Rattle.chess_board.specs.declared.men.Man.{Man}

-- the ranks of a placement, the eighth first
abbrev pub ranks_of : List ℕ → List (List ℕ)
ranks_of placement = slice_split (λ b. b == char "/") placement

-- the text of a rank; none where there are too few
abbrev pub rank_in : List (List ℕ) → ℕ → List ℕ
rank_in ranks rank = slice_index_or ranks (7 - rank) []

-- a digit that counts empty squares
abbrev pub is_run : ℕ → Bool
is_run b = nat_lt (char "0") b && nat_lt b (char "9")

-- How many squares a byte says: a digit so many empty ones, any other character one. Of a character of several bytes the first does: those
-- behind it are known by their values (RFC 3629, section 3).
unfoldable pub width : ℕ → ℕ
width b = if is_run b then b - char "0" else (if nat_le 128 b && nat_lt b 192 then 0 else 1)

-- what stands on a square that a byte says
unfoldable pub content : ℕ → Option ℕ
content b = if is_run b then None else Some b

-- the same of the first of them; none where it goes on with a character
unfoldable pub standing : ℕ → Option ℕ
standing b = if width b == 0 then None else content b

-- how many squares a rank says
abbrev pub squares_in : List ℕ → ℕ
squares_in rank = sum_by width rank

-- The squares of a rank are known where there are eight ranks, and it says eight squares.
abbrev pub is_known : List (List ℕ) → ℕ → Bool
is_known ranks rank = (length ranks == 8) && (squares_in (rank_in ranks rank) == 8)

-- the byte on a file of a rank; none where the square is empty, or isn't said
abbrev pub letter_at : List ℕ → ℕ → Option ℕ
letter_at [] file = None
letter_at (b ∷ bs) file = if nat_lt file (width b) then content b else letter_at bs (file - width b)

-- the same of a square
unfoldable pub letter_on : List (List ℕ) → ℕ → Option ℕ
letter_on ranks square = letter_at (rank_in ranks (rank_of square)) (file_of square)

-- that it is this letter
abbrev pub is_letter : ℕ → Option ℕ → Bool
is_letter letter None = false
is_letter letter (Some b) = b == letter

-- A man of this colour and kind is said to stand on the square.
abbrev pub has_man : List (List ℕ) → Colour → Kind → ℕ → Bool
has_man ranks colour kind square = is_letter (coloured_letter colour kind) (letter_on ranks square)

-- the man of a colour whose letter it is
abbrev pub man_if : Colour → ℕ → Option Man
man_if colour b =
    if b == coloured_letter colour Pawn then man_of colour Pawn else (if b == coloured_letter colour Knight then man_of colour Knight
    else (if b == coloured_letter colour Bishop then man_of colour Bishop else (if b == coloured_letter colour Rook then man_of colour Rook
    else (if b == coloured_letter colour Queen then man_of colour Queen else (if b == coloured_letter colour King then man_of colour King
    else None)))))

-- the man whose letter it is: White's where it stands before the small letters
unfoldable pub man_named : ℕ → Option Man
man_named b = if nat_lt b (char "a") then man_if White b else man_if Black b

abbrev pub man_said : Option ℕ → Option Man
man_said None = None
man_said (Some b) = man_named b

-- what each number below n gives, in order
unfoldable pub listed : {X : Type 0} → (ℕ → X) → ℕ → List X
listed f zero = []
listed f (suc n) = listed f n ++ f n ∷ []

-- the men on the 64 squares
unfoldable pub men_in : List (List ℕ) → List (Option Man)
men_in ranks = listed (λ square. man_said (letter_on ranks square)) 64

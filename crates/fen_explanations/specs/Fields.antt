-- What is wrong with the fields behind the placement: side to move, castling, en passant target, counters.
use Rattle.std.specs.Prelude.{ℕ, ◌+◌, ◌-◌, ◌*◌, ◌==◌, nat_le, Bool, true, false, not, ◌&&◌, ◌||◌, if◌then◌else◌, List, [], ◌∷◌, ◌++◌, codes}
use Rattle.std.specs.Prelude.{Option, None, Some, length, is_some}
use Rattle.std.specs.List.{list_all, list_any}
use Rattle.chess_board.specs.Characters.{char}
use Rattle.chess_board.specs.Castling.{king_goal, king_home, rook_home}
use Rattle.chess_board.specs.Fields.{has_letter, square_text, target_rank, times}
use Rattle.chess_board.specs.Men.{other_side}
use Rattle.chess_board.specs.Placement.{coloured_letter}
use Rattle.chess_board.specs.declared.men.Colour.{Colour}
use Rattle.chess_board.specs.declared.men.Colour.TheVariants.{White, Black}
use Rattle.chess_board.specs.declared.men.Kind.{Kind}
use Rattle.chess_board.specs.declared.men.Kind.TheVariants.{Pawn, Rook, Queen, King}
use Rattle.chess_board.specs.declared.men.Wing.{Wing}
use Rattle.chess_board.specs.declared.men.Wing.TheVariants.{KingSide, QueenSide}
use Rattle.chess_notation.specs.Operations.{is_digit}
use Rattle.chess_notation.specs.Words.{is_empty_text}
use Rattle.fen_explanations.specs.Placements.{has_man, letter_on}
use Rattle.fen_explanations.specs.Sentences.{colour_name, kind_name, side_name, told_if}

-- A field isn't there, or it is there and isn't right.
unfoldable pub field_told : List ℕ → Bool → List ℕ → List ℕ → List ℕ
field_told field is_right name what =
    told_if (is_empty_text field) (codes "the " ∷ name ∷ codes " is missing" ∷ [])
    ++ told_if (not (is_empty_text field) && not is_right) (codes "\"" ∷ field ∷ codes "\" is no " ∷ name ∷ codes ": " ∷ what ∷ [])

-- the side that a field says
unfoldable pub side_said : List ℕ → Option Colour
side_said [] = None
side_said (b ∷ bs) = if not (is_empty_text bs) then None else (if b == char "w" then Some White else (if b == char "b" then Some Black else None))

abbrev pub side_field_told : List ℕ → List ℕ
side_field_told field = field_told field (is_some (side_said field)) (codes "side to move") (codes "w or b")

-- a dash
unfoldable pub is_dash : List ℕ → Bool
is_dash [] = false
is_dash (b ∷ bs) = (b == char "-") && is_empty_text bs

unfoldable pub is_right_letter : ℕ → Bool
is_right_letter b = (b == char "K") || (b == char "Q") || (b == char "k") || (b == char "q")

-- none of them twice
unfoldable pub are_once : List ℕ → Bool
are_once field = nat_le (times (char "K") field) 1 && nat_le (times (char "Q") field) 1
    && nat_le (times (char "k") field) 1 && nat_le (times (char "q") field) 1

-- letters of `KQkq`
unfoldable pub are_right_letters : List ℕ → Bool
are_right_letters field = list_all is_right_letter field && are_once field

-- the file of a rook
abbrev pub is_file_letter : ℕ → Bool
is_file_letter b = (nat_le (char "A") b && nat_le b (char "H")) || (nat_le (char "a") b && nat_le b (char "h"))

abbrev pub is_letter_of_chess960 : ℕ → Bool
is_letter_of_chess960 b = is_file_letter b || is_right_letter b

-- castling of Chess960, as X-FEN and Shredder-FEN have it: files of rooks, alone or among `KQkq`
unfoldable pub is_chess960 : List ℕ → Bool
is_chess960 field = list_all is_letter_of_chess960 field && list_any is_file_letter field

abbrev pub castling_rule : Bool → List ℕ
castling_rule true = codes "- or letters of KQkq, each once; castling of Chess960 isn't read"
castling_rule false = codes "- or letters of KQkq, each once"

abbrev pub castling_field_told : List ℕ → List ℕ
castling_field_told field =
    field_told field (is_dash field || are_right_letters field) (codes "castling field") (castling_rule (is_chess960 field))

-- the letter of a right
abbrev pub right_letter : Colour → Wing → ℕ
right_letter colour KingSide = coloured_letter colour King
right_letter colour QueenSide = coloured_letter colour Queen

-- the colour of a man in whose place one of the other side stands
abbrev pub own_name : List (List ℕ) → Colour → Kind → ℕ → List ℕ
own_name ranks colour kind square = if has_man ranks (other_side colour) kind square then codes " " ++ colour_name colour else []

-- No such man stands at home, so that its side may not castle.
unfoldable pub lack_told : List (List ℕ) → Bool → Colour → Wing → Kind → ℕ → List ℕ
lack_told ranks asked colour wing kind home = told_if (asked && not (has_man ranks colour kind home))
    (side_name colour ∷ codes " may not castle to " ∷ square_text (king_goal colour wing) ∷ codes ": no" ∷ own_name ranks colour kind home
    ∷ codes " " ∷ kind_name kind ∷ codes " stands on " ∷ square_text home ∷ [])

-- a right whose king or rook isn't at home
unfoldable pub right_told : List (List ℕ) → List ℕ → Colour → Wing → List ℕ
right_told ranks field colour wing =
    lack_told ranks (has_letter (right_letter colour wing) field) colour wing King (king_home colour)
    ++ lack_told ranks (has_letter (right_letter colour wing) field) colour wing Rook (rook_home colour wing)

-- the rights that letters of `KQkq` say, where nothing is wrong with the ranks
unfoldable pub rights_told : List (List ℕ) → Bool → List ℕ → List ℕ
rights_told ranks are_judged field = if are_judged
    then right_told ranks field White KingSide ++ right_told ranks field White QueenSide
    ++ right_told ranks field Black KingSide ++ right_told ranks field Black QueenSide else []

-- all that is wrong with the castling field
unfoldable pub castling_told : List (List ℕ) → Bool → List ℕ → List ℕ
castling_told ranks is_clean field = castling_field_told field ++ rights_told ranks (is_clean && not (is_chess960 field)) field

-- the square that a field names, where that is one on a rank
unfoldable pub square_said : List ℕ → ℕ → Option ℕ
square_said (file ∷ digit ∷ []) rank =
    if nat_le (char "a") file && nat_le file (char "h") && (digit == char "1" + rank) then Some (8 * rank + (file - char "a")) else None
square_said _ rank = None

-- Something stands on a square that has to be empty.
unfoldable pub full_told : List (List ℕ) → ℕ → ℕ → List ℕ
full_told ranks target square = told_if (is_some (letter_on ranks square))
    (square_text target ∷ codes " is no en passant target: a man stands on " ∷ square_text square ∷ [])

-- The pawn that passed over the target doesn't stand beyond it.
unfoldable pub no_pawn_told : List (List ℕ) → ℕ → Colour → ℕ → List ℕ
no_pawn_told ranks target colour square = told_if (not (has_man ranks colour Pawn square))
    (square_text target ∷ codes " is no en passant target: no " ∷ colour_name colour ∷ codes " pawn stands on " ∷ square_text square ∷ [])

-- what is wrong with a target on the rank of the side to move
unfoldable pub target_square_told : List (List ℕ) → Colour → ℕ → List ℕ
target_square_told ranks White target =
    full_told ranks target target ++ no_pawn_told ranks target Black (target - 8) ++ full_told ranks target (target + 8)
target_square_told ranks Black target =
    full_told ranks target target ++ no_pawn_told ranks target White (target + 8) ++ full_told ranks target (target - 8)

-- the same where one is said, and nothing is wrong with the ranks
abbrev pub said_target_told : List (List ℕ) → Bool → Colour → Option ℕ → List ℕ
said_target_told ranks is_clean side None = []
said_target_told ranks is_clean side (Some target) = if is_clean then target_square_told ranks side target else []

abbrev pub target_rule : Colour → List ℕ
target_rule White = codes "- or a square of rank 6"
target_rule Black = codes "- or a square of rank 3"

-- A target is a dash or such a square.
unfoldable pub target_field_told : Colour → List ℕ → Option ℕ → List ℕ
target_field_told side field target = field_told field (is_dash field || is_some target) (codes "en passant target") (target_rule side)

-- all that is wrong with the target of a side to move
unfoldable pub target_told : List (List ℕ) → Bool → Colour → List ℕ → List ℕ
target_told ranks is_clean side field =
    target_field_told side field (square_said field (target_rank side))
    ++ said_target_told ranks is_clean side (square_said field (target_rank side))

-- what is told of a target where the side to move isn't known
abbrev pub no_target_told : List ℕ → List ℕ
no_target_told field = field_told field true (codes "en passant target") []

-- one to four digits
unfoldable pub is_counter_text : List ℕ → Bool
is_counter_text field = list_all is_digit field && nat_le (length field) 4

abbrev pub counter_told : List ℕ → List ℕ → List ℕ
counter_told field name = field_told field (is_counter_text field) name (codes "one to four digits")

-- What the letters and signs of a word say. Men have the letters of a language.
use Rattle.std.specs.Prelude.{ℕ, ◌-◌, ◌==◌, nat_le, List, [], ◌∷◌, Option, Some, None, is_some, Bool, false, ◌&&◌, ◌||◌, if◌then◌else◌}
use Rattle.std.specs.Char.{to_ascii_uppercase}
use Rattle.std.specs.List.{list_all}
use Rattle.std.specs.Option.{option_map_or}
use Rattle.chess_board.specs.Characters.{char}
use Rattle.chess_board.specs.declared.men.Colour.{Colour}
use Rattle.chess_board.specs.declared.men.Colour.TheVariants.{White, Black}
use Rattle.chess_board.specs.declared.men.Kind.{Kind}
use Rattle.chess_board.specs.declared.men.Kind.TheVariants.{Pawn, Knight, Bishop, Rook, Queen, King}
use Rattle.move_words.specs.declared.languages.Letters.{Letters}
use Rattle.move_words.specs.declared.letters.Sign.{Sign}
use Rattle.move_words.specs.declared.letters.Sign.TheVariants.{Goes, Captures}
use Rattle.move_words.specs.Languages.{kind_of_letter}

abbrev pub officer : Option Kind → Option Kind
officer None = None
officer (Some Pawn) = None
officer (Some Knight) = Some Knight
officer (Some Bishop) = Some Bishop
officer (Some Rook) = Some Rook
officer (Some Queen) = Some Queen
officer (Some King) = None

-- what a pawn becomes, by a capital or a small letter
abbrev pub kind_becoming : Letters → ℕ → Option Kind
kind_becoming l b = officer (kind_of_letter l (to_ascii_uppercase b))

-- files and ranks, counted from 0
abbrev pub file_of_letter : ℕ → Option ℕ
file_of_letter b = if nat_le (char "a") b && nat_le b (char "h") then Some (b - char "a") else None

abbrev pub rank_of_digit : ℕ → Option ℕ
rank_of_digit b = if nat_le (char "1") b && nat_le b (char "8") then Some (b - char "1") else None

-- a hyphen, or the sign of a capture
abbrev pub sign_of : ℕ → Option Sign
sign_of b = if b == char "-" then Some Goes else (if (b == char "x") || (b == char ":") then Some Captures else None)

-- what the first byte of a text says
abbrev pub said : {A : Type 0} → (ℕ → Option A) → List ℕ → Option A
said says [] = None
said says (b ∷ bs) = says b

-- the text behind that byte, where it says something
abbrev pub behind : {A : Type 0} → (ℕ → Option A) → List ℕ → List ℕ
behind says [] = []
behind says (b ∷ bs) = if is_some (says b) then bs else b ∷ bs

-- the two letters of a king that has two
abbrev pub are_kings : Letters → ℕ → ℕ → Bool
are_kings l a b = (a == l.king) && option_map_or (λ second. b == second) l.behind_king false

-- the man whose letter a text begins with
abbrev pub first_man : Letters → List ℕ → Option Kind
first_man l [] = None
first_man l (a ∷ []) = kind_of_letter l a
first_man l (a ∷ b ∷ bs) = if are_kings l a b then Some King else kind_of_letter l a

-- the text behind that letter, or those two
abbrev pub behind_man : Letters → List ℕ → List ℕ
behind_man l [] = []
behind_man l (a ∷ []) = behind (kind_of_letter l) (a ∷ [])
behind_man l (a ∷ b ∷ bs) = if are_kings l a b then bs else behind (kind_of_letter l) (a ∷ b ∷ bs)

-- Signs of check, mate, praise and blame, of the end of a phrase, and the second bracket round what a pawn becomes.
abbrev pub is_sign : ℕ → Bool
is_sign b =
    (b == char "+") || (b == char "#") || (b == char "!") || (b == char "?") || (b == char ",") || (b == char ".") || (b == char ";")
    || (b == char ")")

abbrev pub is_p_end : List ℕ → Bool
is_p_end [] = false
is_p_end (b ∷ bs) = (b == char "p") && list_all is_sign bs

-- Behind a move stand signs, be they right or wrong, and before them perhaps `ep` or `e.p.`.
abbrev pub is_end : List ℕ → Bool
is_end [] = list_all is_sign []
is_end (a ∷ []) = list_all is_sign (a ∷ [])
is_end (a ∷ b ∷ bs) =
    if a == char "e" then (if b == char "." then is_p_end bs else is_p_end (b ∷ bs)) else list_all is_sign (a ∷ b ∷ bs)

-- Two more full stops say that Black moves.
abbrev pub behind_number : Colour → List ℕ → Option (List ℕ)
behind_number Black (a ∷ b ∷ bs) = if (a == char ".") && (b == char ".") then Some bs else Some (a ∷ b ∷ bs)
behind_number White (a ∷ b ∷ bs) = if (a == char ".") && (b == char ".") then None else Some (a ∷ b ∷ bs)
behind_number side text = Some text

-- A word without the number of the first move, `1.` or, where Black is to move, `1...`.
abbrev pub without_number : Colour → List ℕ → Option (List ℕ)
without_number side (a ∷ b ∷ bs) = if (a == char "1") && (b == char ".") then behind_number side bs else Some (a ∷ b ∷ bs)
without_number side word = Some word

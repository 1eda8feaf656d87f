-- How a FEN spells the men on the board: its first field (PGN Specification, 16.1.3.1).
--
-- The men are a list of 64 places, a1 first, then b1, and h8 last. A place holds a man or none.
use Rattle.std.specs.Prelude.{◌≡◌, ℕ, zero, suc, ◌+◌, ◌*◌, List, [], ◌∷◌, ◌++◌, Option, Some, None, length, take, drop, map}
use Rattle.std.specs.List.{join_with_byte}
use Rattle.chess_board.specs.Characters.{char, small}
use Rattle.chess_board.specs.declared.men.Colour.{Colour}
use Rattle.chess_board.specs.declared.men.Colour.TheVariants.{White, Black}
use Rattle.chess_board.specs.declared.men.Kind.{Kind}
use Rattle.chess_board.specs.declared.men.Kind.TheVariants.{Pawn, Knight, Bishop, Rook, Queen, King}
use Rattle.chess_board.specs.declared.men.Man.{Man}

abbrev pub kind_letter : Kind → ℕ
kind_letter Pawn = char "P"
kind_letter Knight = char "N"
kind_letter Bishop = char "B"
kind_letter Rook = char "R"
kind_letter Queen = char "Q"
kind_letter King = char "K"

-- White's letters are capitals, and Black's are the small ones.
abbrev pub coloured_letter : Colour → Kind → ℕ
coloured_letter White kind = kind_letter kind
coloured_letter Black kind = small (kind_letter kind)

abbrev pub man_letter : Man → ℕ
man_letter man = coloured_letter man.colour man.kind

-- A run of empty squares is its length as one digit. Where there is none, nothing is written.
abbrev pub run_text : ℕ → List ℕ
run_text zero = []
run_text (suc n) = (char "0" + suc n) ∷ []

-- The rest of a rank, where so many empty squares stand before it that no digit counts yet.
abbrev pub rank_text_after : ℕ → List (Option Man) → List ℕ
rank_text_after empty [] = run_text empty
rank_text_after empty (None ∷ places) = rank_text_after (suc empty) places
rank_text_after empty ((Some man) ∷ places) = run_text empty ++ man_letter man ∷ rank_text_after 0 places

-- A rank, from the a-file to the h-file.
abbrev pub rank_text : List (Option Man) → List ℕ
rank_text places = rank_text_after 0 places

-- The eight squares of a rank. White's first rank is number 0.
abbrev pub rank_places : List (Option Man) → ℕ → List (Option Man)
rank_places men rank = take 8 (drop (8 * rank) men)

-- The ranks from the eighth down to the first, with a slash between each two.
abbrev pub placement_text : List (Option Man) → List ℕ
placement_text men = join_with_byte (char "/") (map (λ rank. rank_text (rank_places men rank)) (7 ∷ 6 ∷ 5 ∷ 4 ∷ 3 ∷ 2 ∷ 1 ∷ 0 ∷ []))

-- The text is the placement field of these men.
abbrev pub SpellsPlacement : List ℕ → List (Option Man) → Type 0
SpellsPlacement text men = (length men ≡ 64) × (text ≡ placement_text men)

-- The fields of a FEN after the placement: side to move, castling, en passant target, counters (PGN Specification, sections
-- 16.1.3.2 to 16.1.3.6). Own to this project: castling letters are read in any order, a dash is read also after a double
-- step, a counter has one to four digits, and a fullmove number may be 0.
use Rattle.std.specs.Prelude.{◌≡◌, ◌⊎◌, ℕ, ◌+◌, ◌-◌, ◌*◌, ◌<◌, ◌≤◌, List, [], ◌∷◌, ◌++◌, Bool, Option, Some}
use Rattle.std.specs.Prelude.{None, All, count_by, codes, fold, length, if◌then◌else◌, ◌==◌, ◌||◌}
use Rattle.std.specs.List.{list_any}
use Rattle.chess_board.specs.Characters.{char}
use Rattle.chess_board.specs.declared.men.Colour.{Colour}
use Rattle.chess_board.specs.declared.men.Colour.TheVariants.{White, Black}
use Rattle.chess_board.specs.declared.men.Rights.{Rights}
use Rattle.chess_board.specs.Squares.{file_of, rank_of}

-- The side to move: `w` or `b`.
abbrev pub side_text : Colour → List ℕ
side_text White = codes "w"
side_text Black = codes "b"

-- how often a letter stands in a text, and whether it does
abbrev pub times : ℕ → List ℕ → ℕ
times letter text = count_by (λ b. b == letter) text

abbrev pub has_letter : ℕ → List ℕ → Bool
has_letter letter text = list_any (λ b. b == letter) text

-- one of `KQkq`
abbrev pub IsRightLetter : ℕ → Type 0
IsRightLetter b = (b ≡ char "K") ⊎ (b ≡ char "Q") ⊎ (b ≡ char "k") ⊎ (b ≡ char "q")

-- Letters of `KQkq` in any order, one at least, none of them twice.
pub record IsRightLetters (text : List ℕ) : Type 0 where
  pub some : 0 < length text
  pub letters : All IsRightLetter text
  pub white_king_side : times (char "K") text ≤ 1
  pub white_queen_side : times (char "Q") text ≤ 1
  pub black_king_side : times (char "k") text ≤ 1
  pub black_queen_side : times (char "q") text ≤ 1

-- the rights whose letters stand in a text: capitals are White's, K and k the king side's
abbrev pub rights_in : List ℕ → Rights
rights_in text = record {
  white_king_side = has_letter (char "K") text;
  white_queen_side = has_letter (char "Q") text;
  black_king_side = has_letter (char "k") text;
  black_queen_side = has_letter (char "q") text;
}

-- Castling is a dash where no right is left, or such letters; a right is left exactly where its letter stands.
abbrev pub IsCastling : List ℕ → Type 0
IsCastling text = (text ≡ codes "-") ⊎ IsRightLetters text

abbrev pub SpellsCastling : List ℕ → Rights → Type 0
SpellsCastling text rights = IsCastling text × (rights ≡ rights_in text)

-- Printed, the letters stand in the order `KQkq`.
abbrev pub letter_if : Bool → ℕ → List ℕ
letter_if has letter = if has then letter ∷ [] else []

abbrev pub letters_of : Rights → List ℕ
letters_of rights =
    letter_if rights.white_king_side (char "K") ++ letter_if rights.white_queen_side (char "Q")
    ++ letter_if rights.black_king_side (char "k") ++ letter_if rights.black_queen_side (char "q")

abbrev pub has_any : Rights → Bool
has_any rights = rights.white_king_side || rights.white_queen_side || rights.black_king_side || rights.black_queen_side

abbrev pub castling_text : Rights → List ℕ
castling_text rights = if has_any rights then letters_of rights else codes "-"

-- the rank of an en passant target, counted from 0: the sixth where White is to move, else the third
abbrev pub target_rank : Colour → ℕ
target_rank White = 5
target_rank Black = 2

-- A square is its file's letter and its rank's digit.
abbrev pub square_text : ℕ → List ℕ
square_text square = (char "a" + file_of square) ∷ (char "1" + rank_of square) ∷ []

abbrev pub target_text : Option ℕ → List ℕ
target_text None = codes "-"
target_text (Some square) = square_text square

-- A target is a dash, or a square on the target rank of the side to move.
abbrev pub IsTargetOf : Colour → Option ℕ → Type 0
IsTargetOf side None = Unit {0}
IsTargetOf side (Some square) = (square < 64) × (rank_of square ≡ target_rank side)

abbrev pub SpellsTarget : Colour → List ℕ → Option ℕ → Type 0
SpellsTarget side text target = IsTargetOf side target × (text ≡ target_text target)

abbrev pub IsDigit : ℕ → Type 0
IsDigit b = (char "0" ≤ b) × (b ≤ char "9")

-- the number that decimal digits stand for
abbrev pub digits_value : List ℕ → ℕ
digits_value text = fold (λ n b. 10 * n + (b - char "0")) 0 text

-- A counter is one to four digits; zeros may stand in front.
abbrev pub IsCounter : List ℕ → Type 0
IsCounter text = (0 < length text) × (length text ≤ 4) × All IsDigit text

abbrev pub SpellsCounter : List ℕ → ℕ → Type 0
SpellsCounter text n = IsCounter text × (n ≡ digits_value text)

-- The bytes of a move's text: which they are, and what a square's and a kind's letters say.
use Rattle.std.proofs.Common.{◌≡◌, ℕ, ◌+◌, ◌<◌, true, false, cond, eqb, ltb, List, filter, Option, Some, None, refl, arith}
use Rattle.std.proofs.lemmas.Bool.Decides.{nat_tests}
use Rattle.chess_board.specs.declared.men.Kind.{Kind}
use Rattle.chess_board.specs.declared.men.Kind.TheVariants.{Pawn, Knight, Bishop, Rook, Queen, King}
use Rattle.chess_board.specs.Squares.{file_of, rank_of}
use Rattle.chess_board.specs.Placement.{kind_letter}

-- the kind that a letter says
abbrev pub kind_said : ℕ → Option Kind
kind_said b = cond (eqb b 80) (Some Pawn) (cond (eqb b 78) (Some Knight) (cond (eqb b 66) (Some Bishop)
    (cond (eqb b 82) (Some Rook) (cond (eqb b 81) (Some Queen) (cond (eqb b 75) (Some King) None)))))

pub kind_said-letter : (kind : Kind) → kind_said (kind_letter kind) ≡ Some kind
kind_said-letter Pawn = refl
kind_said-letter Knight = refl
kind_said-letter Bishop = refl
kind_said-letter Rook = refl
kind_said-letter Queen = refl
kind_said-letter King = refl

-- A square is known by its file and its rank.
pub same_square : (a b : ℕ) → file_of a ≡ file_of b → rank_of a ≡ rank_of b → a ≡ b
same_square a b files ranks = omega arith

-- a text without suffixes: their bytes, 43 and 35, are below all others
abbrev pub unmarked : List ℕ → List ℕ
unmarked text = filter (λ b. ltb 44 b) text

pub file_unmarked : (n : ℕ) → ltb 44 (97 + n) ≡ true
file_unmarked n = grind (arith, nat_tests)

pub rank_unmarked : (n : ℕ) → ltb 44 (49 + n) ≡ true
rank_unmarked n = grind (arith, nat_tests)

pub kind_unmarked : (kind : Kind) → ltb 44 (kind_letter kind) ≡ true
kind_unmarked Pawn = refl
kind_unmarked Knight = refl
kind_unmarked Bishop = refl
kind_unmarked Rook = refl
kind_unmarked Queen = refl
kind_unmarked King = refl

-- No file and no rank is the mark of a capture, and a file's byte is above a rank's.
pub file_no_capture : (a : ℕ) → eqb (97 + file_of a) 120 ≡ false
file_no_capture a = grind (arith, nat_tests)

pub rank_no_capture : (a : ℕ) → a < 64 → eqb (49 + rank_of a) 120 ≡ false
rank_no_capture a on = grind (arith, nat_tests)

pub file_high : (a : ℕ) → ltb 96 (97 + file_of a) ≡ true
file_high a = grind (arith, nat_tests)

pub rank_low : (a : ℕ) → a < 64 → ltb 96 (49 + rank_of a) ≡ false
rank_low a on = grind (arith, nat_tests)

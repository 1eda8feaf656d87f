-- Not for believing: what the reader of a rank makes of one byte, and of all. It undoes the letters and digits of the placement.
use Rattle.std.specs.Prelude.{◌≡◌, ℕ, ◌+◌, ◌-◌, ◌*◌, Bool, Option, Some, None, nat_lt, ◌&&◌, if◌then◌else◌, ◌==◌}
use Rattle.std.specs.Prelude.{List, ◌++◌, length, replicate, take, drop}
use Rattle.chess_board.specs.declared.men.Colour.{Colour}
use Rattle.chess_board.specs.declared.men.Colour.TheVariants.{White, Black}
use Rattle.chess_board.specs.declared.men.Kind.{Kind}
use Rattle.chess_board.specs.declared.men.Kind.TheVariants.{Pawn, Knight, Bishop, Rook, Queen, King}
use Rattle.chess_board.specs.declared.men.Man.{Man}
use Rattle.chess_board.specs.Placement.{rank_text}

-- the kind of a capital letter
abbrev pub kind_of_letter : ℕ → Option Kind
kind_of_letter b =
    if b == 80 then Some Pawn else (if b == 78 then Some Knight else (if b == 66 then Some Bishop
    else (if b == 82 then Some Rook else (if b == 81 then Some Queen else (if b == 75 then Some King else None)))))

-- a man of the side, where there is a kind
abbrev pub man_as : Colour → Option Kind → Option Man
man_as colour None = None
man_as colour (Some kind) = Some (record { colour = colour; kind = kind })

-- the man of a letter
abbrev pub man_of_letter : ℕ → Option Man
man_of_letter b = if nat_lt b 97 then man_as White (kind_of_letter b) else man_as Black (kind_of_letter (b - 32))

-- one of the digits 1 to 8
abbrev pub is_run_digit : ℕ → Bool
is_run_digit b = nat_lt 48 b && nat_lt b 57

-- the men with these squares for those of a rank
abbrev pub with_rank : List (Option Man) → ℕ → List (Option Man) → List (Option Man)
with_rank men rank places = take (8 * rank) men ++ (places ++ drop (8 * rank + 8) men)

-- No man stands on the rank.
abbrev pub IsRankEmpty : List (Option Man) → ℕ → Type 0
IsRankEmpty men rank = men ≡ with_rank men rank (replicate 8 None)

-- The board is the other with the squares that the text of a rank spells.
pub record IsRankRead (board men : List (Option Man)) (rank : ℕ) (text : List ℕ) : Type 0 where
  pub places : List (Option Man)
  pub long : length places ≡ 8
  pub spelt : rank_text places ≡ text
  pub written : board ≡ with_rank men rank places

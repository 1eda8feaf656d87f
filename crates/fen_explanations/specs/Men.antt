-- What is wrong with the men of a placement: kings, pawns, how many there are.
use Rattle.std.specs.Prelude.{ℕ, ◌+◌, ◌*◌, ◌==◌, nat_lt, ◌||◌, if◌then◌else◌, List, [], ◌∷◌, ◌++◌, codes, decimal, length}
use Rattle.chess_board.specs.Fields.{square_text, times}
use Rattle.chess_board.specs.Placement.{coloured_letter}
use Rattle.chess_board.specs.declared.men.Colour.{Colour}
use Rattle.chess_board.specs.declared.men.Colour.TheVariants.{White, Black}
use Rattle.chess_board.specs.declared.men.Kind.{Kind}
use Rattle.chess_board.specs.declared.men.Kind.TheVariants.{Pawn, Knight, Bishop, Rook, Queen, King}
use Rattle.fen_explanations.specs.Placements.{has_man, is_known}
use Rattle.fen_explanations.specs.Sentences.{each_below, side_name, told_if}

-- how many men of a colour and a kind a placement names
abbrev pub count_of : List ℕ → Colour → Kind → ℕ
count_of placement colour kind = times (coloured_letter colour kind) placement

-- no king
abbrev pub no_king_told : Colour → ℕ → List ℕ
no_king_told colour kings = told_if (kings == 0) (side_name colour ∷ codes " has no king" ∷ [])

-- the same in so many ranks: where one is missing, the king could stand there
abbrev pub missed_king_told : ℕ → Colour → ℕ → List ℕ
missed_king_told ranks colour kings = if nat_lt ranks 8 then [] else no_king_told colour kings

-- several
abbrev pub kings_told : Colour → ℕ → List ℕ
kings_told colour kings = told_if (nat_lt 1 kings) (side_name colour ∷ codes " has " ∷ decimal kings ∷ codes " kings" ∷ [])

abbrev pub pawn_told : List (List ℕ) → ℕ → List ℕ
pawn_told ranks square =
    told_if (has_man ranks White Pawn square || has_man ranks Black Pawn square) (codes "a pawn stands on " ∷ square_text square ∷ [])

-- each pawn of a rank whose squares are known
unfoldable pub pawns_told : List (List ℕ) → ℕ → List ℕ
pawns_told ranks rank = if is_known ranks rank then each_below 8 (λ file. pawn_told ranks (8 * rank + file)) else []

-- how many men of a colour a placement names
abbrev pub side_count : List ℕ → Colour → ℕ
side_count placement colour = count_of placement colour Pawn + count_of placement colour Knight + count_of placement colour Bishop
    + count_of placement colour Rook + count_of placement colour Queen + count_of placement colour King

abbrev pub many_told : Colour → ℕ → List ℕ
many_told colour men = told_if (nat_lt 16 men) (side_name colour ∷ codes " has " ∷ decimal men ∷ codes " men, and 16 is the most" ∷ [])

-- what is wrong with the kings of a side in so many ranks, and with how many men it has
unfoldable pub side_told : ℕ → List ℕ → Colour → List ℕ
side_told ranks placement colour = missed_king_told ranks colour (count_of placement colour King) ++ kings_told colour (count_of placement colour King)
    ++ many_told colour (side_count placement colour)

-- both sides, and the pawns on ranks 8 and 1
unfoldable pub men_told : List ℕ → List (List ℕ) → List ℕ
men_told placement ranks = side_told (length ranks) placement White ++ side_told (length ranks) placement Black ++ pawns_told ranks 7 ++ pawns_told ranks 0

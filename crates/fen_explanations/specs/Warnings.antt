-- What can't come about by play, by count: more than eight pawns, or more men than pawns could become (FIDE Laws of Chess, articles 2.2 and 3.7).
-- It is told of sound positions, and refused by nothing.
use Rattle.std.specs.Prelude.{ℕ, ◌+◌, ◌-◌, nat_lt, if◌then◌else◌, List, [], ◌∷◌, ◌++◌, codes, decimal}
use Rattle.chess_board.specs.declared.men.Colour.{Colour}
use Rattle.chess_board.specs.declared.men.Kind.{Kind}
use Rattle.chess_board.specs.declared.men.Kind.TheVariants.{Pawn, Knight, Bishop, Rook, Queen}
use Rattle.fen_explanations.specs.Men.{count_of}
use Rattle.fen_explanations.specs.Sentences.{colour_name, kind_name, plural, sentence, side_name, told_if}

-- more pawns than a side begins with
unfoldable pub pawns_warned : Colour → ℕ → List ℕ
pawns_warned colour pawns = told_if (nat_lt 8 pawns) (decimal pawns ∷ codes " " ∷ colour_name colour ∷ codes " pawns" ∷ [])

-- how many men of a kind there are beyond those that a side begins with
abbrev pub beyond : List ℕ → Colour → Kind → ℕ → ℕ
beyond placement colour kind first = count_of placement colour kind - first

-- at least so many pawns have become other men
unfoldable pub promoted : List ℕ → Colour → ℕ
promoted placement colour = beyond placement colour Queen 1 + beyond placement colour Rook 2
    + beyond placement colour Bishop 2 + beyond placement colour Knight 2

-- the men of a kind, where there are more of them than at first
unfoldable pub more_text : ℕ → ℕ → Kind → List ℕ
more_text first men kind = if nat_lt first men then decimal men ++ codes " " ++ kind_name kind ++ codes "s and " else []

-- how many pawns there are, and what is odd about it
unfoldable pub pawns_left_text : ℕ → List ℕ
pawns_left_text pawns = sentence (decimal pawns ∷ codes " pawn" ∷ plural pawns ∷ codes ": more men than pawns could become" ∷ [])

-- the men of which there are more than at first, and the pawns
unfoldable pub promoted_text : List ℕ → Colour → List ℕ
promoted_text placement colour = side_name colour ++ codes " has " ++ more_text 1 (count_of placement colour Queen) Queen
    ++ more_text 2 (count_of placement colour Rook) Rook ++ more_text 2 (count_of placement colour Bishop) Bishop
    ++ more_text 2 (count_of placement colour Knight) Knight
    ++ pawns_left_text (count_of placement colour Pawn)

-- more of them became other men than are missing
unfoldable pub promoted_warned : List ℕ → Colour → List ℕ
promoted_warned placement colour =
    if nat_lt (8 - count_of placement colour Pawn) (promoted placement colour) then promoted_text placement colour else []

unfoldable pub side_warned : List ℕ → Colour → List ℕ
side_warned placement colour = pawns_warned colour (count_of placement colour Pawn) ++ promoted_warned placement colour

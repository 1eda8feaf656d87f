-- Who attacks the king of the side that isn't to move.
use Rattle.std.specs.Prelude.{ℕ, Bool, not, ◌||◌, if◌then◌else◌, List, [], ◌∷◌, codes, Option, None, Some}
use Rattle.chess_board.specs.Attacks.{attacks_from, is_between}
use Rattle.chess_board.specs.Fields.{square_text}
use Rattle.chess_board.specs.Men.{is_man, other_side}
use Rattle.chess_board.specs.Positions.{is_empty, man_at}
use Rattle.chess_board.specs.declared.men.Colour.{Colour}
use Rattle.chess_board.specs.declared.men.Kind.TheVariants.{King}
use Rattle.chess_board.specs.declared.men.Man.{Man}
use Rattle.fen_explanations.specs.Sentences.{each_below, kind_name, told_if}

-- The square is no hindrance between the other two.
abbrev pub is_open : List (Option Man) → ℕ → ℕ → ℕ → Bool
is_open men a b s = not (is_between a b s) || is_empty men s

abbrev pub man_name : Option Man → List ℕ
man_name None = []
man_name (Some man) = kind_name man.kind

-- A man of the colour on the square attacks the king.
unfoldable pub attacker_told : List (Option Man) → Colour → ℕ → ℕ → List ℕ
attacker_told men by king square = told_if (attacks_from men by square king)
    (codes "the king on " ∷ square_text king ∷ codes " is attacked by the " ∷ man_name (man_at men square) ∷ codes " on " ∷ square_text square
    ∷ codes ", and its side isn't to move" ∷ [])

-- all that attack a king of the colour, if one stands on the square
unfoldable pub attackers_told : List (Option Man) → Colour → ℕ → List ℕ
attackers_told men colour king =
    if is_man colour King (man_at men king) then each_below 64 (λ square. attacker_told men (other_side colour) king square) else []

-- all that attack a king of the colour
unfoldable pub checks_told : List (Option Man) → Colour → List ℕ
checks_told men colour = each_below 64 (λ king. attackers_told men colour king)

-- The letters by which men's shapes are called.
use Rattle.std.proofs.Common.{◌≡◌, ◌∙◌, ◌-◌, ◌==◌, nat_lt, ℕ, ap, get_or, if◌then◌else◌, refl, sym}
use Rattle.chess_board.specs.declared.men.Colour.{Colour}
use Rattle.chess_board.specs.declared.men.Colour.TheVariants.{White, Black}
use Rattle.chess_board.specs.declared.men.Kind.{Kind}
use Rattle.chess_board.specs.declared.men.Kind.TheVariants.{Pawn, Knight, Bishop, Rook, Queen, King}
use Rattle.chess_board.specs.declared.men.Man.{Man}
use Rattle.chess_board.specs.Placement.{coloured_letter}
use Rattle.problem_sheets.specs.Diagrams.{letter_text}
use Rattle.problem_sheets.specs.Laws.{LettersApart}

abbrev kind_at : ℕ → Kind
kind_at letter =
    if letter == 80 then Pawn
    else if letter == 78 then Knight
    else if letter == 66 then Bishop
    else if letter == 82 then Rook
    else if letter == 81 then Queen
    else King

-- the man whose letter it is
abbrev man_at : ℕ → Man
man_at letter =
    if nat_lt letter 97 then record { colour = White; kind = kind_at letter } else record { colour = Black; kind = kind_at (letter - 32) }

says_man : (c : Colour) (k : Kind) → man_at (coloured_letter c k) ≡ record { colour = c; kind = k }
says_man White Pawn = refl
says_man White Knight = refl
says_man White Bishop = refl
says_man White Rook = refl
says_man White Queen = refl
says_man White King = refl
says_man Black Pawn = refl
says_man Black Knight = refl
says_man Black Bishop = refl
says_man Black Rook = refl
says_man Black Queen = refl
says_man Black King = refl

pub letters_apart : LettersApart
unfolding letter_text
letters_apart a b same =
    sym (says_man a.colour a.kind) ∙ ap man_at (ap (λ text. get_or text 0 0) same) ∙ says_man b.colour b.kind

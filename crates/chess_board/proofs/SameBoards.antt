-- `==` of two boards says whether the men that they show are the same.
use Rattle.std.proofs.Common.{◌≡◌, Bool, true, ◌&&◌, eqb, List, Option, length, refl, sym, ap, ◌∙◌}
use Rattle.std.proofs.lemmas.Bool.{and_parts, and_from}
use Rattle.std.proofs.lemmas.Bool.Decides.{Decides-eqb}
use lib.Pointwise.{pointwise, pointwise_decides}
use Rattle.chess_board.specs.declared.men.Man.{Man}
use Rattle.chess_board.specs.inside.Boards.{colour_words, kind_words, words_of, AreWordsOf}
use Rattle.chess_board.proofs.BoardWords.{men_of-AreWordsOf}
use Rattle.chess_board.proofs.Equality.{Agrees}

-- what the derived `==` computes: whether all eight words are the same
abbrev pub board_eq : List (Option Man) → List (Option Man) → Bool
board_eq v w = pointwise eqb (colour_words v) (colour_words w) && pointwise eqb (kind_words v) (kind_words w)

pub same_board : (v w : List (Option Man)) → length v ≡ 64 → length w ≡ 64 → board_eq v w ≡ true → v ≡ w
same_board v w long wide same =
    let both = and_parts _ _ same in
    let colours = (pointwise_decides Decides-eqb (colour_words v) (colour_words w)).0 both.0 in
    let kinds = (pointwise_decides Decides-eqb (kind_words v) (kind_words w)).0 both.1 in
    let first : AreWordsOf v (words_of v) = record { squares = long; colours = refl; kinds = refl } in
    let second : AreWordsOf w (words_of v) = record { squares = wide; colours = sym colours; kinds = sym kinds } in
    sym (men_of-AreWordsOf v (words_of v) first) ∙ men_of-AreWordsOf w (words_of v) second

pub board_same : (v w : List (Option Man)) → v ≡ w → board_eq v w ≡ true
board_same v w same =
    and_from _ _ ((pointwise_decides Decides-eqb (colour_words v) (colour_words w)).1 (ap colour_words same))
    ((pointwise_decides Decides-eqb (kind_words v) (kind_words w)).1 (ap kind_words same))

-- `==` finds two boards of 64 squares equal exactly where their men are.
pub board_agrees : (x y : List (Option Man)) → length x ≡ 64 → length y ≡ 64 → Agrees board_eq x y
board_agrees x y x_long y_long = (same_board x y x_long y_long, board_same x y)

-- A text tells what it is without its suffix.
use Rattle.std.proofs.Common.{◌≡◌, ◌∙◌, ℕ, Bool, true, false, List, [], ◌∷◌, ◌++◌, append-nil}
use Rattle.std.proofs.Common.{ltb, Option, Some, None, codes, if◌then◌else◌, refl, ap}
use Rattle.std.proofs.lemmas.List.Elements.{filter-append}
use Rattle.chess_board.specs.declared.men.Man.{Man}
use Rattle.chess_board.specs.declared.men.Wing.{Wing}
use Rattle.chess_board.specs.declared.men.Wing.TheVariants.{KingSide, QueenSide}
use Rattle.chess_board.specs.inside.KindTests.{is_pawn_kind}
use Rattle.chess_board.specs.Positions.{Setup, man_at}
use Rattle.chess_board.specs.Moves.{Move}
use Rattle.chess_board.specs.Placement.{kind_letter}
use Rattle.chess_board.specs.MakeMove.{after_setup}
use Rattle.chess_board.specs.Attacks.{is_in_check}
use Rattle.chess_board.specs.Castling.{is_castling, wing_of}
use Rattle.chess_moves.specs.Verdicts.{is_mate}
use Rattle.chess_notation.specs.SanText.{is_capture, pawn_text, piece_text, wing_text, man_text, bare_text, suffix_text, san_text}
use Rattle.chess_notation.proofs.TextBytes.{unmarked, kind_unmarked}
use Rattle.chess_notation.proofs.PawnTexts.{unmarked-pawn_form}
use Rattle.chess_notation.proofs.PieceTexts.{tail_text, unmarked-tail_text}

unmarked-letter : (letter : ℕ) (rest : List ℕ) → ltb 44 letter ≡ true → unmarked rest ≡ rest → unmarked (letter ∷ rest) ≡ letter ∷ rest
unmarked-letter letter rest plain same = rw plain (ap (λ bytes. letter ∷ bytes) same)

unmarked-piece_text : (p : Setup) (man : Man) (m : Move) → unmarked (piece_text p man m) ≡ piece_text p man m
unmarked-piece_text p man m = unmarked-letter (kind_letter man.kind) (tail_text p man m) (kind_unmarked man.kind) (unmarked-tail_text p man m)

unmarked-wing_text : (wing : Wing) → unmarked (wing_text wing) ≡ wing_text wing
unmarked-wing_text KingSide = refl
unmarked-wing_text QueenSide = refl

unmarked-man_text : (p : Setup) (place : Option Man) (m : Move) → unmarked (man_text p place m) ≡ man_text p place m
unmarked-man_text p None m = refl
unmarked-man_text p (Some man) m = by_kind (is_pawn_kind man.kind) (is_castling man m) where
  by_kind : (pawn castling : Bool) → unmarked
      (if pawn then pawn_text p man m else (if castling then wing_text (wing_of m.origin m.target) else piece_text p man m))
      ≡ (if pawn then pawn_text p man m else (if castling then wing_text (wing_of m.origin m.target) else piece_text p man m))
  by_kind true castling = unmarked-pawn_form (is_capture p man m) m.origin m.target m.promotion
  by_kind false true = unmarked-wing_text (wing_of m.origin m.target)
  by_kind false false = unmarked-piece_text p man m

pub unmarked-bare_text : (p : Setup) (m : Move) → unmarked (bare_text p m) ≡ bare_text p m
unfolding bare_text
unmarked-bare_text p m = unmarked-man_text p (man_at p.men m.origin) m

unmarked-suffix_text : (p : Setup) → unmarked (suffix_text p) ≡ []
unfolding suffix_text
unmarked-suffix_text p = by_mark (is_mate p) (is_in_check p.men p.side) where
  by_mark : (mate check : Bool) → unmarked (if mate then codes "#" else (if check then codes "+" else [])) ≡ []
  by_mark true check = refl
  by_mark false true = refl
  by_mark false false = refl

pub unmarked-san_text : (p : Setup) (m : Move) → unmarked (san_text p m) ≡ bare_text p m
unfolding san_text
unmarked-san_text p m =
    let bare = bare_text p m in
    let check = suffix_text (after_setup p m) in
    let kept : unmarked bare ≡ bare = unmarked-bare_text p m in
    let gone : unmarked check ≡ [] = unmarked-suffix_text (after_setup p m) in
    filter-append (λ b. ltb 44 b) bare check ∙ ap (λ bytes. bytes ++ unmarked check) kept ∙ ap (λ bytes. bare ++ bytes) gone ∙ append-nil bare

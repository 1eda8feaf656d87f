-- A text has at most six bytes before its suffix, which has one.
use Rattle.std.proofs.Common.{◌≤◌, Bool, true, false, [], length, length-append, Option, Some, None, codes, if◌then◌else◌, arith}
use Rattle.chess_board.specs.declared.men.Man.{Man}
use Rattle.chess_board.specs.declared.men.Wing.{Wing}
use Rattle.chess_board.specs.declared.men.Wing.TheVariants.{KingSide, QueenSide}
use Rattle.chess_board.specs.inside.KindTests.{is_pawn_kind}
use Rattle.chess_board.specs.Positions.{Setup, man_at}
use Rattle.chess_board.specs.Moves.{Move}
use Rattle.chess_board.specs.MakeMove.{after_setup}
use Rattle.chess_board.specs.Attacks.{is_in_check}
use Rattle.chess_board.specs.Castling.{is_castling, wing_of}
use Rattle.chess_moves.specs.Verdicts.{is_mate}
use Rattle.chess_notation.specs.SanText.{is_capture, pawn_text, piece_text, wing_text, man_text, bare_text, suffix_text, san_text}
use Rattle.chess_notation.proofs.PawnTexts.{length-pawn_form}
use Rattle.chess_notation.proofs.PieceTexts.{length-tail_text}

pub length-pawn_text : (p : Setup) (man : Man) (m : Move) → length (pawn_text p man m) ≤ 6
length-pawn_text p man m = length-pawn_form (is_capture p man m) m.origin m.target m.promotion

pub length-piece_text : (p : Setup) (man : Man) (m : Move) → length (piece_text p man m) ≤ 6
length-piece_text p man m = omega (arith, length-tail_text p man m)

pub length-wing_text : (wing : Wing) → length (wing_text wing) ≤ 5
length-wing_text KingSide = omega arith
length-wing_text QueenSide = omega arith

pub length-man_text : (p : Setup) (place : Option Man) (m : Move) → length (man_text p place m) ≤ 6
length-man_text p None m = omega arith
length-man_text p (Some man) m = by_kind (is_pawn_kind man.kind) (is_castling man m) where
  by_kind : (pawn castling : Bool) → length
      (if pawn then pawn_text p man m else (if castling then wing_text (wing_of m.origin m.target) else piece_text p man m)) ≤ 6
  by_kind true castling = length-pawn_text p man m
  by_kind false true = omega (arith, length-wing_text (wing_of m.origin m.target))
  by_kind false false = length-piece_text p man m

pub length-bare_text : (p : Setup) (m : Move) → length (bare_text p m) ≤ 6
unfolding bare_text
length-bare_text p m = length-man_text p (man_at p.men m.origin) m

pub length-suffix_text : (p : Setup) → length (suffix_text p) ≤ 1
unfolding suffix_text
length-suffix_text p = by_mark (is_mate p) (is_in_check p.men p.side) where
  by_mark : (mate check : Bool) → length (if mate then codes "#" else (if check then codes "+" else [])) ≤ 1
  by_mark true check = omega arith
  by_mark false true = omega arith
  by_mark false false = omega arith

pub length-san_text : (p : Setup) (m : Move) → length (san_text p m) ≤ 7
unfolding san_text
length-san_text p m = omega (
  arith,
  length-append (bare_text p m) (suffix_text (after_setup p m)),
  length-bare_text p m,
  length-suffix_text (after_setup p m),
)

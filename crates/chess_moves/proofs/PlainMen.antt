-- Where no pawn stands before its last rank, nor the king at home, no move is special but a capture en passant.
use Rattle.std.proofs.Common.{◌≡◌, ◌<◌, Bool, true, false, not, ◌||◌, eqb, Some, refl, sym, ap, ◌∙◌}
use Rattle.std.proofs.lemmas.Bool.{and_from, and_parts, and_left, and_right, false_from_ne_true, eq-eqb, both_ways}
use Rattle.chess_board.specs.declared.men.Colour.{Colour}
use Rattle.chess_board.specs.declared.men.Kind.{Kind}
use Rattle.chess_board.specs.declared.men.Kind.TheVariants.{Pawn, Knight, Bishop, Rook, Queen, King}
use Rattle.chess_board.specs.declared.men.Man.{Man}
use Rattle.chess_board.specs.declared.men.Wing.{Wing}
use Rattle.chess_board.specs.declared.men.Wing.TheVariants.{KingSide, QueenSide}
use Rattle.chess_board.specs.Attacks.{attacks_as}
use Rattle.chess_board.specs.Castling.{castles, castles_to, king_home}
use Rattle.chess_board.specs.EnPassant.{is_square}
use Rattle.chess_board.specs.Legality.{is_legal}
use Rattle.chess_board.specs.Men.{is_colour, is_kind, is_man, is_of}
use Rattle.chess_board.specs.Moves.{Move}
use Rattle.chess_board.specs.Positions.{Setup, man_at}
use Rattle.chess_board.specs.PseudoLegal.{goes, piece_goes}
use Rattle.chess_board.specs.Squares.{file_gap, rank_of}
use Rattle.chess_board.specs.inside.KindTests.{is_pawn_kind, is_king_kind}
use Rattle.chess_moves.specs.inside.CheckSquares.{is_special}
use Rattle.chess_moves.specs.inside.EscapeSquares.{HasPlainMen}
use Rattle.chess_moves.specs.inside.Shifts.{rank_before}
use Rattle.chess_moves.proofs.CastlingWays.{castles_says}
use Rattle.chess_moves.proofs.KingTargets.{step_is_near}
use Rattle.chess_moves.proofs.MatingMen.{kind_self, unpromoted}
use Rattle.chess_moves.proofs.OwnColours.{same_colour}
use Rattle.chess_moves.proofs.Played.{played_by}
use Rattle.chess_moves.proofs.SpecialMoves.{no_promotion, none_special, plain_pawn, plain_piece, same_side}

module _ (p : Setup) (m : Move) (man : Man) (here : man_at p.men m.origin ≡ Some man) (ok : is_legal p m ≡ true) (on : m.origin < 64)
    (plain_men : HasPlainMen p.side p) where
  pub colour_is : man.colour ≡ p.side
  colour_is = same_side man.colour p.side (played_by p m man here ok).own

  pub is_one : is_man p.side man.kind (man_at p.men m.origin) ≡ true
  is_one = ap (is_man p.side man.kind) here
      ∙ and_from (is_colour p.side man.colour) (is_kind man.kind man.kind) (same_colour p.side man.colour (sym colour_is)) (kind_self man.kind)

  -- The king does not castle: it steps.
  pub royal_step : man.kind ≡ King → attacks_as p.men man.colour King m.origin m.target ≡ true
  royal_step royal =
      let away : eqb m.origin (king_home p.side) ≡ false =
      plain_men.king m.origin on (ap (λ (asked : Kind). is_man p.side asked (man_at p.men m.origin)) (sym royal) ∙ is_one) in
      let none : (wing : Wing) → castles_to p man.colour wing m.origin m.target ≡ false = λ wing.
      false_from_ne_true (castles_to p man.colour wing m.origin m.target) (λ h.
      both_ways (eqb m.origin (king_home p.side)) away
      (eq-eqb m.origin (king_home p.side) ((castles_says p man.colour wing m.origin m.target h).home ∙ ap king_home colour_is))) in
      let stays : castles p man.colour m.origin m.target ≡ false = rw (none KingSide, none QueenSide) refl in
      let gone : (piece_goes p man.colour King m.origin m.target || castles p man.colour m.origin m.target) ≡ true =
      ap (λ kind. goes p man.colour kind m.origin m.target) (sym royal) ∙ (played_by p m man here ok).goes in
      let stepped : piece_goes p man.colour King m.origin m.target ≡ true =
      sym (or_none (piece_goes p man.colour King m.origin m.target) (castles p man.colour m.origin m.target) stays) ∙ gone in
      (and_parts (attacks_as p.men man.colour King m.origin m.target) (not (is_of man.colour (man_at p.men m.target))) stepped).0
    where
      or_none : (x y : Bool) → y ≡ false → (x || y) ≡ x
      or_none true y e = refl
      or_none false y e = e

  pub plain : (man.kind ≡ Pawn → is_square p.target m.target ≡ false) → is_special p man m ≡ false
  plain passed = (elim man.kind as (λ (asked : Kind). man.kind ≡ asked → is_special p man m ≡ false) [
    | Pawn ↦ λ e.
        let before : eqb (rank_of m.origin) (rank_before p.side) ≡ false =
        plain_men.pawns m.origin on (ap (λ (asked : Kind). is_man p.side asked (man_at p.men m.origin)) (sym e) ∙ is_one) in
        let apart : eqb (rank_of m.origin) (rank_before man.colour) ≡ false =
        ap (λ (c : Colour). eqb (rank_of m.origin) (rank_before c)) colour_is ∙ before in
        plain_pawn p man m ok here e (unpromoted p m man here ok e apart) (passed e)
    | Knight ↦ λ e. plain_piece p man m ok here (ap is_pawn_kind e) (ap is_king_kind e)
    | Bishop ↦ λ e. plain_piece p man m ok here (ap is_pawn_kind e) (ap is_king_kind e)
    | Rook ↦ λ e. plain_piece p man m ok here (ap is_pawn_kind e) (ap is_king_kind e)
    | Queen ↦ λ e. plain_piece p man m ok here (ap is_pawn_kind e) (ap is_king_kind e)
    | King ↦ λ e.
        let no_pawn : is_pawn_kind man.kind ≡ false = ap is_pawn_kind e in
        none_special p man m
        (no_promotion man m.target m.promotion (played_by p m man here ok).suits (and_left (is_pawn_kind man.kind) _ no_pawn))
        (and_left (is_pawn_kind man.kind) (is_square p.target m.target) no_pawn)
        (and_right (is_king_kind man.kind) (eqb (file_gap m.origin m.target) 2)
        (step_is_near p.men man.colour m.origin m.target (royal_step e)))
  ]) refl

use Rattle.std.proofs.Common.{refl, sym, ap, ◌∙◌}
use Rattle.std.proofs.lemmas.Bool.{false_from_ne_true}
use Rattle.chess_board.specs.declared.men.Wing.{Wing}
use Rattle.chess_board.specs.declared.men.Wing.TheVariants.{KingSide, QueenSide}
use Rattle.chess_board.specs.Castling.{castles_to, king_home}
use Rattle.chess_moves.proofs.CastlingWays.{castles_says}
use Rattle.chess_moves.proofs.SetBits.{has_none}
use Rattle.chess_moves.proofs.castling_targets.castling_targets.Goals as goal

pub returns-then-info-index : goal.returns-then-info-index
returns-then-info-index c = λ t l.
    let p = c.args.info.now.position.now in
    let king = c.args.info.now.king in
    let none = λ (wing : Wing). false_from_ne_true (castles_to p p.side wing king t) (λ h.
    c.if-info-index.true ((castles_says p p.side wing king t h).home ∙ ap king_home (sym c.requires.info.side)
    ∙ sym (c.index.ensures.number ∙ c.king_home.ensures))) in
    has_none 0 t refl ∙ rw (none KingSide, none QueenSide) refl

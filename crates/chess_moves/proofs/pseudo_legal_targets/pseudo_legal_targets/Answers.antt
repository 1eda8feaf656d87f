use Rattle.std.proofs.Common.{sym, ap, ◌∙◌}
use Rattle.chess_board.specs.declared.men.Kind.TheVariants.{King}
use Rattle.chess_board.specs.PseudoLegal.{goes}
use Rattle.chess_moves.proofs.KingTargets.{king_origin, king_goals}
use Rattle.chess_moves.proofs.PieceTargets.{goes_as_piece}
use Rattle.chess_moves.proofs.SetBits.{has_or}
use Rattle.chess_moves.proofs.SpecialMoves.{is_piece}
use Rattle.chess_moves.proofs.pseudo_legal_targets.pseudo_legal_targets.Goals as goal

pub returns-in-Pawn : goal.returns-in-Pawn
returns-in-Pawn c = λ t l gone.
    let p = c.args.info.now.position.now in
    let man = c.args.mover.man in
    let o = c.args.mover.origin in
    rw (has_or c.pawn_targets.result c.en_passant_targets.result t, c.pawn_targets.ensures t l, c.en_passant_targets.ensures t l)
    (ap (λ kind. goes p man.colour kind o t) (sym c.in-Pawn.is) ∙ gone)

pub returns-in-King : goal.returns-in-King
returns-in-King c = λ t l gone.
    let p = c.args.info.now.position.now in
    let man = c.args.mover.man in
    let o = c.args.mover.origin in
    let at = king_origin c.args.info.now p man o c.requires.info c.requires.mover.on_board c.requires.mover.there c.requires.mover.own c.in-King.is in
    let own = c.requires.mover.own in
    let goals = king_goals p man o c.args.info.now.king c.piece_targets.result c.castling_targets.result t own c.in-King.is at
    (c.piece_targets.ensures t l) (c.castling_targets.ensures t l) in
    goals ∙ ap (λ s. goes p p.side King s t) (sym at) ∙ ap (λ colour. goes p colour King o t) (sym own)
    ∙ ap (λ kind. goes p man.colour kind o t) (sym c.in-King.is) ∙ gone

pub returns-in-Knight : goal.returns-in-Knight
returns-in-Knight c = λ t l gone.
    let man = c.args.mover.man in
    let piece = is_piece man.kind c.in-Knight.is in
    c.piece_targets-in-Knight.ensures t l ∙ sym (goes_as_piece c.args.info.now.position.now man.colour man.kind c.args.mover.origin t piece.0 piece.1) ∙ gone

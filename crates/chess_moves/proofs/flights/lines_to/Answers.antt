use Rattle.std.proofs.Common.{sym, ap, ◌∙◌}
use Rattle.std.proofs.lemmas.Bool.{or_parts}
use Rattle.square_sets.specs.Members.{has}
use Rattle.chess_board.specs.declared.men.Kind.{Kind}
use Rattle.chess_moves.specs.inside.Hits.{hits_as}
use Rattle.chess_moves.specs.inside.Leaps.{leaps}
use Rattle.chess_moves.proofs.EmptyLines.{off_diagonals, off_straights, off_lines}
use Rattle.chess_moves.proofs.Geometry.{knight_back, king_back, capture_mirrored}
use Rattle.chess_moves.proofs.SetBits.{has_or}
use Rattle.chess_moves.proofs.flights.lines_to.Goals as goal

pub returns-in-Pawn : goal.returns-in-Pawn
returns-in-Pawn c = λ taken t l none.
    ap (λ (kind : Kind). hits_as taken c.args.colour kind t c.args.square) c.in-Pawn.is
    ∙ sym (capture_mirrored c.args.colour t c.args.square)
    ∙ ap (λ leap. leaps leap c.args.square t) (sym c.capture_back.ensures) ∙ sym (c.leap.ensures t l) ∙ none

pub returns-in-Knight : goal.returns-in-Knight
returns-in-Knight c = λ taken t l none.
    ap (λ (kind : Kind). hits_as taken c.args.colour kind t c.args.square) c.in-Knight.is ∙ sym (knight_back t c.args.square)
    ∙ sym (c.leap-in-Knight.ensures t l) ∙ none

pub returns-in-Bishop : goal.returns-in-Bishop
returns-in-Bishop c = λ taken t l none.
    ap (λ (kind : Kind). hits_as taken c.args.colour kind t c.args.square) c.in-Bishop.is
    ∙ off_diagonals taken c.args.square t (sym (c.diagonals.ensures t l) ∙ none)

pub returns-in-Rook : goal.returns-in-Rook
returns-in-Rook c = λ taken t l none.
    ap (λ (kind : Kind). hits_as taken c.args.colour kind t c.args.square) c.in-Rook.is
    ∙ off_straights taken c.args.square t (sym (c.straights.ensures t l) ∙ none)

pub returns-in-Queen : goal.returns-in-Queen
returns-in-Queen c = λ taken t l none.
    let both = or_parts (has c.diagonals-in-Queen.result t) (has c.straights-in-Queen.result t)
    (sym (has_or c.diagonals-in-Queen.result c.straights-in-Queen.result t) ∙ none) in
    ap (λ (kind : Kind). hits_as taken c.args.colour kind t c.args.square) c.in-Queen.is
    ∙ off_lines taken c.args.square t (sym (c.diagonals-in-Queen.ensures t l) ∙ both.0) (sym (c.straights-in-Queen.ensures t l) ∙ both.1)

pub returns-in-King : goal.returns-in-King
returns-in-King c = λ taken t l none.
    ap (λ (kind : Kind). hits_as taken c.args.colour kind t c.args.square) c.in-King.is ∙ sym (king_back t c.args.square)
    ∙ sym (c.leap-in-King.ensures t l) ∙ none

use Rattle.std.proofs.Common.{sym, ap, ◌∙◌}
use Rattle.square_sets.specs.Members.{has}
use Rattle.chess_board.specs.declared.men.Kind.{Kind}
use Rattle.chess_moves.specs.inside.Hits.{hits_as}
use Rattle.chess_moves.proofs.SetParts.{joined}
use Rattle.chess_moves.proofs.pseudo_legal_targets.attacks_of.Goals as goal

pub returns-in-Queen : goal.returns-in-Queen
returns-in-Queen c = λ t l.
    joined c.bishop_attacks-in-Queen.result c.rook_attacks-in-Queen.result t _ _
    (c.bishop_attacks-in-Queen.ensures t l) (c.rook_attacks-in-Queen.ensures t l)
    ∙ ap (λ (asked : Kind). hits_as (has c.args.occupied) c.args.man.colour asked c.args.origin t) (sym c.in-Queen.is)

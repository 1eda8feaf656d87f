use Rattle.std.proofs.Common.{sym, ap, ◌∙◌, length}
use Rattle.chess_moves.proofs.Walks.{legal_to}
use Rattle.chess_moves.proofs.perft_count.count_king.Goals as goal

pub returns-clause-count : goal.returns-clause-count
returns-clause-count c =
    let king = c.king_of-king.result in
    rw c.king_of-king.ensures.king at (c.count_ways.ensures.count king.origin
    ∙ sym (ap length (legal_to c.args.info.now.position.now king.man king.origin c.targets_of_king.result c.targets_of_king.ensures)))

pub targets_of_king-requires-clause-king : goal.targets_of_king-requires-clause-king
targets_of_king-requires-clause-king c = ap (λ mover. mover.man.kind) c.king_of-king.ensures.king

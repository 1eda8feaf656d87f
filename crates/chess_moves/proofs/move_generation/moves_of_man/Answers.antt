use Rattle.std.proofs.Common.{filter, sym, ap, ◌∙◌}
use Rattle.square_sets.specs.Members.{members}
use Rattle.chess_board.specs.Legality.{is_legal}
use Rattle.chess_moves.specs.inside.Listing.{moves_to}
use Rattle.chess_moves.proofs.Walks.{legal_to, all_ways}
use Rattle.chess_moves.proofs.move_generation.moves_of_man.Goals as goal

pub returns-clause-moves : goal.returns-clause-moves
returns-clause-moves c =
    let p = c.args.info.now.position.now in
    let mover = c.mover_on-mover.result in
    all_ways mover.man mover.origin (members c.targets_from.result)
    ∙ sym (legal_to p mover.man mover.origin c.targets_from.result c.targets_from.ensures)
    ∙ ap (λ o. filter (is_legal p) (moves_to o 64)) c.mover_on-mover.ensures.origin

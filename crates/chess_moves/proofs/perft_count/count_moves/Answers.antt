use Rattle.std.proofs.Common.{ap, arith, length}
use Rattle.chess_board.specs.declared.men.Kind.TheVariants.{Pawn, Knight, Bishop, Rook, Queen}
use Rattle.chess_moves.specs.inside.Listing.{legal_moves}
use Rattle.chess_moves.proofs.Few.{few_legal}
use Rattle.chess_moves.proofs.KingCounts.{one_square, king_alone, many_of_king}
use Rattle.chess_moves.proofs.Tallies.{many_by_kinds, men_of_kind}
use Rattle.chess_moves.proofs.perft_count.count_moves.Goals as goal

pub count_pawns-requires-clause-men : goal.count_pawns-requires-clause-men
count_pawns-requires-clause-men c = men_of_kind c.legality_info_of-info.result.position.now c.legality_info_of-info.result.side Pawn c.men-pawns.result
    c.legality_info_of-info.ensures.info.side c.men-pawns.ensures

pub count_from-requires-clause-men : goal.count_from-requires-clause-men
count_from-requires-clause-men c = men_of_kind c.legality_info_of-info.result.position.now c.legality_info_of-info.result.side Knight c.men-knights.result
    c.legality_info_of-info.ensures.info.side c.men-knights.ensures

pub count_from-requires-2-clause-men : goal.count_from-requires-2-clause-men
count_from-requires-2-clause-men c = men_of_kind c.legality_info_of-info.result.position.now c.legality_info_of-info.result.side Bishop
    c.men-bishops.result c.legality_info_of-info.ensures.info.side c.men-bishops.ensures

pub count_from-requires-3-clause-men : goal.count_from-requires-3-clause-men
count_from-requires-3-clause-men c = men_of_kind c.legality_info_of-info.result.position.now c.legality_info_of-info.result.side Rook c.men-rooks.result
    c.legality_info_of-info.ensures.info.side c.men-rooks.ensures

pub count_from-requires-4-clause-men : goal.count_from-requires-4-clause-men
count_from-requires-4-clause-men c = men_of_kind c.legality_info_of-info.result.position.now c.legality_info_of-info.result.side Queen c.men-queens.result
    c.legality_info_of-info.ensures.info.side c.men-queens.ensures

pub returns-clause-count : goal.returns-clause-count
returns-clause-count c =
    let kinds = many_by_kinds c.legality_info_of-info.result.position.now c.legality_info_of-info.result.side c.legality_info_of-info.result.own
    c.men-pawns.result c.men-knights.result c.men-bishops.result c.men-rooks.result c.men-queens.result
    (one_square c.legality_info_of-info.result.king) c.legality_info_of-info.ensures.info.side c.legality_info_of-info.ensures.info.own
    c.men-pawns.ensures c.men-knights.ensures c.men-bishops.ensures c.men-rooks.ensures c.men-queens.ensures
    (king_alone c.legality_info_of-info.result c.legality_info_of-info.result.position.now c.legality_info_of-info.ensures.info) in
    omega (
      arith,
      kinds,
      c.count_pawns.ensures.count,
      c.count_from.ensures.count,
      c.count_from-2.ensures.count,
      c.count_from-3.ensures.count,
      c.count_from-4.ensures.count,
      c.count_king.ensures.count,
      many_of_king c.legality_info_of-info.result.position.now c.legality_info_of-info.result.king c.legality_info_of-info.ensures.info.on_board,
      ap (λ p. length (legal_moves p)) c.legality_info_of-info.ensures.position,
    )

pub returns-clause-few : goal.returns-clause-few
returns-clause-few c =
    let kinds = many_by_kinds c.legality_info_of-info.result.position.now c.legality_info_of-info.result.side c.legality_info_of-info.result.own
    c.men-pawns.result c.men-knights.result c.men-bishops.result c.men-rooks.result c.men-queens.result
    (one_square c.legality_info_of-info.result.king) c.legality_info_of-info.ensures.info.side c.legality_info_of-info.ensures.info.own
    c.men-pawns.ensures c.men-knights.ensures c.men-bishops.ensures c.men-rooks.ensures c.men-queens.ensures
    (king_alone c.legality_info_of-info.result c.legality_info_of-info.result.position.now c.legality_info_of-info.ensures.info) in
    omega (
      arith,
      kinds,
      c.count_pawns.ensures.count,
      c.count_from.ensures.count,
      c.count_from-2.ensures.count,
      c.count_from-3.ensures.count,
      c.count_from-4.ensures.count,
      c.count_king.ensures.count,
      many_of_king c.legality_info_of-info.result.position.now c.legality_info_of-info.result.king c.legality_info_of-info.ensures.info.on_board,
      few_legal c.legality_info_of-info.result.position.now c.legality_info_of-info.ensures.info.sound,
    )

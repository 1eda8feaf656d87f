use Rattle.std.proofs.Common.{refl}
use Rattle.chess_board.specs.declared.men.Kind.TheVariants.{Pawn, Knight, Bishop, Rook, Queen, King}
use Rattle.chess_board.specs.inside.KindTests.{is_pawn_kind, is_king_kind}
use Rattle.chess_moves.specs.inside.SideMen.{is_knight_kind, is_diagonal_kind, is_straight_kind}
use Rattle.chess_moves.proofs.SideSets.{set_of_kind, set_of_kinds, diagonal_kinds, straight_kinds}
use Rattle.chess_moves.proofs.side_men.side_men_of.Goals as goal

pub returns : goal.returns
returns c = record {
  pawns = set_of_kind Pawn is_pawn_kind c.args.colour c.args.position.now.men c.men.result (λ k. refl) c.men.ensures;
  knights = set_of_kind Knight is_knight_kind c.args.colour c.args.position.now.men c.men-2.result (λ k. refl) c.men-2.ensures;
  diagonal = set_of_kinds Bishop Queen is_diagonal_kind c.args.colour c.args.position.now.men c.men-3.result c.men-queens.result
      diagonal_kinds c.men-3.ensures c.men-queens.ensures;
  straight = set_of_kinds Rook Queen is_straight_kind c.args.colour c.args.position.now.men c.men-4.result c.men-queens.result
      straight_kinds c.men-4.ensures c.men-queens.ensures;
  king = set_of_kind King is_king_kind c.args.colour c.args.position.now.men c.men-5.result (λ k. refl) c.men-5.ensures;
}

use Rattle.chess_board.specs.inside.KindTests.{is_pawn_kind, is_king_kind}
use Rattle.chess_moves.specs.inside.SideMen.{is_knight_kind, is_one, is_diagonal_kind, is_straight_kind}
use Rattle.chess_moves.proofs.Moved.{stands_without, is_one-not_of}
use Rattle.chess_moves.proofs.side_men.without.Goals as goal

pub returns : goal.returns
returns c = λ men by place len sets none. record {
  pawns = stands_without (is_one by is_pawn_kind) men c.args.side_men.now.pawns c.without.result c.args.square place len c.requires
      c.without.ensures (is_one-not_of by is_pawn_kind place none) sets.pawns;
  knights = stands_without (is_one by is_knight_kind) men c.args.side_men.now.knights c.without-2.result c.args.square place len c.requires
      c.without-2.ensures (is_one-not_of by is_knight_kind place none) sets.knights;
  diagonal = stands_without (is_one by is_diagonal_kind) men c.args.side_men.now.diagonal c.without-3.result c.args.square place len c.requires
      c.without-3.ensures (is_one-not_of by is_diagonal_kind place none) sets.diagonal;
  straight = stands_without (is_one by is_straight_kind) men c.args.side_men.now.straight c.without-4.result c.args.square place len c.requires
      c.without-4.ensures (is_one-not_of by is_straight_kind place none) sets.straight;
  king = stands_without (is_one by is_king_kind) men c.args.side_men.now.king c.without-5.result c.args.square place len c.requires
      c.without-5.ensures (is_one-not_of by is_king_kind place none) sets.king;
}

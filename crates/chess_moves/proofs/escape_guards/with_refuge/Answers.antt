use Rattle.chess_board.specs.declared.men.Kind.TheVariants.{Pawn, Knight, Bishop, Rook, Queen, King}
use Rattle.chess_moves.proofs.GuardedRefuges.{guarded_both}
use Rattle.chess_moves.proofs.escape_guards.with_refuge.Goals as goal

pub returns : goal.returns
returns c =
    let p = c.args.position.now in
    let before = c.requires.guards in
    record {
      pawn = guarded_both p Pawn _ _ before.pawn c.pawns_guards-pawn.ensures;
      knight = guarded_both p Knight _ _ before.knight c.guards_of_piece-knight.ensures;
      bishop = guarded_both p Bishop _ _ before.bishop c.guards_of_piece-bishop.ensures;
      rook = guarded_both p Rook _ _ before.rook c.guards_of_piece-rook.ensures;
      queen = guarded_both p Queen _ _ before.queen c.guards_of_piece-queen.ensures;
      king = guarded_both p King _ _ before.king c.kings_guards-king.ensures;
    }

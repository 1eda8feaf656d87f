use Rattle.std.proofs.Common.{bit_and, refl, sym}
use Rattle.chess_moves.proofs.Members.{no_members}
use Rattle.chess_moves.proofs.SetBits.{has_and}
use Rattle.chess_moves.proofs.SomeMen.{IsPart, legal_of_some, own_some}
use Rattle.chess_moves.proofs.move_generation.legal_moves_of.Goals as goal

pub invariant_of-result : goal.invariant_of-result
invariant_of-result c =
    let info = c.legality_info_of-info in
    let part : IsPart (bit_and info.result.own c.args.men) info.result.own c.args.men = λ s l. has_and info.result.own c.args.men s in
    let start = c.squares.ensures in
    record {
      info = info.ensures.info;
      origins = rw start (own_some info.result.position.now info.result.own c.args.men (bit_and info.result.own c.args.men) info.ensures.info.own part);
      on_board = c.king_of.ensures.mover.on_board;
    }

pub returns : goal.returns
returns c =
    let info = c.legality_info_of-info in
    let part : IsPart (bit_and info.result.own c.args.men) info.result.own c.args.men = λ s l. has_and info.result.own c.args.men s in
    let h = rw info.ensures.position at info.ensures.info in
    rw (c.squares.ensures, no_members 0 refl, info.ensures.position)
    (sym (legal_of_some c.args.position.now info.result.own c.args.men (bit_and info.result.own c.args.men) h.own part))

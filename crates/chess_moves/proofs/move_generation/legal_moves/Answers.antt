use Rattle.std.proofs.Common.{refl, sym}
use Rattle.chess_moves.proofs.Few.{few_legal}
use Rattle.chess_moves.proofs.Members.{no_members}
use Rattle.chess_moves.proofs.Walks.{legal_of_men, own_all}
use Rattle.chess_moves.proofs.move_generation.legal_moves.Goals as goal

pub invariant_of-result : goal.invariant_of-result
invariant_of-result c =
    let info = c.legality_info_of-info in
    let start = c.squares.ensures in
    record {
      info = info.ensures.info;
      origins = rw start (own_all info.result.position.now info.result.own info.ensures.info.own);
      on_board = c.king_of.ensures.mover.on_board;
    }

pub returns-clause-moves : goal.returns-clause-moves
returns-clause-moves c =
    let info = c.legality_info_of-info in
    let h = rw info.ensures.position at info.ensures.info in
    rw (c.squares.ensures, no_members 0 refl, info.ensures.position) (sym (legal_of_men c.args.position.now info.result.own h.own))

pub returns-clause-few : goal.returns-clause-few
returns-clause-few c =
    let info = c.legality_info_of-info in
    let h = rw info.ensures.position at info.ensures.info in
    rw (c.squares.ensures, no_members 0 refl, info.ensures.position)
    (rw (← legal_of_men c.args.position.now info.result.own h.own) (few_legal c.args.position.now h.sound))

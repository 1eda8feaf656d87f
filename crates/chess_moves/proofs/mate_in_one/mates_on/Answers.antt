use Rattle.std.proofs.Common.{sym, ap, ◌∙◌, arith, bit_and}
use Rattle.std.specs.List.{list_any, list_all}
use Rattle.square_sets.specs.Members.{members}
use Rattle.chess_board.specs.MakeMove.{after_setup}
use Rattle.chess_board.specs.Legality.{is_legal}
use Rattle.chess_moves.specs.Verdicts.{is_mate}
use Rattle.chess_moves.proofs.Narrowed.{fewer_squares, none_mates, narrowed_mates, narrowed_legal}
use Rattle.chess_moves.proofs.Walks.{all_ways, no_moves}
use Rattle.chess_moves.proofs.mate_in_one.mates_on.Goals as goal

pub returns-then-squares-eq0-clause-mates : goal.returns-then-squares-eq0-clause-mates
returns-then-squares-eq0-clause-mates c =
    let p = c.args.info.now.position.now in
    let man = c.args.mover.man in
    let o = c.args.mover.origin in
    let set = c.squares_that_cover-squares.result in
    let quiet = fewer_squares p o c.args.candidates set c.requires.candidates c.squares_that_cover-squares.ensures in
    sym (none_mates p man o set 0 quiet c.if-squares-eq0.true)

pub loop-left-init : goal.loop-left-init
loop-left-init c =
    let p = c.args.info.now.position.now in
    let man = c.args.mover.man in
    let o = c.args.mover.origin in
    let set = c.squares_that_cover-squares.result in
    let quiet = fewer_squares p o c.args.candidates set c.requires.candidates c.squares_that_cover-squares.ensures in
    let targets = c.targets_from.result in
    let all = all_ways man o (members (bit_and set targets)) in
    record {
      any = ap (list_any (λ m. is_mate (after_setup p m))) all ∙ narrowed_mates p man o set targets quiet c.targets_from.ensures;
      legal = ap (list_all (is_legal p)) all ∙ narrowed_legal p man o set targets quiet c.targets_from.ensures;
      on_board = c.requires.mover.on_board;
    }

pub returns-clause-mates : goal.returns-clause-mates
returns-clause-mates c =
    let left = c.loop-left.left in
    ap (list_any (λ m. is_mate (after_setup c.args.info.now.position.now m)))
    (sym (no_moves left.promotion left.mover.man left.mover.origin left.targets (omega (arith, c.loop-left-test.false))))
    ∙ c.loop-left.invariant.any

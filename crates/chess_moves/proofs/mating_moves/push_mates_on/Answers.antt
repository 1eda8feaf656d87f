use Rattle.std.proofs.Common.{◌++◌, List, [], ◌∷◌, filter, length, sym, ap, ◌∙◌, arith, append-nil, length-append, bit_and}
use Rattle.std.specs.List.{list_all}
use Rattle.square_sets.specs.Members.{members}
use Rattle.chess_board.specs.MakeMove.{after_setup}
use Rattle.chess_board.specs.Legality.{is_legal}
use Rattle.chess_board.specs.Moves.{Move}
use Rattle.chess_moves.specs.Verdicts.{is_mate}
use Rattle.chess_moves.specs.inside.MoveGeneration.{man_moves}
use Rattle.chess_moves.proofs.KeptMoves.{all_others, filter_first, filter_kept}
use Rattle.chess_moves.proofs.MatingMoves.{no_mates, narrowed_list}
use Rattle.chess_moves.proofs.Narrowed.{fewer_squares, narrowed_legal}
use Rattle.chess_moves.proofs.Walks.{all_ways, no_moves}
use Rattle.chess_moves.proofs.mating_moves.push_mates_on.Goals as goal

pub returns-then-squares-eq0-clause-mates : goal.returns-then-squares-eq0-clause-mates
returns-then-squares-eq0-clause-mates c =
    let p = c.args.info.now.position.now in
    let man = c.args.mover.man in
    let o = c.args.mover.origin in
    let set = c.squares_that_cover-squares.result in
    let quiet = fewer_squares p o c.args.candidates set c.requires.candidates c.squares_that_cover-squares.ensures in
    sym (ap (λ (ms : List Move). c.args.out.now.items ++ ms) (no_mates p man o set 0 quiet c.if-squares-eq0.true)
    ∙ append-nil c.args.out.now.items)

pub loop-left-init : goal.loop-left-init
loop-left-init c =
    let p = c.args.info.now.position.now in
    let man = c.args.mover.man in
    let o = c.args.mover.origin in
    let set = c.squares_that_cover-squares.result in
    let quiet = fewer_squares p o c.args.candidates set c.requires.candidates c.squares_that_cover-squares.ensures in
    let targets = c.targets_from.result in
    let all = all_ways man o (members (bit_and set targets)) in
    let mates = ap (filter (λ m. is_mate (after_setup p m))) all ∙ narrowed_list p man o set targets quiet c.targets_from.ensures in
    record {
      kept = ap (λ (ms : List Move). c.args.out.now.items ++ ms) mates;
      room = omega (arith, c.requires.room, ap length mates);
      legal = ap (list_all (is_legal p)) all ∙ narrowed_legal p man o set targets quiet c.targets_from.ensures;
      on_board = c.requires.mover.on_board;
    }

pub returns-clause-mates : goal.returns-clause-mates
returns-clause-mates c =
    let left = c.loop-left.left in
    let mates = λ (m : Move). is_mate (after_setup c.args.info.now.position.now m) in
    sym (append-nil c.loop-left.out.items)
    ∙ ap (λ (ms : List Move). c.loop-left.out.items ++ filter mates ms)
    (sym (no_moves left.promotion left.mover.man left.mover.origin left.targets (omega (arith, c.loop-left-test.false))))
    ∙ c.loop-left.invariant.kept

pub loop-left-preserved-then-is_mated : goal.loop-left-preserved-then-is_mated
loop-left-preserved-then-is_mated c =
    let p = c.args.info.now.position.now in
    let m = c.take-m.result in
    let list = c.loop-left.out.items in
    let left = man_moves c.loop-left.left in
    let rest = man_moves c.take-m.new.self in
    let step = c.take-m.ensures.moves in
    let mates = λ (m : Move). is_mate (after_setup p m) in
    let mated = sym (c.is_mated.ensures ∙ ap is_mate c.after.ensures) ∙ c.if-is_mated.true in
    let first = filter_first mates m left rest step mated in
    record {
      kept = filter_kept mates m left rest list c.push.new.self.items _ step mated c.push.ensures.items c.loop-left.invariant.kept;
      room = omega (arith, c.loop-left.invariant.room, ap length first, ap length c.push.ensures.items, length-append list (m ∷ []));
      legal = all_others (is_legal p) m left rest step c.loop-left.invariant.legal;
      on_board = omega (arith, c.loop-left.invariant.on_board, ap (λ mover. mover.origin) c.take-m.ensures.mover);
    }

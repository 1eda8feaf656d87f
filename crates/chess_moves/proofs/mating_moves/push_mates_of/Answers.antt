use Rattle.std.proofs.Common.{◌++◌, List, sym, ap, ◌∙◌, append-nil, bit_and}
use Rattle.chess_board.specs.Moves.{Move}
use Rattle.chess_moves.proofs.MatingMoves.{no_mates}
use Rattle.chess_moves.proofs.Narrowed.{both_squares, gone_squares, mate_squares}
use Rattle.chess_moves.proofs.mating_moves.push_mates_of.Goals as goal

pub returns-then-covering-eq0-clause-mates : goal.returns-then-covering-eq0-clause-mates
returns-then-covering-eq0-clause-mates c =
    let p = c.args.info.now.position.now in
    let man = c.args.mover.man in
    let o = c.args.mover.origin in
    let lasting = c.squares_at_lasting.result in
    let goals = c.pseudo_legal_targets.result in
    let none = no_mates p man o (bit_and lasting goals) 0
    (gone_squares p man o lasting goals c.requires.mover.there c.squares_at_lasting.ensures c.pseudo_legal_targets.ensures) c.if-covering-eq0.true in
    sym (ap (λ (ms : List Move). c.args.out.now.items ++ ms) none ∙ append-nil c.args.out.now.items)

pub returns-then-candidates-eq0-clause-mates : goal.returns-then-candidates-eq0-clause-mates
returns-then-candidates-eq0-clause-mates c =
    let p = c.args.info.now.position.now in
    let man = c.args.mover.man in
    let o = c.args.mover.origin in
    let lasting = c.squares_at_lasting.result in
    let goals = c.pseudo_legal_targets.result in
    let checks = c.check_targets.result in
    let none = no_mates p man o (bit_and (bit_and lasting goals) checks) 0
    (both_squares p o (bit_and lasting goals) checks
    (gone_squares p man o lasting goals c.requires.mover.there c.squares_at_lasting.ensures c.pseudo_legal_targets.ensures)
    (mate_squares p o checks c.check_targets.ensures)) c.if-candidates-eq0.true in
    sym (ap (λ (ms : List Move). c.args.out.now.items ++ ms) none ∙ append-nil c.args.out.now.items)

pub push_mates_on-requires-clause-candidates : goal.push_mates_on-requires-clause-candidates
push_mates_on-requires-clause-candidates c =
    let p = c.args.info.now.position.now in
    let man = c.args.mover.man in
    let o = c.args.mover.origin in
    let lasting = c.squares_at_lasting.result in
    let goals = c.pseudo_legal_targets.result in
    let checks = c.check_targets.result in
    both_squares p o (bit_and lasting goals) checks
    (gone_squares p man o lasting goals c.requires.mover.there c.squares_at_lasting.ensures c.pseudo_legal_targets.ensures)
    (mate_squares p o checks c.check_targets.ensures)

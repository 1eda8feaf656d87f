use Rattle.std.proofs.Common.{◌∙◌, sym}
use Rattle.std.specs.List.{list_any}
use Rattle.chess_problems.specs.SameProblems.{is_same_move}
use Rattle.mate_claims.proofs.MovesTested.{all_more, all_whole, not_here}
use Rattle.mate_claims.proofs.claim_verdicts.are_among.Goals as goal

pub loop-m-preserved : goal.loop-m-preserved
loop-m-preserved c =
    all_more (λ m. list_any (is_same_move m) c.args.others.now) c.args.moves.now c.loop-m.m-index c.m-item.result c.loop-m-test.true c.m-item.is
    c.loop-m.invariant (sym c.is_among.ensures ∙ c.if-not-is_among.false)

pub returns-then-not-is_among : goal.returns-then-not-is_among
returns-then-not-is_among c =
    not_here (λ m. list_any (is_same_move m) c.args.others.now) c.args.moves.now c.loop-m.m-index c.m-item.result c.loop-m-test.true c.m-item.is
    (sym c.is_among.ensures ∙ c.if-not-is_among.true)

pub returns : goal.returns
returns c =
    all_whole (λ m. list_any (is_same_move m) c.args.others.now) c.args.moves.now c.loop-m.m-index c.loop-m-test.false c.loop-m.invariant

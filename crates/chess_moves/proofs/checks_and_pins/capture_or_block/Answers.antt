use Rattle.std.proofs.Common.{◌∙◌, ap, sym, ◌||◌, eqb}
use Rattle.std.proofs.Math.Bool.{and-true}
use Rattle.square_sets.specs.Members.{has}
use Rattle.chess_moves.specs.inside.LegalityInfo.{gets_through}
use Rattle.chess_moves.proofs.Kept.{kept_from, has_all, none_left}
use Rattle.chess_moves.proofs.checks_and_pins.capture_or_block.Goals as goal

pub loop-a-init : goal.loop-a-init
loop-a-init c = λ t l. let start = c.into_iter-a-iterator.ensures.into_iter_gives ∙ c.squares-a-items.ensures in
    let all = has_all t l in rw (start, all)

pub between-requires : goal.between-requires
between-requires c = (c.in-Some.ensures.steps.lowest.on_board, c.requires)

pub with-allowed-requires : goal.with-allowed-requires
with-allowed-requires c = c.in-Some.ensures.steps.lowest.on_board

pub loop-a-preserved : goal.loop-a-preserved
loop-a-preserved c = λ t l.
    kept_from c.loop-a.allowed c.with-allowed.result c.loop-a.a-iterator c.in-Some.a c.next.new.self c.args.king t c.in-Some.ensures.steps
    (c.with-allowed.ensures t l ∙ ap (λ x. eqb t c.in-Some.a || x) (c.between.ensures t l))
    ∙ c.loop-a.invariant t l

pub returns : goal.returns
returns c = λ t l.
    let none = none_left c.loop-a.a-iterator (λ a. gets_through a c.args.king t) c.in-None.ensures.steps.0 in
    sym (and-true (has c.loop-a.allowed t)) ∙ (rw none at (c.loop-a.invariant t l))

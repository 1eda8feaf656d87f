use Rattle.std.proofs.Common.{◌∙◌, ap, filter}
use Rattle.move_words.specs.Patterns.{fits}
use Rattle.move_words.specs.inside.Counting.{with_moves}
use Rattle.move_words.specs.declared.naming.Named.TheVariants.{No}
use Rattle.move_words.proofs.Counted.{counted, none_next, one_legal}
use Rattle.move_words.proofs.naming.named_by_pattern.Goals as goal

pub loop-m-init : goal.loop-m-init
loop-m-init c =
    ap (λ ms. with_moves No (filter (fits c.args.position.now c.args.pattern.now) ms)) (c.into_iter-m-iterator.ensures.into_iter_gives ∙ c.legal_moves-m-items.ensures.moves)
    ∙ counted (filter (fits c.args.position.now c.args.pattern.now) _)

pub returns-clause-legal : goal.returns-clause-legal
returns-clause-legal c =
    one_legal c.legal_listed.ensures c.args.position.now (fits c.args.position.now c.args.pattern.now) c.loop-m.named
    (none_next (fits c.args.position.now c.args.pattern.now) c.loop-m.named _ c.loop-m.m-iterator c.in-None.ensures.steps.0 c.loop-m.invariant)

use Rattle.std.proofs.Common.{sym, ◌∙◌}
use Rattle.mate_tree.proofs.NoMovesLeft.{no_bound, none_in_none}
use Rattle.mate_tree.proofs.continuations.soonest.Goals as goal

pub returns-in-None-clause-truth : goal.returns-in-None-clause-truth
returns-in-None-clause-truth c =
    sym (none_in_none c.args.left c.args.position.now (no_bound c.args.left c.requires (sym c.new.ensures ∙ c.in-None.is)))

use Rattle.std.proofs.Common.{sym, subst}
use Rattle.chess_problems.specs.Outcomes.{AreLegal}
use Rattle.mate_tree.proofs.LegalReplies.{mates_legal}
use Rattle.mate_tree.proofs.variations.mates.Goals as goal

pub returns-clause-legal : goal.returns-clause-legal
returns-clause-legal c = subst (AreLegal c.args.position.now) (sym c.push_mating_moves.ensures) (mates_legal c.args.position.now)

use Rattle.std.proofs.Common.{[], subst, sym}
use Rattle.text_lines.specs.TakenLines.{HasTaken}
use Rattle.text_lines.proofs.LinesTaken.{none_taken}
use Rattle.text_lines.proofs.taken_lines.TakenLines.new.Goals as goal

pub returns-clause-none : goal.returns-clause-none
returns-clause-none g c =
    subst (λ left. HasTaken (g.I.Input.left c.args.input) left []) (sym c.by_pieces.ensures.left) (none_taken (g.I.Input.left c.args.input))

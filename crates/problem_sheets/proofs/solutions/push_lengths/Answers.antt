use Rattle.std.proofs.Common.{codes, decimal}
use Rattle.problem_sheets.specs.Solutions.{lengths_text}
use Rattle.problem_sheets.proofs.TextsInTurn.{two_counted}
use Rattle.problem_sheets.proofs.solutions.push_lengths.Goals as goal

pub returns : goal.returns
unfolding lengths_text
returns c =
    two_counted c.args.text.now.items (codes " <i>short: #") (decimal c.args.dm) (codes ", not #") (decimal c.args.bound) (codes "</i>") _ _ _
    c.in_ok-push_counted.ensures c.in_ok-push_counted-2.ensures c.in_ok-extend_from_slice.ensures.items

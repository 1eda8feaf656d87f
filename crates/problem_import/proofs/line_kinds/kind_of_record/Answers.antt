use Rattle.std.proofs.Common.{◌∙◌, sym}
use Rattle.problem_import.proofs.ClearClaims.{unclear_line}
use Rattle.problem_import.proofs.line_kinds.kind_of_record.Goals as goal

pub returns-else-branch-clause-mendable : goal.returns-else-branch-clause-mendable
returns-else-branch-clause-mendable c = λ is plain. unclear_line c.args.position.now c.args.line.now c.requires.position
    (sym c.if-branch.false ∙ c.in_ok-have_clear_claims.ensures)

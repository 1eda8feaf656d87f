use Rattle.std.proofs.Common.{rules, refl, ap, sym}
use Rattle.problem_import.specs.inside.LineRecords.{IsReadBy}
use Rattle.problem_import.proofs.Imports.{refused_line_fault}
use Rattle.problem_import.proofs.line_kinds.read_by.Goals as goal

pub returns-in-Ok-clause-reads : goal.returns-in-Ok-clause-reads
unfolding IsReadBy
returns-in-Ok-clause-reads c =
    (c.in-Ok.record, c.in-Ok.ensures.reads, sym (ap (λ x. x.position) c.record.view_is), sym (ap (λ x. x.bound) c.record.view_is), refl)

pub returns-else-eq-clause-none : goal.returns-else-eq-clause-none
returns-else-eq-clause-none c = λ is_record. absurd (refused_line_fault c.records_clear.ensures c.args.line.now c.in-Err.fault _
    (search rules) c.in-Err.ensures.refused is_record)

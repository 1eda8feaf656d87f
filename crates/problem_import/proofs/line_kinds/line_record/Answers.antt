use Rattle.std.proofs.Common.{◌≡◌, ◌∙◌, refl, subst, sym}
use Rattle.problem_import.specs.inside.LineRecords.{IsReadBy}
use Rattle.problem_import.proofs.LineRecords.{found_said, found_unsaid}
use Rattle.problem_import.proofs.line_kinds.line_record.Goals as goal

pub returns-then-get-ne15-clause-found : goal.returns-then-get-ne15-clause-found
returns-then-get-ne15-clause-found c =
    found_said c.says_one.ensures c.args.line.now 15 c.in-Ok.first (subst (λ n. IsReadBy c.args.line.now n c.in-Ok.first) c.long_bound.ensures
    (rw c.in-Ok.is at c.in_ok-first.ensures.reads)) (λ same. c.if-get-ne15.true (c.get.ensures.moves ∙ same))

pub returns-then-get-eq15-clause-found : goal.returns-then-get-eq15-clause-found
returns-then-get-eq15-clause-found c =
    found_said c.says_one.ensures c.args.line.now 3 c.in-Ok-2.again (subst (λ n. IsReadBy c.args.line.now n c.in-Ok-2.again) c.some_bound.ensures
    (rw c.in-Ok-2.is at c.in_ok-again.ensures.reads))
    (λ same. let no : 15 ≡ 3 = sym c.if-get-eq15.true ∙ c.get-2.ensures.moves ∙ same in cc)

pub returns-clause-found : goal.returns-clause-found
returns-clause-found c =
    found_unsaid c.says_one.ensures c.args.line.now c.long_bound.result c.in-Ok.first c.in-Ok-2.again _
    (rw c.in-Ok.is at c.in_ok-first.ensures.reads)
    (subst (λ n. IsReadBy c.args.line.now n c.in-Ok-2.again) c.some_bound.ensures (rw c.in-Ok-2.is at c.in_ok-again.ensures.reads))
    (λ same. c.if-get-eq15.false (c.get-2.ensures.moves ∙ sym same ∙ sym c.get.ensures.moves ∙ c.if-get-ne15.false)) refl refl refl

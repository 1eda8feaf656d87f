use Rattle.std.proofs.Common.{◌∙◌, ℕ, List}
use Rattle.std.specs.Borrow.{Bor}
use Rattle.uci_commands.proofs.WordsBehind.{behind_here, behind_next}
use Rattle.uci_commands.proofs.marks.behind.Goals as goal

pub loop-rest-preserved : goal.loop-rest-preserved
loop-rest-preserved c =
    behind_next (λ (s : Bor (List ℕ)). s.now) c.loop-rest.rest.now _ c.args.mark.now c.eq.result c.in-len1-up.len_at_least c.eq.ensures c.if-eq.false
    ∙ c.loop-rest.invariant

pub returns-then-eq : goal.returns-then-eq
returns-then-eq c =
    behind_here (λ (s : Bor (List ℕ)). s.now) c.loop-rest.rest.now _ c.args.mark.now c.eq.result c.in-len1-up.len_at_least c.eq.ensures c.if-eq.true
    ∙ c.loop-rest.invariant

use Rattle.std.proofs.Common.{◌≡◌, arith}
use Rattle.fen_explanations.specs.Checks.{is_open}
use Rattle.fen_explanations.proofs.Below.{more_all}
use Rattle.fen_explanations.proofs.checks.is_clear.Goals as goal

pub loop-number-preserved : goal.loop-number-preserved
loop-number-preserved c = more_all (λ s. is_open c.args.men.now c.args.a c.args.b s) _ _ _ c.loop-number.invariant
    (rw c.numbered.ensures at c.is_open-open.ensures)

pub returns : goal.returns
returns c = let end : c.loop-number.number ≡ 64 = omega (arith, c.loop-number-test.false, c.loop-number.auto.number-end) in
    rw end at c.loop-number.invariant

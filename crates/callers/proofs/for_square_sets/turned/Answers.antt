use Rattle.std.proofs.Common.{◌≡◌, ℕ, ◌-◌, ◌<◌, ◌==◌, not, ◌&&◌, ◌||◌, Bool, true, false, refl, sym, ap, ◌∙◌, arith}
use Rattle.std.proofs.lemmas.Bool.Decides.{nat_tests}
use Rattle.std.proofs.lemmas.Bool.{eqb-true}
use Rattle.square_sets.specs.Members.{has}
use Rattle.callers.proofs.for_square_sets.turned.Goals as goal

-- a square of the result, and the one that goes there: the one is looked at exactly where the other is
same_test : (s square : ℕ) → s < 64 → square < 64 → (s == 63 - square) ≡ (63 - s == square)
same_test s square l on = grind (arith, nat_tests)

-- what went there is no longer to come
turn : (here result left all : Bool) → (here ≡ true → left ≡ true) → (result || left) ≡ all → ((here || result) || (not here && left)) ≡ all
turn true true left all there e = e
turn true false left all there e = sym (there refl) ∙ e
turn false result left all there e = e

pub loop-square-preserved : goal.loop-square-preserved
loop-square-preserved c = λ s l.
    let split = c.in-Some.ensures.steps in
    let square : ℕ = c.in-Some.square in
    let left = c.loop-square.square-iterator in
    rw (c.with-result.ensures s l, split.others (63 - s) (omega arith), same_test s square l split.lowest.on_board)
    (turn (63 - s == square) (has c.loop-square.result s) (has left (63 - s)) (has c.args.set (63 - s))
    (λ same. ap (has left) (eqb-true (63 - s) square same) ∙ split.lowest.there) (c.loop-square.invariant s l))

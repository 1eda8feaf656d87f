use Rattle.std.proofs.Common.{◌≡◌, ◌-◌, ℕ, Option, true, false, sym, ◌∙◌, subst, arith}
use Rattle.mate_search.specs.Wins.{win}
use Rattle.mate_search.proofs.Readings.{IsTimeTold, time_told}
use Rattle.mate_search.proofs.solving.learned.Goals as goal

pub returns-in-Some : goal.returns-in-Some
returns-in-Some c = λ p known is.
    let told = subst (λ (o : Option ℕ). IsTimeTold p c.args.bound o) (sym is ∙ c.in-Some.is) (time_told p c.args.bound) in
    let fewer : false ≡ win (c.get.result - 1) p = sym (told.3 (c.get.result - 1) (omega (arith, c.get.ensures.some))) in
    let mates : true ≡ win c.get-in-Some.result p = rw c.get-in-Some.ensures.moves (sym told.2) in
    c.with-in-Some.ensures p (c.with.ensures p known fewer) mates

pub returns-in-None : goal.returns-in-None
returns-in-None c = λ p known is.
    let told = subst (λ (o : Option ℕ). IsTimeTold p c.args.bound o) (sym is ∙ c.in-None.is) (time_told p c.args.bound) in
    c.with-in-None.ensures p known (sym (told c.get-in-None.result (omega (arith, c.get-in-None.ensures.moves))))

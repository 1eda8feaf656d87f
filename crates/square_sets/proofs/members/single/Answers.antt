use Rattle.std.proofs.Common.{◌≡◌, ◌||◌, Bool, true, false, eqb, refl, ◌∙◌}
use Rattle.std.proofs.lemmas.Nat.Bits.{bit_at-zero}
use Rattle.square_sets.proofs.members.single.Goals as goal

pub returns : goal.returns
returns c = λ s on. c.with.ensures s on ∙ (let none = bit_at-zero s in rw none (or_false (eqb s c.args.square)))
  where
    or_false : (x : Bool) → (x || false) ≡ x
    or_false true = refl
    or_false false = refl

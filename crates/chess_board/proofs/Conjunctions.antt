-- The parts of a test that asks for several things.
use Rattle.std.proofs.Common.{◌≡◌, Bool, true, ◌&&◌}
use Rattle.std.proofs.lemmas.Bool.{and_parts}

pub all_three : (x y z : Bool) → (x && y && z) ≡ true → (x ≡ true) × (y ≡ true) × (z ≡ true)
all_three x y z h = let q = and_parts (x && y) z h in let r = and_parts x y q.0 in (r.0, r.1, q.1)

pub all_four : (x y z u : Bool) → (x && y && z && u) ≡ true → (x ≡ true) × (y ≡ true) × (z ≡ true) × (u ≡ true)
all_four x y z u h = let p = and_parts (x && y && z) u h in let q = all_three x y z p.0 in (q.0, q.1, q.2, p.1)

pub all_five : (x y z u v : Bool) → (x && y && z && u && v) ≡ true → (x ≡ true) × (y ≡ true) × (z ≡ true) × (u ≡ true) × (v ≡ true)
all_five x y z u v h = let p = and_parts (x && y && z && u) v h in let q = all_four x y z u p.0 in (q.0, q.1, q.2, q.3, p.1)

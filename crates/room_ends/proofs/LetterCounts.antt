-- Letters are counted over two lists one after the other.
use Rattle.std.proofs.Common.{◌≡◌, ◌<◌, ◌≤◌, ◌+◌, nat_lt, Bool, true, false, if◌then◌else◌, List, [], ◌∷◌, ◌++◌, length, ap, arith}
use Rattle.std.proofs.lemmas.Bool.Decides.{nat_tests}
use Rattle.room_ends.specs.Letters.{records, farewells}
use Rattle.room_ends.specs.declared.letters.Letter.{Letter}
use Rattle.room_ends.specs.declared.letters.Letter.TheVariants.{Record, Withdrawal, Farewell}

pub records_count : (xs ys : List Letter) → length (records (xs ++ ys)) ≡ length (records xs) + length (records ys)
records_count [] ys = omega arith
records_count (Record r ∷ xs) ys = omega (arith, records_count xs ys)
records_count (Withdrawal n ∷ xs) ys = records_count xs ys
records_count (Farewell ∷ xs) ys = records_count xs ys

pub farewells_count : (xs ys : List Letter) → farewells (xs ++ ys) ≡ farewells xs + farewells ys
farewells_count [] ys = omega arith
farewells_count (Record r ∷ xs) ys = farewells_count xs ys
farewells_count (Withdrawal n ∷ xs) ys = farewells_count xs ys
farewells_count (Farewell ∷ xs) ys = omega (arith, farewells_count xs ys)

pub records_few : (xs : List Letter) → length (records xs) ≤ length xs
records_few [] = omega arith
records_few (Record r ∷ xs) = omega (arith, records_few xs)
records_few (Withdrawal n ∷ xs) = omega (arith, records_few xs)
records_few (Farewell ∷ xs) = omega (arith, records_few xs)

pub is_said : (xs : List Letter) (said : Bool) → farewells xs ≡ (if said then 1 else 0) → nat_lt 0 (farewells xs) ≡ said
is_said xs true e = grind (arith, nat_tests, e)
is_said xs false e = grind (arith, nat_tests, e)

-- whether a farewell is among the letters, with one more
pub still_said : (xs : List Letter) (x : Letter) → farewells (x ∷ []) ≡ 0 → nat_lt 0 (farewells (xs ++ x ∷ [])) ≡ nat_lt 0 (farewells xs)
still_said xs x e = ap (nat_lt 0) (omega (arith, e, farewells_count xs (x ∷ [])))

pub now_said : (xs : List Letter) → nat_lt 0 (farewells (xs ++ Farewell ∷ [])) ≡ true
now_said xs = let e : 0 < farewells (xs ++ Farewell ∷ []) = omega (arith, farewells_count xs (Farewell ∷ [])) in grind (arith, nat_tests, e)

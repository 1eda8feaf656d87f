-- What is said of letters, over two lists one after the other.
use Rattle.std.proofs.Common.{◌≡◌, ◌+◌, List, [], ◌∷◌, ◌++◌, refl, ap, arith}
use Rattle.room_ends.specs.Letters.{records, farewells}
use Rattle.room_ends.specs.declared.letters.Letter.{Letter}
use Rattle.room_ends.specs.declared.letters.Letter.TheVariants.{Record, Withdrawal, Farewell}

pub records_append : (xs ys : List Letter) → records (xs ++ ys) ≡ records xs ++ records ys
records_append [] ys = refl
records_append (Record r ∷ xs) ys = ap (λ l. r ∷ l) (records_append xs ys)
records_append (Withdrawal n ∷ xs) ys = records_append xs ys
records_append (Farewell ∷ xs) ys = records_append xs ys

pub farewells_count : (xs ys : List Letter) → farewells (xs ++ ys) ≡ farewells xs + farewells ys
farewells_count [] ys = omega arith
farewells_count (Record r ∷ xs) ys = farewells_count xs ys
farewells_count (Withdrawal n ∷ xs) ys = farewells_count xs ys
farewells_count (Farewell ∷ xs) ys = omega (arith, farewells_count xs ys)

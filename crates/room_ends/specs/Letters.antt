-- The letters of a window: its records, which of them it withdrew, and its farewell (own to this project).
use Rattle.std.specs.Prelude.{ℕ, ◌+◌, List, [], ◌∷◌}
use Rattle.chess_notation.specs.Records.{RecordValue}
use Rattle.room_ends.specs.declared.letters.Letter.{Letter}
use Rattle.room_ends.specs.declared.letters.Letter.TheVariants.{Record, Withdrawal, Farewell}

-- the records among the letters, in order
abbrev pub records : List Letter → List RecordValue
records [] = []
records (Record r ∷ rest) = r ∷ records rest
records (Withdrawal n ∷ rest) = records rest
records (Farewell ∷ rest) = records rest

-- how many farewells are among them
abbrev pub farewells : List Letter → ℕ
farewells [] = 0
farewells (Record r ∷ rest) = farewells rest
farewells (Withdrawal n ∷ rest) = farewells rest
farewells (Farewell ∷ rest) = farewells rest + 1

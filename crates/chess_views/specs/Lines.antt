-- How lines are written, and the columns of one.
use Rattle.std.specs.Prelude.{◌++◌, ℕ, List, codes}

abbrev pub line : List ℕ → List ℕ
line text = text ++ codes "\n"

-- what stands in a column before the last, with the tab behind it
abbrev pub cell : List ℕ → List ℕ
cell text = text ++ codes "\t"

-- How many records `import` prints, and how many problems it refuses (own to this project).
use Rattle.std.specs.Prelude.{ℕ, ◌==◌, List, [], ◌++◌, codes, decimal, if◌then◌else◌}
use Rattle.problem_import.specs.declared.import_counts.ImportCounts.{ImportCounts}

abbrev pub no_counts : ImportCounts
no_counts = record { records = 0; refused = 0; unbound = 0; unnumbered = 0; aside = 0; first_aside = 0 }

-- how many there are of this kind, where there are any
abbrev pub some_text : ℕ → List ℕ → List ℕ
some_text count kind = if count == 0 then [] else codes "; " ++ decimal count ++ kind

-- how many lines were passed over that were put aside with a placement, and the number of the first, where there are any
abbrev pub aside_text : (count first : ℕ) → List ℕ
aside_text count first = if count == 0 then []
    else some_text count (codes " passed over that begin with `%`, `;` or `#` and have a FEN") ++ codes ", the first of them line " ++ decimal first

unfoldable pub counts_text : ImportCounts → List ℕ
counts_text c = codes "records " ++ decimal c.records ++ codes ", refused " ++ decimal c.refused
    ++ some_text c.unbound (codes " refused for want of a number of moves") ++ some_text c.unnumbered (codes " printed without a number of moves")
    ++ aside_text c.aside c.first_aside

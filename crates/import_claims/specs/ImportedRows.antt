-- The row of a problem that is refused (own to this project).
use Rattle.std.specs.Prelude.{◌≡◌, ℕ, List, ◌++◌, decimal}
use Rattle.mate_claims.specs.Rows.{refused_row}
use Rattle.problem_import.specs.Imports.{import_fault_name}
use Rattle.problem_import.specs.declared.import_faults.ImportFault.{ImportFault}

-- by what stands before the number of its first line, that number, and its fault
abbrev pub IsRefusedRow : List ℕ → ℕ → ImportFault → List ℕ → Type 0
IsRefusedRow prefix number fault row = row ≡ refused_row (prefix ++ decimal number) (import_fault_name fault)

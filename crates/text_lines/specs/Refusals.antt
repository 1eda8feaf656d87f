-- The reply to a line that says no record (own to this project).
use Rattle.std.specs.Prelude.{ℕ, List, [], ◌∷◌, ◌++◌, codes, decimal}
use Rattle.chess_board.specs.Characters.{char}
use Rattle.chess_notation.specs.declared.epd_faults.EpdFault.{EpdFault}
use Rattle.chess_notation.specs.EpdFaults.{epd_fault_name}

-- the reply to a line that says no record, by its number in the input and its fault
abbrev pub fault_line : ℕ → EpdFault → List ℕ
fault_line number fault = codes "# line " ++ decimal number ++ codes ": " ++ epd_fault_name fault ++ char "\n" ∷ []

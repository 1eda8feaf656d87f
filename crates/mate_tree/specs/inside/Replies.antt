-- Not for believing: what the reply to one line may be.
use Rattle.std.specs.Prelude.{◌≡◌, ◌≢◌, ℕ, List, [], ◌++◌}
use Rattle.chess_notation.specs.declared.epd_faults.EpdFault.{EpdFault}
use Rattle.chess_notation.specs.declared.epd_faults.EpdFault.TheVariants as fault
use Rattle.text_lines.specs.Refusals.{fault_line}
use Rattle.mate_tree.specs.Lines.{line}

-- This text, with so many refusals.
abbrev pub IsJust : List ℕ → ℕ → List ℕ → ℕ → Type 0
IsJust whole count text refusals = (text ≡ whole) × (refusals ≡ count)

-- The reply to a line with this fault, which is not want of memory.
abbrev pub IsRefusal : ℕ → EpdFault → List ℕ → ℕ → Type 0
IsRefusal number f text refusals = (f ≢ fault.NoMemory) × (text ≡ fault_line number f ++ line []) × (refusals ≡ 1)

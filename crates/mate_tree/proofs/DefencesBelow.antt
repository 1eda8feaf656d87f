-- The tree below a move, step by step.
use Rattle.std.proofs.Common.{◌≡◌, ◌≢◌, ◌∙◌, ℕ, zero, suc, ◌+◌, ◌-◌, ◌≤◌, true, List, Option, length, refl, ap, arith}
use Rattle.std.specs.List.{flat_map}
use Rattle.chess_board.specs.Moves.{Move}
use Rattle.chess_board.specs.Positions.{Setup}
use Rattle.chess_moves.specs.inside.Listing.{legal_moves}
use Rattle.mate_tree.specs.Defences.{defence, defences}
use Rattle.mate_tree.specs.declared.writers.TreeWriter.{TreeWriter}
use Rattle.mate_tree.specs.inside.Sheets.{is_closed}
use Rattle.mate_tree.specs.inside.Writers.{Adds}
use Rattle.mate_tree.proofs.AddedLines.{SomeLines, adds_as, adds_none, lines_all, lines_closed}

module _ {D : Type 0} {contents : D → Option (List ℕ)} where
  pub defences_nothing : (d i k : ℕ) (q : Setup) (s : TreeWriter D) → d ≡ 0 → Adds contents s s (defences d i k q)
  unfolding defences
  defences_nothing d i k q s none = rw none (adds_none s)

-- each defence, where the tree goes on below it
abbrev each : ℕ → ℕ → ℕ → Setup → Move → List (List ℕ)
each d i k q = defence (defences (d - 1) (i + 1)) (d - 1) i k q

defences_some : (d i k : ℕ) (q : Setup) → d ≢ 0 → flat_map (each d i k q) (legal_moves q) ≡ defences d i k q
unfolding defences
defences_some zero i k q some = absurd (some refl)
defences_some (suc d) i k q some = let e : suc d - 1 ≡ d = omega arith in rw e refl

all_defences : (d i k : ℕ) (q : Setup) (ms : List Move) → d ≢ 0 → ms ≡ legal_moves q → flat_map (each d i k q) ms ≡ defences d i k q
all_defences d i k q ms some all = ap (flat_map (each d i k q)) all ∙ defences_some d i k q some

module _ {D : Type 0} {contents : D → Option (List ℕ)} {s t : TreeWriter D} (d i k : ℕ) (q : Setup) {ms : List Move} {j : ℕ} where
  pub defences_whole : d ≢ 0 → ms ≡ legal_moves q → length ms ≤ j → SomeLines contents s t (each d i k q) ms j
      → Adds contents s t (defences d i k q)
  defences_whole some all whole before = adds_as (all_defences d i k q ms some all) (lines_all whole before)

  pub defences_closed : d ≢ 0 → ms ≡ legal_moves q → is_closed t.sheet ≡ true → SomeLines contents s t (each d i k q) ms j
      → Adds contents s t (defences d i k q)
  defences_closed some all closed before = adds_as (all_defences d i k q ms some all) (lines_closed closed before)

use Rattle.std.proofs.Common.{rules}
use Rattle.fen_explanations.specs.Told.{unless_told}
use Rattle.fen_explanations.proofs.KnownCodes.{are_known, some_groups}
use Rattle.fen_explanations.proofs.told.push_unless_told.Goals as goal

-- Which explanations there are is of no matter where none is told.
pub returns-then-not-is_empty : goal.returns-then-not-is_empty
unfolding unless_told
returns-then-not-is_empty c = (some_groups, are_known, search rules)

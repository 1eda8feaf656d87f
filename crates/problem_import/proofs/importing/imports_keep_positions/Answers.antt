use Rattle.problem_import.proofs.Imports.{imports_keep_positions}
use Rattle.problem_import.proofs.importing.imports_keep_positions.Goals as goal

pub returns : goal.returns
returns c = imports_keep_positions

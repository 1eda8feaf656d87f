use Rattle.problem_import.proofs.Imports.{imports_are_records}
use Rattle.problem_import.proofs.importing.imports_are_records.Goals as goal

pub returns : goal.returns
returns c = imports_are_records

use Rattle.std.proofs.Common.{None}
use Rattle.std.proofs.lemmas.List.{get_or-replicate}
use Rattle.problem_import.proofs.diagrams.Diagram.new.Goals as goal

pub returns : goal.returns
returns c = λ square below. get_or-replicate 64 square None None below

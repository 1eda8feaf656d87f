use Rattle.std.proofs.Common.{[]}
use Rattle.problem_import.specs.inside.KnownSources.{looked_at}
use Rattle.problem_import.proofs.problem_lines.ProblemMemory.begin.Goals as goal

pub returns-clause-begun : goal.returns-clause-begun
returns-clause-begun g c = looked_at [] c.new.ensures.from

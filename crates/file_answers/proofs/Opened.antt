-- What was read of a file that was opened is what its name holds.
use Rattle.std.proofs.Common.{ℕ, List, Option, None, Some, subst}
use Rattle.byte_streams.specs.Inputs.{MayBe}
use Rattle.file_answers.specs.Sources.{HasAll}

pub held_by : (held left : Option (List ℕ)) (bytes : List ℕ) → HasAll held left → MayBe left bytes → MayBe held bytes
held_by None left bytes has may = tt
held_by (Some all) left bytes has may = subst (λ l. MayBe l bytes) has may

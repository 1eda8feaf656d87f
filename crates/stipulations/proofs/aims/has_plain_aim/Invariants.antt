use Rattle.std.proofs.Common.{◌≡◌, length}
use Rattle.std.specs.List.{list_any}
use Rattle.stipulations.specs.Aims.{is_plain_aim}
use Rattle.stipulations.specs.Words.{words_of}
use Rattle.stipulations.proofs.aims.has_plain_aim.Given as goal

abbrev pub invariant-loop-rest : goal.invariant-loop-rest
invariant-loop-rest l = list_any is_plain_aim (words_of l.rest) ≡ list_any is_plain_aim (words_of l.text)

abbrev pub decreases-loop-rest : goal.decreases-loop-rest
decreases-loop-rest l = length l.rest

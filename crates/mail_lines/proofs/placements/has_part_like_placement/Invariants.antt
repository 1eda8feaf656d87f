use Rattle.std.proofs.Common.{◌≡◌, ◌==◌, length}
use Rattle.std.specs.List.{list_any, slice_split}
use Rattle.mail_lines.specs.Placements.{is_like_placement}
use Rattle.mail_lines.proofs.placements.has_part_like_placement.Given as goal

abbrev pub invariant-loop-part : goal.invariant-loop-part
invariant-loop-part l = list_any is_like_placement (slice_split (λ b. b == 9) l.rest) ≡ list_any is_like_placement (slice_split (λ b. b == 9) l.initial.rest)

abbrev pub decreases-loop-part : goal.decreases-loop-part
decreases-loop-part l = length l.rest

use Rattle.std.proofs.Common.{◌≡◌, ◌==◌, length}
use Rattle.std.specs.List.{list_any, slice_split}
use Rattle.mail_lines.specs.Placements.{has_part, is_like_placement}
use Rattle.mail_lines.proofs.placements.has_placement.Given as goal

abbrev pub invariant-loop-word : goal.invariant-loop-word
invariant-loop-word l = list_any (has_part is_like_placement) (slice_split (λ b. b == 32) l.rest) ≡ list_any (has_part is_like_placement) (slice_split (λ b. b == 32) l.initial.rest)

abbrev pub decreases-loop-word : goal.decreases-loop-word
decreases-loop-word l = length l.rest

use Rattle.std.proofs.Common.{◌≡◌, ◌==◌, length}
use Rattle.std.specs.List.{list_any, slice_split}
use Rattle.chess_notation.specs.SaidBounds.{is_bound}
use Rattle.mail_lines.proofs.mails.has_bound.Given as goal

abbrev pub invariant-loop-word : goal.invariant-loop-word
invariant-loop-word l = list_any is_bound (slice_split (λ b. b == 32) l.rest) ≡ list_any is_bound (slice_split (λ b. b == 32) l.initial.rest)

abbrev pub decreases-loop-word : goal.decreases-loop-word
decreases-loop-word l = length l.rest

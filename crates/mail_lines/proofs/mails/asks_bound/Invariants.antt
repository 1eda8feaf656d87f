use Rattle.std.proofs.Common.{◌≡◌, ◌==◌, length}
use Rattle.std.specs.List.{list_any, slice_split}
use Rattle.chess_notation.specs.SaidBounds.{is_bound}
use Rattle.mail_lines.specs.Placements.{has_word}
use Rattle.mail_lines.proofs.mails.asks_bound.Given as goal

abbrev pub invariant-loop-part : goal.invariant-loop-part
invariant-loop-part l = list_any (has_word is_bound) (slice_split (λ b. b == 59) l.rest) ≡ list_any (has_word is_bound) (slice_split (λ b. b == 59) l.initial.rest)

abbrev pub decreases-loop-part : goal.decreases-loop-part
decreases-loop-part l = length l.rest

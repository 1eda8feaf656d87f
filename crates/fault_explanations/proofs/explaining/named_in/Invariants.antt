use Rattle.std.proofs.Common.{◌≡◌, map, take}
use Rattle.fault_explanations.specs.Explained.{named_in}
use Rattle.fault_explanations.proofs.explaining.named_in.Given as goal

abbrev pub invariant-loop-reply : goal.invariant-loop-reply
invariant-loop-reply l = map (λ e. e.now) l.found.items ≡ named_in l.groups (map (λ s. s.now) (take l.reply-index l.replies))

use Rattle.std.proofs.Common.{◌≡◌, drop, map}
use Rattle.std.specs.List.{list_any}
use Rattle.json_replies.specs.Answers.{are_keys}
use Rattle.json_replies.proofs.operations.have_keys.Given as goal

abbrev pub invariant-loop-operation : goal.invariant-loop-operation
invariant-loop-operation l = list_any are_keys (map (λ o. o.now) (drop l.operation-index l.operations)) ≡ list_any are_keys (map (λ o. o.now) l.operations)

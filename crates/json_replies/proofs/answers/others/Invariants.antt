use Rattle.std.proofs.Common.{◌≡◌, ◌++◌, drop, flat_map, map}
use Rattle.json_replies.specs.Answers.{other_member}
use Rattle.json_replies.proofs.answers.others.Given as goal

abbrev pub invariant-loop-operation : goal.invariant-loop-operation
invariant-loop-operation l = flat_map (other_member l.keys) (map (λ o. o.now) l.operations)
    ≡ l.text.items ++ flat_map (other_member l.keys) (map (λ o. o.now) (drop l.operation-index l.operations))

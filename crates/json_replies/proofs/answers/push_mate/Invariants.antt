use Rattle.std.proofs.Common.{◌≡◌, ◌++◌, drop, flat_map, map}
use Rattle.json_replies.specs.Answers.{mate_member}
use Rattle.json_replies.proofs.answers.push_mate.Given as goal

abbrev pub invariant-loop-operation : goal.invariant-loop-operation
invariant-loop-operation l = l.fn.out.items ++ flat_map (mate_member l.keys) (map (λ o. o.now) l.operations)
    ≡ l.out.items ++ flat_map (mate_member l.keys) (map (λ o. o.now) (drop l.operation-index l.operations))

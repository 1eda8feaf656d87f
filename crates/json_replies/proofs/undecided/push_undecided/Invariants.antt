use Rattle.std.proofs.Common.{◌≡◌, ◌++◌, drop, flat_map, map}
use Rattle.json_replies.specs.Answers.{undecided_member}
use Rattle.json_replies.proofs.undecided.push_undecided.Given as goal

abbrev pub invariant-loop-operation : goal.invariant-loop-operation
invariant-loop-operation l = l.fn.out.items ++ flat_map undecided_member (map (λ o. o.now) l.operations)
    ≡ l.out.items ++ flat_map undecided_member (map (λ o. o.now) (drop l.operation-index l.operations))

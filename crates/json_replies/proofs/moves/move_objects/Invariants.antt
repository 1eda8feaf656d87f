use Rattle.std.proofs.Common.{◌≡◌, ◌++◌, drop, flat_map}
use Rattle.json_replies.specs.Moves.{move_object}
use Rattle.json_replies.proofs.moves.move_objects.Given as goal

abbrev pub invariant-loop-m : goal.invariant-loop-m
invariant-loop-m l = flat_map (move_object l.position) l.m-items ≡ l.text.items ++ flat_map (move_object l.position) (drop l.m-index l.m-items)

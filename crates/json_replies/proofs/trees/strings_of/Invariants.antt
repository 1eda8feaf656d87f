use Rattle.std.proofs.Common.{◌≡◌, ◌++◌, drop, flat_map, map}
use Rattle.json_replies.specs.Trees.{line_string}
use Rattle.json_replies.proofs.trees.strings_of.Given as goal

abbrev pub invariant-loop-line : goal.invariant-loop-line
invariant-loop-line l = flat_map line_string (map (λ w. w.now) l.lines)
    ≡ l.text.items ++ flat_map line_string (map (λ w. w.now) (drop l.line-index l.lines))

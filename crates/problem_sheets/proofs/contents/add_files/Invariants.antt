use Rattle.std.proofs.Common.{map, drop}
use Rattle.problem_sheets.specs.Contents.{AddsFiles, ContentsValue, no_contents}
use Rattle.problem_sheets.proofs.contents.add_files.Given as goal

-- what the files that are left add is what all add
abbrev pub invariant-loop-index : goal.invariant-loop-index
invariant-loop-index l = (after : ContentsValue)
    → AddsFiles l.default (map (λ s. s.now) (drop l.index l.names)) (map (λ bytes. bytes.items) (drop l.index l.inputs)) l.contents after
    → AddsFiles l.default (map (λ s. s.now) l.names) (map (λ bytes. bytes.items) l.inputs) no_contents after

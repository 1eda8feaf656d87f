use Rattle.std.proofs.Common.{map, take}
use Rattle.file_answers.specs.Sources.{Holds}
use Rattle.file_answers.proofs.sources.read_files.Given as goal

-- the files of the names so far were read
abbrev pub invariant-loop-name : goal.invariant-loop-name
invariant-loop-name g l =
    Holds (g.S.Source.holds l.source) (map (λ s. s.now) (take l.name-index l.names)) (map (λ bytes. bytes.items) l.files.items)

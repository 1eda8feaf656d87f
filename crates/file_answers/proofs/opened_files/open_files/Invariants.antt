use Rattle.std.proofs.Common.{map, take}
use Rattle.file_answers.specs.OpenedFiles.{AreOpened}
use Rattle.file_answers.proofs.opened_files.open_files.Given as goal

-- the files of the names so far were opened
abbrev pub invariant-loop-name : goal.invariant-loop-name
invariant-loop-name g l =
    AreOpened g.S.File.Input.left g.S.File.Input.breaks (g.S.Source.holds l.source) (g.S.Source.refuses l.source)
    (map (λ s. s.now) (take l.name-index l.names)) l.files.items

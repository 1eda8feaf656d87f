use Rattle.std.proofs.Common.{◌≡◌, ◌≤◌, ◌+◌, ◌-◌, ℕ, List, drop, length, map, take}
use Rattle.std.specs.Io.KnownBytes.{Appends}
use Rattle.std.specs.Vec.Iter.{into_iter_items, into_iter_len}
use Rattle.file_answers.specs.OpenedFiles.{AreOpened}
use Rattle.file_answers.proofs.AnsweredFiles.{AnsweredTo}
use Rattle.file_answers.proofs.opened_files.answer_opened.Given as goal

-- what was gained so far answers the names so far, and the files of the others are left
abbrev pub invariant-loop-name : goal.invariant-loop-name
invariant-loop-name g l =
    (gained : List ℕ)
    × AnsweredTo (g.S.Source.holds l.source) (g.A.FileAnswers.told l.answers) 1
    (map (λ s. s.now) (take l.name-index l.names)) 1 l.refused
    (g.A.FileAnswers.tally l.memory - g.A.FileAnswers.tally l.initial.memory) gained
    × (g.A.FileAnswers.tally l.initial.memory ≤ g.A.FileAnswers.tally l.memory)
    × Appends (g.O.Write.contents l.initial.out) (g.O.Write.contents l.out) gained
    × AreOpened g.S.File.Input.left g.S.File.Input.breaks (g.S.Source.holds l.source) (g.S.Source.refuses l.source)
    (map (λ s. s.now) (drop l.name-index l.names)) (into_iter_items l.rest)
    × (l.name-index + into_iter_len l.rest ≡ length l.names)

use Rattle.std.proofs.Common.{◌≤◌, ◌-◌, ℕ, List, map, take}
use Rattle.std.specs.Io.KnownBytes.{Appends}
use Rattle.file_answers.proofs.AnsweredFiles.{AnsweredTo}
use Rattle.file_answers.proofs.file_answers.answer_files.Given as goal

-- what was gained so far answers the names so far
abbrev pub invariant-loop-name : goal.invariant-loop-name
invariant-loop-name g l =
    (gained : List ℕ)
    × AnsweredTo (g.S.Source.holds l.files.source.now) (g.A.FileAnswers.told l.answers) l.files.from
    (map (λ s. s.now) (take l.name-index l.files.names.now)) l.from l.refused
    (g.A.FileAnswers.tally l.memory - g.A.FileAnswers.tally l.initial.memory) gained
    × (g.A.FileAnswers.tally l.initial.memory ≤ g.A.FileAnswers.tally l.memory)
    × Appends (g.O.Write.contents l.initial.out) (g.O.Write.contents l.out) gained
    × (1 ≤ l.from)

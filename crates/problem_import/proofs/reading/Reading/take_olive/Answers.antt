use Rattle.std.proofs.Common.{if◌then◌else◌, inr, refl, ◌∙◌, subst}
use Rattle.problem_import.specs.OliveProblems.{line_onto}
use Rattle.problem_import.specs.inside.KnownSources.{IsOpenFrom}
use Rattle.problem_import.specs.inside.ReadProblems.{AreRead}
use Rattle.problem_import.proofs.Sources.{items_kept, items_taken, olive_on, open_next}
use Rattle.problem_import.proofs.reading.Reading.take_olive.Goals as goal

pub returns-in_default-clause-from : goal.returns-in_default-clause-from
returns-in_default-clause-from c = λ letters lines own line at says held before.
    absurd (olive_on own c.args.self.now.open c.in_default.not-Olive c.requires.olive)

pub returns-then-not-branch-clause-from : goal.returns-then-not-branch-clause-from
returns-then-not-branch-clause-from c = λ letters lines own line at says held before.
    let (said, are, read) = subst (IsOpenFrom letters own) c.in-Olive.is held.1 in
    let taken = c.in_ok-take_line.ensures said (items_kept said c.in-Olive.problem _ refl refl refl refl read) in
    ((held.0, items_taken lines own said line c.args.line.now.text.now _ c.take_line.new.self c.if-not-branch.true at says c.requires.plain c.requires.other are taken), before)

pub returns-clause-from : goal.returns-clause-from
returns-clause-from c = λ letters lines own line at says held before.
    let (said, are, read) = subst (IsOpenFrom letters own) c.in-Olive.is held.1 in
    let taken = c.in_ok-take_line.ensures said (items_kept said c.in-Olive.problem _ refl refl refl refl read) in
    let ended = subst (λ b. AreRead (if b then said else line_onto c.args.line.now.text.now said) c.take_line.new.self) c.if-not-branch.false taken in (
      (c.finish.ensures.letters ∙ held.0, open_next letters lines _ _ c.finish.ensures.next tt),
      c.in_ok-finish.ensures.from letters lines own (inr (line, at)) (said, are, ended) before,
    )

use Rattle.std.proofs.Common.{[], ◌∷◌, ◌++◌, refl}
use Rattle.problem_import.specs.inside.KnownSources.{looked_at}
use Rattle.problem_import.proofs.Sources.{known_at}
use Rattle.problem_import.proofs.problem_lines.ProblemLinesLineHandler.answer.Goals as goal

pub returns-clause-reply : goal.returns-clause-reply
returns-clause-reply g c = rw (c.output.ensures.text, c.output.ensures.refused) c.in_ok-answers.ensures.reply

pub returns-clause-behind : goal.returns-clause-behind
returns-clause-behind g c = λ before many known.
    let line = c.args.line.now in
    let letters = c.args.self.now.printing.letters.placements in
    let (now, answered) = c.in_ok-answers.ensures.from letters (before ++ line ∷ []) before (refl, many) c.requires.short
    (known_at letters c.args.memory.now.reading before known) in (
      (returns-clause-reply g c, rw c.output.ensures.text answered),
      looked_at (before ++ line ∷ []) now,
    )

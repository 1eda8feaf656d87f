use Rattle.std.proofs.Common.{ℕ, List}
use Rattle.move_words.specs.declared.languages.Letters.{Letters}
use Rattle.problem_import.specs.inside.Answered.{IsAnsweredFrom, IsFound}
use Rattle.problem_import.specs.inside.KnownSources.{AreFrom}
use Rattle.problem_import.proofs.problem_lines.ProblemLines.found.Given as goal

-- what was found so far is answered, and is of the lines that all of it is of
abbrev pub invariant-loop-finding : goal.invariant-loop-finding
invariant-loop-finding g l = record {
  found : IsFound l.self.printing.keep l.self.printing.bound l.line (g.H.ProblemHandler.records l.self.handler.now)
      (g.H.ProblemHandler.rows l.self.handler.now) l.fn.counts l.finding-index l.answers;
  from : (letters : Letters) (lines : List (List ℕ)) → AreFrom letters lines l.findings
      → IsAnsweredFrom letters l.self.printing.bound lines (g.H.ProblemHandler.records l.self.handler.now)
      (g.H.ProblemHandler.rows l.self.handler.now) l.answers.text.items;
}

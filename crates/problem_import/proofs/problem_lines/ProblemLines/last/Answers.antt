use Rattle.std.proofs.Common.{[], ◌∷◌, ◌++◌, inr, refl}
use Rattle.problem_import.proofs.AnsweredSources.{last_if}
use Rattle.problem_import.proofs.OwnFindings.{none_found}
use Rattle.problem_import.proofs.Sources.{known_at, none_from, open_ended}
use Rattle.problem_import.proofs.problem_lines.ProblemLines.last.Goals as goal

pub found-requires : goal.found-requires
found-requires g c =
    rw c.as_slice.ensures.value (c.in_ok-finish.ensures.own [] (none_found [] c.new-findings.result.items c.new-findings.ensures.items))

pub returns : goal.returns
returns g c =
    let letters = c.args.self.now.printing.letters.placements in
    let reading = c.args.memory.now.reading in
    last_if c.args.self.now.printing.keep c.args.self.now.printing.bound (g.H.ProblemHandler.records c.args.self.now.handler.now)
    (g.H.ProblemHandler.rows c.args.self.now.handler.now) letters reading c.found.result c.get.result c.as_slice.result.now
    (λ lines known.
    let all = lines ++ [] ∷ [] in
    rw c.as_slice.ensures.value (c.in_ok-finish.ensures.from letters all lines (inr ([], refl))
    (open_ended letters lines reading.open (known_at letters reading lines known).held)
    (none_from letters all c.new-findings.result.items c.new-findings.ensures.items))) c.found.ensures.found c.found.ensures.from

use Rattle.std.proofs.Common.{subst}
use Rattle.text_lines.specs.inside.InputLines.{TakesLine, left_of}
use Rattle.text_lines.proofs.LinesTaken.{last_taken, one_taken}
use Rattle.text_lines.proofs.taken_lines.TakenLines.take.Goals as goal

pub returns-clause-more : goal.returns-clause-more
returns-clause-more g c more =
    let (line, is, takes) = c.in_ok-taken.ensures.ok in
    let old = left_of g.I.Input.left c.args.self.now.lines in
    let new = left_of g.I.Input.left c.take_line.new.self in
    (line, c.taken_as.ensures line is, one_taken old new line (subst (λ b. TakesLine b old new line) more takes))

pub returns-clause-last : goal.returns-clause-last
returns-clause-last g c last =
    let (line, is, takes) = c.in_ok-taken.ensures.ok in
    let old = left_of g.I.Input.left c.args.self.now.lines in
    let new = left_of g.I.Input.left c.take_line.new.self in
    (line, c.taken_as.ensures line is, last_taken old new line (subst (λ b. TakesLine b old new line) last takes))

use Rattle.std.proofs.Common.{◌∙◌, ◌++◌, ◌∷◌, [], ap, sym}
use Rattle.problem_sheets.specs.Contents.{skipped}
use Rattle.problem_sheets.proofs.AddedLines.{adds_problem, adds_refused}
use Rattle.problem_sheets.proofs.contents.add_line.Goals as goal

pub returns-then-is_blank : goal.returns-then-is_blank
returns-then-is_blank c = skipped (sym c.if-is_blank.ensures)

pub returns-in-Ok-push : goal.returns-in-Ok-push
returns-in-Ok-push c =
    adds_problem c.args.default c.args.place.now.name.now c.args.place.now.number c.args.line.now c.args.contents.now
    c.contents.inside.problems.items c.contents.inside.refused.items
    c.in-Ok.record c.push.new.self.items (sym c.if-is_blank.ensures) c.in-Ok.ensures.reads c.contents.view_is
    (c.in-Ok-push.ensures.items
    ∙ ap (λ s. c.contents.inside.problems.items ++ record { asked = c.in-Ok.record; says_bound = s } ∷ []) c.says_bound.ensures)

pub returns-in_ok-push_refused-in-Err : goal.returns-in_ok-push_refused-in-Err
returns-in_ok-push_refused-in-Err c =
    adds_refused c.args.default c.args.place.now.name.now c.args.place.now.number c.args.line.now c.args.contents.now
    c.contents.inside.problems.items c.contents.inside.refused.items
    c.in-Err.fault c.push_refused.new.text.items
    (sym c.if-is_blank.ensures) c.in-Err.ensures.refused c.in_ok-push_refused-in-Err.ensures.fault c.contents.view_is
    c.in_ok-push_refused-in-Err.ensures.text

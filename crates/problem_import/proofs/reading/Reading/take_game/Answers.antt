use Rattle.std.proofs.Common.{◌∙◌}
use Rattle.problem_import.proofs.Sources.{tags_moved, tags_open}
use Rattle.problem_import.proofs.reading.Reading.take_game.Goals as goal

pub returns-then-is_empty-clause-from : goal.returns-then-is_empty-clause-from
returns-then-is_empty-clause-from c = λ letters lines own line at says known before.
    let (read, found) = c.in_ok-rest.ensures.from letters lines own line at says known before in
    ((c.take_tags.ensures.letters ∙ known.by, tags_open letters lines c.in_ok-rest.rest.now c.take_tags.new.self.open read), found)

pub returns-clause-from : goal.returns-clause-from
returns-clause-from c = λ letters lines own line at says known before.
    let (read, found) = c.in_ok-rest.ensures.from letters lines own line at says known before in
    let (of, all) = c.in_ok-take_movetext.ensures.from letters lines
    (tags_moved letters lines c.in_ok-rest.rest.now c.take_tags.new.self.open read) found in
    ((c.take_movetext.ensures.letters ∙ c.take_tags.ensures.letters ∙ known.by, of), all)

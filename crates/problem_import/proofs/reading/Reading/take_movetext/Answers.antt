use Rattle.problem_import.proofs.reading.Reading.take_movetext.Goals as goal

pub returns-clause-from : goal.returns-clause-from
returns-clause-from c = λ letters lines moved before.
    let done = c.in_ok-take_moves.ensures.from letters lines moved before in
    (c.pass.ensures.from letters lines done.0, done.1)

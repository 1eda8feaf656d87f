use Rattle.plain_commands.proofs.explaining.explain_given.Goals as goal

pub returns-in-Some-clause-err : goal.returns-in-Some-clause-err
returns-in-Some-clause-err g c = rw (c.in-Some.is) c.explain.ensures.err

pub returns-in-None-clause-err : goal.returns-in-None-clause-err
returns-in-None-clause-err g c = rw (c.in-None.is) c.explain-in-None.ensures.err

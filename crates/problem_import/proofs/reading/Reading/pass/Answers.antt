use Rattle.problem_import.proofs.reading.Reading.pass.Goals as goal

pub returns-then-pass-clause-from : goal.returns-then-pass-clause-from
returns-then-pass-clause-from c = λ letters lines of. tt

pub returns-else-pass-clause-from : goal.returns-else-pass-clause-from
returns-else-pass-clause-from c = λ letters lines of. tt

use Rattle.std.proofs.Common.{[], refl, sym, ◌∙◌, subst}
use Rattle.problem_import.specs.inside.KnownSources.{IsWorded}
use Rattle.problem_import.proofs.Sources.{open_ended}
use Rattle.problem_import.proofs.reading.Reading.begin_popeye.Goals as goal

pub returns-clause-from : goal.returns-clause-from
returns-clause-from c = λ letters lines own up held are before.
    c.in_ok-take_popeye.ensures.from letters lines [] (c.finish.ensures.letters ∙ held.0)
    (subst (IsWorded []) (sym c.finish.ensures.next) (record { read = c.new-problem.ensures; on = refl })) are
    (c.in_ok-finish.ensures.from letters lines own up (open_ended letters own c.args.self.now.open held.1) before)

use Rattle.std.proofs.Common.{map}
use Rattle.std.specs.Bool.{⊤}
use Rattle.command_words.specs.Asked.{limited}
use Rattle.file_solving.specs.Solved.{SolvesLimited}
use Rattle.matedesk.proofs.Uncounted.{in_time}
use Rattle.matedesk.proofs.solving_in_time.SolveInTimeTimedCommand.answer.Goals as goal

pub returns-clause-ok : goal.returns-clause-ok
returns-clause-ok g c =
    let asked = c.args.self.now.asked.now in
    let names = map (λ s. s.now) asked.files.names.now in
    in_time (g.S.Source.holds c.args.timed.now.source.now) (limited c.args.self.now.seconds asked.bound asked.memo asked.files.from names)
    (λ refused n. SolvesLimited (g.S.Source.holds c.args.timed.now.source.now) ⊤ c.args.self.now.seconds asked.bound asked.files.from names refused
    n) _ _ _ (λ refused gains. gains)
    (λ refused n some gains. (refused, n, some, gains)) c.solve_limited.result c.solve_limited.ensures.ok

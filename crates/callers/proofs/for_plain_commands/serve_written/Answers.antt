use Rattle.std.proofs.Common.{[], refl}
use Rattle.callers.proofs.Worked.{serve_written}
use Rattle.callers.proofs.for_plain_commands.serve_written.Goals as goal

pub returns : goal.returns
returns g c = λ out one two ends.
    serve_written c.records_clear.ensures (g.S.Source.holds c.args.source.now) (g.S.Source.refuses c.args.source.now) _ 1 [] out one two refl ends
    refl refl

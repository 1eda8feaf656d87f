use Rattle.plain_commands.proofs.Endings.{ends_by_status}
use Rattle.plain_commands.proofs.answering.ends_by_status.Goals as goal

pub returns : goal.returns
returns g c = ends_by_status (g.S.Source.holds c.args.source.now) (g.S.Source.refuses c.args.source.now)

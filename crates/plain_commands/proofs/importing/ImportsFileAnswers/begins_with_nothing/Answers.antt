use Rattle.plain_commands.proofs.Unopened.{no_import}
use Rattle.plain_commands.proofs.importing.ImportsFileAnswers.begins_with_nothing.Goals as goal

pub returns : goal.returns
returns c = no_import c.args.self.now.printing.letters c.args.self.now.printing.keep c.args.self.now.printing.bound

use Rattle.plain_commands.proofs.Unopened.{no_position_reply}
use Rattle.plain_commands.proofs.position_answers.PositionAnswersFileAnswers.begins_with_nothing.Goals as goal

pub returns : goal.returns
returns c = no_position_reply c.args.self.now.command

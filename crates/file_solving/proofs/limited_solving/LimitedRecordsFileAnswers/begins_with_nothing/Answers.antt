use Rattle.file_solving.proofs.Unopened.{no_limited_reply}
use Rattle.file_solving.proofs.limited_solving.LimitedRecordsFileAnswers.begins_with_nothing.Goals as goal

pub returns : goal.returns
returns g c =
    no_limited_reply (g.T.Halt.may_stop c.args.self.now.limited.now.limit.now) c.args.self.now.limited.now.seconds c.args.self.now.limited.now.default

use Rattle.mate_answers.proofs.LineReplies.{long_refused}
use Rattle.mate_answers.proofs.input_replies.AnswersLineHandler.refuse_long.Goals as goal

pub returns-clause-reply : goal.returns-clause-reply
returns-clause-reply g c =
    long_refused c.args.self.now.default c.args.number (λ output. output.text.items)
    (λ output. output.refused) c.refusal.result c.refusal.ensures.text c.refusal.ensures.one

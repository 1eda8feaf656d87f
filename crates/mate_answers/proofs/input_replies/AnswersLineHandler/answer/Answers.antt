use Rattle.std.proofs.Common.{arith}
use Rattle.std.proofs.lemmas.Result.{IfOk-weaker}
use Rattle.mate_answers.specs.InputReplies.{answered}
use Rattle.mate_answers.proofs.LineReplies.{few_refused, reply_refused}
use Rattle.mate_answers.proofs.input_replies.AnswersLineHandler.answer.Goals as goal

pub returns-in_ok-record_text-in-Ok-clause-reply : goal.returns-in_ok-record_text-in-Ok-clause-reply
returns-in_ok-record_text-in-Ok-clause-reply g c =
    rw (c.in_ok-record_text-in-Ok.ensures.text) (answered c.in-Ok.record c.requires.filled c.in-Ok.ensures.reads)

pub returns-in-Err-clause-reply : goal.returns-in-Err-clause-reply
returns-in-Err-clause-reply g c =
    reply_refused c.args.self.now.default c.args.number c.args.line.now c.in-Err.fault (λ output. output.text.items)
    (λ output. output.refused) c.refusal.result
    c.requires.filled c.in-Err.ensures.refused c.refusal.ensures.fault c.refusal.ensures.text c.refusal.ensures.one

pub returns-in-Err-clause-marked : goal.returns-in-Err-clause-marked
returns-in-Err-clause-marked g c = IfOk-weaker c.refusal.result _ _ (λ output one. tt) c.refusal.ensures.one

pub returns-in-Err-clause-grows : goal.returns-in-Err-clause-grows
returns-in-Err-clause-grows g c = IfOk-weaker c.refusal.result _ _ (λ output one. omega arith) c.refusal.ensures.one

pub returns-in-Err-clause-few : goal.returns-in-Err-clause-few
returns-in-Err-clause-few g c = few_refused (λ output. output.refused) c.refusal.result c.refusal.ensures.one

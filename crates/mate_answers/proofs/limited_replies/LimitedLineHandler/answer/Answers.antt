use Rattle.std.proofs.Common.{arith, inl, inr}
use Rattle.std.proofs.lemmas.Result.{IfOk-weaker}
use Rattle.mate_answers.specs.InputReplies.{IsLineReply, answer_line, answered}
use Rattle.mate_answers.specs.LimitedReplies.{IsLateReply, IsLimitedReply, decided, in_time, late, undecided}
use Rattle.mate_answers.proofs.Limits.{none_more, one_more}
use Rattle.mate_answers.proofs.LineReplies.{few_refused, reply_refused}
use Rattle.mate_answers.proofs.limited_replies.LimitedLineHandler.answer.Goals as goal

pub returns-in-Err-clause-reply : goal.returns-in-Err-clause-reply
returns-in-Err-clause-reply g c =
    IfOk-weaker c.refusal.result (λ output. IsLineReply c.args.self.now.default c.args.number c.args.line.now output.text.items output.refused)
    (λ output. IsLimitedReply (g.T.Halt.may_stop c.args.self.now.limit.now)
    c.args.self.now.seconds c.args.self.now.default c.args.number c.args.line.now output.text.items output.refused)
    (λ output told. decided output.text.items output.refused told)
    (reply_refused c.args.self.now.default c.args.number c.args.line.now c.in-Err.fault (λ output. output.text.items)
    (λ output. output.refused) c.refusal.result
    c.requires.filled c.in-Err.ensures.refused c.refusal.ensures.fault c.refusal.ensures.text c.refusal.ensures.one)

pub returns-in-Err-clause-marked : goal.returns-in-Err-clause-marked
returns-in-Err-clause-marked g c =
    IfOk-weaker c.refusal.result (λ output. IsLineReply c.args.self.now.default c.args.number c.args.line.now output.text.items output.refused)
    _ (λ output told. none_more (IsLateReply (g.T.Halt.may_stop c.args.self.now.limit.now)
    c.args.self.now.seconds c.args.self.now.default c.args.number c.args.line.now output.text.items)
    c.args.memory.now.undecided (in_time output.text.items output.refused told))
    (reply_refused c.args.self.now.default c.args.number c.args.line.now c.in-Err.fault (λ output. output.text.items)
    (λ output. output.refused) c.refusal.result
    c.requires.filled c.in-Err.ensures.refused c.refusal.ensures.fault c.refusal.ensures.text c.refusal.ensures.one)

pub returns-then-said-clause-reply : goal.returns-then-said-clause-reply
returns-then-said-clause-reply g c =
    rw (c.in_ok-said-in-Ok.ensures.decided c.if-said.true)
    (decided (answer_line c.in-Ok.record) 0 (answered c.in-Ok.record c.requires.filled c.in-Ok.ensures.reads))

pub returns-then-said-clause-marked : goal.returns-then-said-clause-marked
returns-then-said-clause-marked g c =
    none_more (IsLateReply (g.T.Halt.may_stop c.args.self.now.limit.now)
    c.args.self.now.seconds c.args.self.now.default c.args.number c.args.line.now c.in_ok-said-in-Ok.said.text.items)
    c.args.memory.now.undecided
    (rw (c.in_ok-said-in-Ok.ensures.decided c.if-said.true)
    (in_time (answer_line c.in-Ok.record) 0 (answered c.in-Ok.record c.requires.filled c.in-Ok.ensures.reads)))

pub returns-in-Some-clause-reply : goal.returns-in-Some-clause-reply
returns-in-Some-clause-reply g c =
    let (none, so_far, is) = c.in_ok-said-in-Ok.ensures.undecided c.if-said.false in
    rw is (undecided (c.in_ok-said-in-Ok.ensures.stopped c.if-said.false) c.in-Ok.record none c.requires.filled c.in-Ok.ensures.reads so_far)

pub returns-in-Some-clause-marked : goal.returns-in-Some-clause-marked
returns-in-Some-clause-marked g c =
    let (none, so_far, is) = c.in_ok-said-in-Ok.ensures.undecided c.if-said.false in
    one_more (IsLateReply (g.T.Halt.may_stop c.args.self.now.limit.now)
    c.args.self.now.seconds c.args.self.now.default c.args.number c.args.line.now c.in_ok-said-in-Ok.said.text.items)
    c.args.memory.now.undecided c.in-Some.more c.in-Some.ensures.1
    (rw is (late (c.in_ok-said-in-Ok.ensures.stopped c.if-said.false) c.in-Ok.record none c.requires.filled c.in-Ok.ensures.reads so_far))

pub returns-in-Err-clause-grows : goal.returns-in-Err-clause-grows
returns-in-Err-clause-grows g c = IfOk-weaker c.refusal.result _ _ (λ output one. omega arith) c.refusal.ensures.one

pub returns-in-Err-clause-few : goal.returns-in-Err-clause-few
returns-in-Err-clause-few g c = few_refused (λ output. output.refused) c.refusal.result c.refusal.ensures.one

pub returns-in-Some-clause-grows : goal.returns-in-Some-clause-grows
returns-in-Some-clause-grows g c = omega (arith, c.in-Some.ensures.1)

pub returns-in-Err-clause-behind : goal.returns-in-Err-clause-behind
returns-in-Err-clause-behind g c =
    IfOk-weaker c.refusal.result (λ output. IsLineReply c.args.self.now.default c.args.number c.args.line.now output.text.items output.refused)
    _ (λ output told before number known. (inr told, tt))
    (reply_refused c.args.self.now.default c.args.number c.args.line.now c.in-Err.fault (λ output. output.text.items)
    (λ output. output.refused) c.refusal.result
    c.requires.filled c.in-Err.ensures.refused c.refusal.ensures.fault c.refusal.ensures.text c.refusal.ensures.one)

pub returns-then-said-clause-behind : goal.returns-then-said-clause-behind
returns-then-said-clause-behind g c = λ before number known.
    rw (c.in_ok-said-in-Ok.ensures.decided c.if-said.true)
    (inr (answered c.in-Ok.record c.requires.filled c.in-Ok.ensures.reads), tt)

pub returns-in-Some-clause-behind : goal.returns-in-Some-clause-behind
returns-in-Some-clause-behind g c = λ before number known. (inl (c.in_ok-said-in-Ok.ensures.stopped c.if-said.false), tt)

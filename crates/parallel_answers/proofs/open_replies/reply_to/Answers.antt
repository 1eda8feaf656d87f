use Rattle.std.proofs.Common.{rules, ◌≡◌, List, subst, ℕ}
use Rattle.std.proofs.Math.Logic.{∥∥₁_map}
use Rattle.parallel_answers.proofs.open_replies.reply_to.Goals as goal

pub returns-in-Some-clause-reply : goal.returns-in-Some-clause-reply
returns-in-Some-clause-reply g c =
    let reply = c.in-Some.answered.reply in
    let same : c.in-Some.answered.line.items ≡ c.args.line.now = search rules in
    let number : c.in-Some.answered.number ≡ c.args.number = search rules in
    subst (λ (l : List ℕ). ∥ g.T.LineTask.replies c.args.task.now c.args.number l reply.text.items reply.refused ∥₁) same
    (subst (λ n. ∥ g.T.LineTask.replies c.args.task.now n c.in-Some.answered.line.items reply.text.items reply.refused ∥₁) number
    (∥∥₁_map c.in-Some.answered.answer (λ r. c.is.ensures.replies c.if-is.true _ _ _ _ r)))

pub returns-in-Some-clause-mark : goal.returns-in-Some-clause-mark
returns-in-Some-clause-mark g c =
    let same : c.in-Some.answered.line.items ≡ c.args.line.now = search rules in
    subst (λ (l : List ℕ). ∥ g.T.LineTask.marks c.args.task.now l c.in-Some.answered.reply.mark ∥₁) same
    (∥∥₁_map c.in-Some.answered.mark (λ r. c.is.ensures.marks c.if-is.true _ _ r))

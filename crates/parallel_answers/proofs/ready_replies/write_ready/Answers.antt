use Rattle.std.proofs.lemmas.Result.{err_from_is_err_and}
use Rattle.parallel_answers.specs.inside.OpenReplies.{KnownFrom, rules_from}
use Rattle.parallel_answers.proofs.Gaining.{breaks_here, breaks_off}
use Rattle.parallel_answers.proofs.ready_replies.write_ready.Goals as goal

pub returns-in_err-gathered-clause-breaks : goal.returns-in_err-gathered-clause-breaks
returns-in_err-gathered-clause-breaks g c =
    let lines = c.args.lines.now in
    let own = rules_from (g.T.LineTask.replies lines.by.now) (g.T.LineTask.waits lines.by.now) (g.T.LineTask.marks lines.by.now) lines.from in
    let (other, is, same) = err_from_is_err_and c.from_residual.result c.from_residual.ensures.1 in
    rw (is, same) (breaks_here own c.args.replies.now c.in_err-gathered.field-0.0 _ c.in_err-gathered.ensures.memory)

pub returns-in_err-write-clause-breaks : goal.returns-in_err-write-clause-breaks
returns-in_err-write-clause-breaks g c =
    let lines = c.args.lines.now in
    let own = rules_from (g.T.LineTask.replies lines.by.now) (g.T.LineTask.waits lines.by.now) (g.T.LineTask.marks lines.by.now) lines.from in
    let knows = KnownFrom (g.T.LineTask.knows lines.by.now) lines.from in
    let (other, is, same) = err_from_is_err_and c.from_residual-in_err-write.result c.from_residual-in_err-write.ensures.1 in
    rw (is, same) (breaks_off own knows c.args.replies.now c.gather.new.replies c.in_err-write.field-0.0 _ _ c.args.tally.now c.gather.new.tally
    c.in_ok-gathered.gathered.text.items c.in_ok-gathered.ensures.gains c.in_err-write.ensures.err
    c.in_err-write.ensures.part)

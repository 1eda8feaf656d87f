use Rattle.std.proofs.Common.{[], ◌++◌}
use Rattle.std.proofs.KnownBytes.{Appends-nil, Appends-trans}
use Rattle.std.proofs.lemmas.Result.{err_from_is_err_and}
use Rattle.parallel_answers.specs.inside.OpenReplies.{KnownFrom, rules_from}
use Rattle.parallel_answers.proofs.Gaining.{breaks_behind, breaks_here, gains_none, gains_then}
use Rattle.parallel_answers.proofs.ordered_answers.Answering.write_on.Goals as goal

pub loop-init : goal.loop-init
loop-init g c =
    let lines = c.args.self.now.lines.now in
    let own = rules_from (g.T.LineTask.replies lines.by.now) (g.T.LineTask.waits lines.by.now) (g.T.LineTask.marks lines.by.now) lines.from in
    let knows = KnownFrom (g.T.LineTask.knows lines.by.now) lines.from in
    ([], gains_none own knows c.args.replies.now c.args.tally.now, Appends-nil (g.O.Write.contents c.args.out.now))

pub loop-preserved : goal.loop-preserved
loop-preserved g c =
    let lines = c.args.self.now.lines.now in
    let own = rules_from (g.T.LineTask.replies lines.by.now) (g.T.LineTask.waits lines.by.now) (g.T.LineTask.marks lines.by.now) lines.from in
    let knows = KnownFrom (g.T.LineTask.knows lines.by.now) lines.from in
    let (text, gains, on) = c.loop.invariant in
    let (here, more, then) = c.in_ok-write.ensures.gains in
    (text ++ here, gains_then own knows c.args.replies.now c.loop.replies c.write.new.replies c.args.tally.now c.loop.tally c.write.new.tally text here gains more, Appends-trans _ _ _ text here on then)

pub returns-then-len-most-clause-gains : goal.returns-then-len-most-clause-gains
returns-then-len-most-clause-gains g c =
    let lines = c.args.self.now.lines.now in
    let own = rules_from (g.T.LineTask.replies lines.by.now) (g.T.LineTask.waits lines.by.now) (g.T.LineTask.marks lines.by.now) lines.from in
    let knows = KnownFrom (g.T.LineTask.knows lines.by.now) lines.from in
    let (text, gains, on) = c.loop.invariant in
    let (here, more, then) = c.in_ok-write.ensures.gains in
    (text ++ here, gains_then own knows c.args.replies.now c.loop.replies c.write.new.replies c.args.tally.now c.loop.tally c.write.new.tally text here gains more, Appends-trans _ _ _ text here on then)

pub returns-in_err-write-clause-breaks : goal.returns-in_err-write-clause-breaks
returns-in_err-write-clause-breaks g c =
    let lines = c.args.self.now.lines.now in
    let own = rules_from (g.T.LineTask.replies lines.by.now) (g.T.LineTask.waits lines.by.now) (g.T.LineTask.marks lines.by.now) lines.from in
    let knows = KnownFrom (g.T.LineTask.knows lines.by.now) lines.from in
    let (text, gains, on) = c.loop.invariant in
    let (other, is, same) = err_from_is_err_and c.from_residual.result c.from_residual.ensures.1 in
    rw (is, same) (breaks_behind own knows c.args.replies.now c.loop.replies c.in_err-write.field-0.0 _ _ _ c.args.tally.now c.loop.tally text gains on
    c.in_err-write.ensures.breaks)

pub returns-in_err-wait-clause-breaks : goal.returns-in_err-wait-clause-breaks
returns-in_err-wait-clause-breaks g c =
    let lines = c.args.self.now.lines.now in
    let own = rules_from (g.T.LineTask.replies lines.by.now) (g.T.LineTask.waits lines.by.now) (g.T.LineTask.marks lines.by.now) lines.from in
    let knows = KnownFrom (g.T.LineTask.knows lines.by.now) lines.from in
    let (text, gains, on) = c.loop.invariant in
    let (here, more, then) = c.in_ok-write.ensures.gains in
    let (other, is, same) = err_from_is_err_and c.from_residual-in_err-wait.result c.from_residual-in_err-wait.ensures.1 in
    rw (is, same) (breaks_behind own knows c.args.replies.now c.write.new.replies c.in_err-wait.field-0.0 _ _ _ c.args.tally.now c.write.new.tally
    (text ++ here) (gains_then own knows c.args.replies.now c.loop.replies c.write.new.replies c.args.tally.now c.loop.tally c.write.new.tally text here gains more)
    (Appends-trans _ _ _ text here on then) (breaks_here own c.write.new.replies c.in_err-wait.field-0.0 _ c.in_err-wait.ensures.memory))

use Rattle.mate_answers.proofs.Limits.{none_more, one_more}
use Rattle.mate_tree.specs.LimitedTrees.{IsLateTree, in_time, late, told, undecided}
use Rattle.mate_tree.specs.TreeReplies.{answered, tree_reply}
use Rattle.mate_tree.proofs.LimitedLines.{fault_in_time, fault_told}
use Rattle.mate_tree.proofs.limited_trees.LimitedTreesLineHandler.answer.Goals as goal

pub returns-then-told-clause-reply : goal.returns-then-told-clause-reply
returns-then-told-clause-reply g c =
    rw (c.in_ok-told-in-Ok.ensures.decided c.if-told.true)
    (told (tree_reply c.args.self.now.form c.in-Ok.record) 0 (answered c.in-Ok.record c.requires.filled c.in-Ok.ensures.reads))

pub returns-then-told-clause-marked : goal.returns-then-told-clause-marked
returns-then-told-clause-marked g c =
    let stops = g.T.Halt.may_stop c.args.self.now.limited.now.limit.now in
    let seconds = c.args.self.now.limited.now.seconds in
    let form = c.args.self.now.form in
    let default = c.args.self.now.limited.now.default in
    none_more (IsLateTree stops seconds form default c.args.number c.args.line.now c.in_ok-told-in-Ok.told.text.items) c.args.memory.now.undecided
    (rw (c.in_ok-told-in-Ok.ensures.decided c.if-told.true)
    (in_time (tree_reply form c.in-Ok.record) 0 (answered c.in-Ok.record c.requires.filled c.in-Ok.ensures.reads)))

pub returns-in-Some-clause-reply : goal.returns-in-Some-clause-reply
returns-in-Some-clause-reply g c =
    let (none, so_far, is) = c.in_ok-told-in-Ok.ensures.undecided c.if-told.false in
    rw is (undecided (c.in_ok-told-in-Ok.ensures.stopped c.if-told.false) c.in-Ok.record none c.requires.filled c.in-Ok.ensures.reads so_far)

pub returns-in-Some-clause-marked : goal.returns-in-Some-clause-marked
returns-in-Some-clause-marked g c =
    let stops = g.T.Halt.may_stop c.args.self.now.limited.now.limit.now in
    let seconds = c.args.self.now.limited.now.seconds in
    let form = c.args.self.now.form in
    let default = c.args.self.now.limited.now.default in
    let (none, so_far, is) = c.in_ok-told-in-Ok.ensures.undecided c.if-told.false in
    one_more (IsLateTree stops seconds form default c.args.number c.args.line.now c.in_ok-told-in-Ok.told.text.items) c.args.memory.now.undecided
    c.in-Some.more c.in-Some.ensures.1
    (rw is (late (c.in_ok-told-in-Ok.ensures.stopped c.if-told.false) c.in-Ok.record none c.requires.filled c.in-Ok.ensures.reads so_far))

pub returns-in-Err-clause-reply : goal.returns-in-Err-clause-reply
returns-in-Err-clause-reply g c =
    let stops = g.T.Halt.may_stop c.args.self.now.limited.now.limit.now in
    let seconds = c.args.self.now.limited.now.seconds in
    let form = c.args.self.now.form in
    let default = c.args.self.now.limited.now.default in
    fault_told stops seconds form default c.args.number c.args.line.now c.in-Err.fault (λ output. output.text.items) (λ output. output.refused)
    c.refused_text.result c.requires.filled c.in-Err.ensures.refused c.refused_text.ensures.fault c.refused_text.ensures.text
    c.refused_text.ensures.one

pub returns-in-Err-clause-marked : goal.returns-in-Err-clause-marked
returns-in-Err-clause-marked g c =
    let stops = g.T.Halt.may_stop c.args.self.now.limited.now.limit.now in
    let seconds = c.args.self.now.limited.now.seconds in
    let form = c.args.self.now.form in
    let default = c.args.self.now.limited.now.default in
    fault_in_time stops seconds form default c.args.number c.args.line.now c.in-Err.fault (λ output. output.text.items) (λ output. output.refused)
    c.args.memory.now.undecided c.refused_text.result c.requires.filled c.in-Err.ensures.refused c.refused_text.ensures.fault
    c.refused_text.ensures.text c.refused_text.ensures.one

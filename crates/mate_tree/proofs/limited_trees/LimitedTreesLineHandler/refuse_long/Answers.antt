use Rattle.mate_tree.proofs.LimitedLines.{long_in_time, long_told}
use Rattle.mate_tree.proofs.limited_trees.LimitedTreesLineHandler.refuse_long.Goals as goal

pub returns-clause-reply : goal.returns-clause-reply
returns-clause-reply g c =
    let stops = g.T.Halt.may_stop c.args.self.now.limited.now.limit.now in
    let seconds = c.args.self.now.limited.now.seconds in
    let form = c.args.self.now.form in
    let default = c.args.self.now.limited.now.default in
    long_told stops seconds form default c.args.number (λ output. output.text.items) (λ output. output.refused) c.refused_text.result
    c.refused_text.ensures.fault c.refused_text.ensures.text c.refused_text.ensures.one

pub returns-clause-marked : goal.returns-clause-marked
returns-clause-marked g c =
    let stops = g.T.Halt.may_stop c.args.self.now.limited.now.limit.now in
    let seconds = c.args.self.now.limited.now.seconds in
    let form = c.args.self.now.form in
    let default = c.args.self.now.limited.now.default in
    long_in_time stops seconds form default c.args.number (λ output. output.text.items) (λ output. output.refused) c.refused_text.result
    c.refused_text.ensures.fault c.refused_text.ensures.text c.refused_text.ensures.one

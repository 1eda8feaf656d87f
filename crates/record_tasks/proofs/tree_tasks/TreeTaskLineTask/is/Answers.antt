use Rattle.std.proofs.Common.{◌≡◌, rules}
use Rattle.record_tasks.proofs.Told.{same_form, same_trees}
use Rattle.record_tasks.proofs.tree_tasks.TreeTaskLineTask.is.Goals as goal

pub returns-then-eq-2-clause-replies : goal.returns-then-eq-2-clause-replies
returns-then-eq-2-clause-replies c same =
    let a = c.args.self.now.form in
    let b = c.args.other.now.form in
    let default : c.args.self.now.default ≡ c.args.other.now.default = search rules in
    let m0 : a.moves ≡ b.moves = search rules in
    let d1 : a.defences ≡ b.defences = search rules in
    let s2 : a.set_play ≡ b.set_play = search rules in
    let t3 : a.tries ≡ b.tries = search rules in
    let l4 : a.lines ≡ b.lines = search rules in
    let c5 : a.column ≡ b.column = search rules in
    let p6 : a.pieces ≡ b.pieces = search rules in
    same_trees a b c.args.self.now.default c.args.other.now.default default (same_form a b m0 d1 s2 t3 l4 c5 p6)

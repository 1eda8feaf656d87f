use Rattle.std.proofs.Common.{rules, ◌≡◌, ◌++◌, ◌∷◌, [], length, vec_len, arith}
use Rattle.std.proofs.lemmas.Result.{IfOk-weaker}
use Rattle.desk_room.proofs.Heeding.{heed_more, heeds_none}
use Rattle.desk_room.proofs.Joined.{of_ok}
use Rattle.desk_room.proofs.serving.thread_groups.+benches.Goals as goal

pub run_beside-scope-returns-in-Err : goal.run_beside-scope-returns-in-Err
run_beside-scope-returns-in-Err g t c = (([], omega arith, heeds_none _ _), search rules)

pub run_benches-returns : goal.run_benches-returns
run_benches-returns g t c =
    let front : c.args.benches.items ≡ c.pop.new.self.items ++ c.in-Some.bench ∷ [] = search rules in
    let many : vec_len c.pop.new.self ≡ length c.pop.new.self.items = search rules in
    IfOk-weaker _ (λ all. all.items ≡ c.in_ok-theirs.field-0.items ++ c.run_beside-mine.result.0 ∷ []) _ (λ all is.
    heed_more (g.G.Gate.answers c.args.tools.now.gate.now) c.args.benches.items c.pop.new.self.items all.items
    c.in_ok-theirs.field-0.items c.in-Some.bench c.run_beside-mine.result.0 (vec_len c.pop.new.self) front is many
    (of_ok _ _ _ c.run_beside-mine.ensures.benches c.in_ok-theirs.was) c.run_beside-mine.ensures.bench) c.with_one-2.ensures

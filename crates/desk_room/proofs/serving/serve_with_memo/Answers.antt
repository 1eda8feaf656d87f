use Rattle.std.proofs.Common.{map, Result, Ok, Err, IfOk}
use Rattle.desk_room.specs.inside.Threads.{AllReport}
use Rattle.desk_room.proofs.Joined.{all_of, are_replies, of_ok, opened_fresh}
use Rattle.desk_room.proofs.serving.serve_with_memo.Goals as goal

pub run-keeper-requires-clause-fresh : goal.run-keeper-requires-clause-fresh
run-keeper-requires-clause-fresh g c κs within = opened_fresh 32 c.args.default 0 c.in_ok-room.room.windows.items
    c.in_ok-room.room.keeper.lines.items c.in_ok-room.ensures.room.opened

pub settle_reports-requires : goal.settle_reports-requires
settle_reports-requires g c =
    let room = c.in_ok-room.room in
    let reports : AllReport room.windows.items (map (λ v. v.items) c.args.inputs.now) c.in-Ok.reports.items =
    of_ok _ _ _ c.run-keeper.ensures.reports c.in-Ok.is in
    all_of 32 c.args.default room.windows.items room.keeper c.run-keeper.result.0 (map (λ v. v.items) c.args.inputs.now)
    c.in-Ok.reports.items c.in_ok-room.ensures.room.opened c.run-keeper.ensures.keeper reports

each_ok : {A E : Type 0} {P Q : A → Type 0} (r : Result A E) → IfOk r P → ((a : A) → P a → Q a) → IfOk r Q
each_ok (Ok a) h f = f a h
each_ok (Err e) h f = tt

pub returns-clause-replies : goal.returns-clause-replies
returns-clause-replies g c =
    let room = c.in_ok-room.room in
    let reports : AllReport room.windows.items (map (λ v. v.items) c.args.inputs.now) c.in-Ok.reports.items =
    of_ok _ _ _ c.run-keeper.ensures.reports c.in-Ok.is in
    each_ok c.settle_reports.result c.settle_reports.ensures.settled (λ outputs settled.
    are_replies 32 c.args.default 0 room.windows.items room.keeper.lines.items (map (λ v. v.items) c.args.inputs.now)
    c.in-Ok.reports.items outputs.items c.in_ok-room.ensures.room.opened reports settled)

pub returns-clause-bad_windows : goal.returns-clause-bad_windows
returns-clause-bad_windows g c = (
  λ e. absurd (c.settle_reports.ensures.good_windows e),
  λ bad. absurd (let opened = c.in_ok-room.ensures.bad_windows.1 bad in cc),
)

pub returns-clause-bad_benches : goal.returns-clause-bad_benches
returns-clause-bad_benches g c = (
  λ e. absurd (c.settle_reports.ensures.good_benches e),
  λ bad. absurd (let opened = c.in_ok-room.ensures.bad_benches.1 bad in cc),
)

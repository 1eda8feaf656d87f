use Rattle.std.proofs.Common.{◌≤◌, ◌<◌, length, map, rules}
use Rattle.matedesk.proofs.ServedFiles.{ends_served, ends_unread, ends_unserved, few_files}
use Rattle.matedesk.proofs.serving.serve.Goals as goal

pub returns-in-Err : goal.returns-in-Err
returns-in-Err g c =
    ends_unread (g.S.Source.holds c.args.source.now) (g.S.Source.refuses c.args.source.now) c.ends_by_status.ensures c.solves_none.ensures
    c.args.asked.now.workers c.args.asked.now.bound c.args.asked.now.memo (map (λ s. s.now) c.args.asked.now.names.now) c.in-Err.stop c.status_of.result _ c.status_of.ensures
    c.in-Err.ensures.refused

pub returns-in-Err-start_solving : goal.returns-in-Err-start_solving
returns-in-Err-start_solving g c =
    rw (c.unserved.ensures)
    (ends_unserved (g.S.Source.holds c.args.source.now) (g.S.Source.refuses c.args.source.now) c.solves_none.ensures c.args.asked.now.workers
    c.args.asked.now.bound c.args.asked.now.memo (map (λ s. s.now) c.args.asked.now.names.now) (g.O.Write.contents c.args.out.now))

pub returns : goal.returns
returns g c =
    let some : 0 < length c.args.asked.now.names.now = search rules in
    let few : length c.args.asked.now.names.now ≤ 16 = search rules in
    ends_served (g.S.Source.holds c.args.source.now) (g.S.Source.refuses c.args.source.now) c.ends_by_status.ensures
    c.args.asked.now.workers c.args.asked.now.bound c.args.asked.now.memo (map (λ s. s.now) c.args.asked.now.names.now) c.answer_opened-ended.result c.status_of-2.result _ _
    c.status_of-2.ensures (few_files (λ s. s.now) c.args.asked.now.names.now some few)
    c.answer_opened-ended.ensures.ok c.answer_opened-ended.ensures.err

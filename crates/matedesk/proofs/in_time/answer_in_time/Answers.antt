use Rattle.matedesk.proofs.Uncounted.{ends_in_time, ends_unstarted}
use Rattle.matedesk.proofs.in_time.answer_in_time.Goals as goal

pub returns-in_default : goal.returns-in_default
returns-in_default g c =
    rw c.no_memory.ensures (ends_unstarted (g.S.Source.holds c.args.source.now) (g.S.Source.refuses c.args.source.now)
    c.ends_by_status.ensures c.limited_none.ensures c.solves_none.ensures c.tells_none.ensures _
    (g.C.TimedCommand.starts c.args.command.now) (g.O.Write.contents c.args.out.now))

pub returns-in-Ok-start : goal.returns-in-Ok-start
returns-in-Ok-start g c =
    ends_in_time (g.S.Source.holds c.args.source.now) (g.S.Source.refuses c.args.source.now) c.ends_by_status.ensures c.ends_in_part.ensures
    (g.C.TimedCommand.asks c.args.command.now) (g.O.Write.contents c.args.out.now) (g.O.Write.contents c.answer-ended.new.out)
    c.answer-ended.result _ (g.C.TimedCommand.undecided c.answer-ended.new.memory) c.status_in_time.result c.in-Ok.ensures
    (rw c.count.ensures at c.status_in_time.ensures.in_part) (rw c.count.ensures at c.status_in_time.ensures.decided)
    c.status_in_time.ensures.stopped c.answer-ended.ensures.ok c.answer-ended.ensures.err

pub returns : goal.returns
returns g c =
    rw c.unsolved.ensures (ends_unstarted (g.S.Source.holds c.args.source.now) (g.S.Source.refuses c.args.source.now)
    c.ends_by_status.ensures c.limited_none.ensures c.solves_none.ensures c.tells_none.ensures _
    (g.C.TimedCommand.starts c.args.command.now) (g.O.Write.contents c.args.out.now))

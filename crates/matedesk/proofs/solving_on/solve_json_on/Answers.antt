use Rattle.std.proofs.Common.{map}
use Rattle.command_words.specs.Asked.{solve_json_on}
use Rattle.matedesk.proofs.Uncounted.{ends_unshared_json}
use Rattle.matedesk.proofs.solving_on.solve_json_on.Goals as goal

pub returns-in_default : goal.returns-in_default
returns-in_default g c =
    rw c.no_memory.ensures (ends_unshared_json (g.S.Source.holds c.args.source.now) (g.S.Source.refuses c.args.source.now)
    c.ends_by_status.ensures c.args.asked.now.workers c.args.asked.now.bound c.args.asked.now.memo
    c.args.asked.now.files.from (map (λ s. s.now) c.args.asked.now.files.names.now) (g.O.Write.contents c.args.out.now))

pub returns : goal.returns
returns g c =
    c.ends_by_status.ensures (solve_json_on c.args.asked.now.workers c.args.asked.now.bound c.args.asked.now.memo c.args.asked.now.files.from
    (map (λ s. s.now) c.args.asked.now.files.names.now)) c.solve_json_by-ended.result c.status_of.result (g.O.Write.contents c.args.out.now)
    (g.O.Write.contents c.solve_json_by-ended.new.out) c.status_of.ensures c.solve_json_by-ended.ensures.ok c.solve_json_by-ended.ensures.err

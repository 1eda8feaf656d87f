use Rattle.std.proofs.Common.{map}
use Rattle.command_words.specs.Asked.{verify_on}
use Rattle.matedesk.proofs.NoWorkers.{ends_unverified_on}
use Rattle.matedesk.proofs.verifying_on.verify_on.Goals as goal

pub returns-in-Err : goal.returns-in-Err
returns-in-Err g c =
    rw c.unserved.ensures (ends_unverified_on (g.S.Source.holds c.args.source.now) (g.S.Source.refuses c.args.source.now)
    c.ends_by_status.ensures c.args.asked.now.workers c.args.asked.now.bound c.args.asked.now.memo c.args.asked.now.header c.args.asked.now.files.from
    (map (λ s. s.now) c.args.asked.now.files.names.now) (g.O.Write.contents c.args.out.now))

pub returns : goal.returns
returns g c =
    c.ends_by_status.ensures (verify_on c.args.asked.now.workers c.args.asked.now.bound c.args.asked.now.memo c.args.asked.now.header c.args.asked.now.files.from
    (map (λ s. s.now) c.args.asked.now.files.names.now)) c.verify_by-ended.result c.status_of.result (g.O.Write.contents c.args.out.now)
    (g.O.Write.contents c.verify_by-ended.new.out) c.status_of.ensures c.verify_by-ended.ensures.ok c.verify_by-ended.ensures.err

use Rattle.std.proofs.Common.{map}
use Rattle.std.specs.String.{string_bytes}
use Rattle.command_words.specs.Asked.{asked, records_given}
use Rattle.matedesk.proofs.Uncounted.{ends_given, ends_unstarted}
use Rattle.matedesk.proofs.answering.threaded_command.Goals as goal

pub returns-in_default-clause-ends : goal.returns-in_default-clause-ends
returns-in_default-clause-ends g c =
    let words = map string_bytes c.args.words.now in
    rw c.no_memory.ensures (ends_unstarted _ _
    (ends_given (records_given words) (g.S.Source.holds c.args.source.now) (g.S.Source.refuses c.args.source.now)
    c.ends_by_status.ensures c.ends_by_status-2.ensures)
    c.limited_none.ensures c.solves_none.ensures c.tells_none.ensures (asked words) c.requires.threads
    (g.O.Write.contents c.args.out.now))

pub returns-in_default-parse-clause-ends : goal.returns-in_default-parse-clause-ends
returns-in_default-parse-clause-ends g c =
    let words = map string_bytes c.args.words.now in
    rw c.no_memory-in_default-parse.ensures (ends_unstarted _ _
    (ends_given (records_given words) (g.S.Source.holds c.args.source.now) (g.S.Source.refuses c.args.source.now)
    c.ends_by_status.ensures c.ends_by_status-2.ensures)
    c.limited_none.ensures c.solves_none.ensures c.tells_none.ensures (asked words) c.requires.threads
    (g.O.Write.contents c.args.out.now))

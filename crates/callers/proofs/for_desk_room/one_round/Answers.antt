use Rattle.std.proofs.Common.{◌∙◌}
use Rattle.callers.proofs.Rooms.{of_then, of_window, told_anyway}
use Rattle.callers.proofs.for_desk_room.one_round.Goals as goal

pub returns-clause-collected : goal.returns-clause-collected
returns-clause-collected c = rw c.submit.ensures.answers.collected at c.collect.ensures.collected

pub returns-clause-sent : goal.returns-clause-sent
returns-clause-sent c =
    let sent = c.in-Ok.ensures.sent in
    told_anyway c.collect.result _ (λ d. (sent.0, sent.1, c.collect.ensures.letters.sent ∙ sent.2))

pub returns-clause-of : goal.returns-clause-of
returns-clause-of c = told_anyway c.collect.result _ (λ d of.
    of_window c.submit.new.self c.collect.new.self c.turn-2.new.self
    (of_then c.submit.new.self c.turn.new.self c.turn-2.new.self
    (of_then c.submit.new.self c.args.keeper.now c.turn.new.self
    (of_window c.args.window.now c.submit.new.self c.args.keeper.now of c.submit.ensures.answers.window) c.turn.ensures.stays.room)
    c.turn-2.ensures.stays.room) c.collect.ensures.letters.window)

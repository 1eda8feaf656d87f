use Rattle.desk_room.proofs.Collecting.{collects_then}
use Rattle.desk_room.proofs.serving.submitters.Submitter.collect.Goals as goal

pub returns-clause-collects : goal.returns-clause-collects
returns-clause-collects c = collects_then c.args.self.now c.has_answer.new.self c.take_answer.new.self
    c.has_answer.ensures.collects c.in_ok-take_answer.ensures.collects

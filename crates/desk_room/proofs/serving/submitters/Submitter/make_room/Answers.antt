use Rattle.desk_room.proofs.Collecting.{collects_then}
use Rattle.desk_room.proofs.serving.submitters.Submitter.make_room.Goals as goal

pub loop-preserved-then-branch : goal.loop-preserved-then-branch
loop-preserved-then-branch g c = collects_then c.args.self.now c.loop.self c.collect.new.self c.loop.invariant c.in_ok-collect.ensures.collects

pub returns-then-has_place-clause-collects : goal.returns-then-has_place-clause-collects
returns-then-has_place-clause-collects g c =
    collects_then c.args.self.now c.loop.self c.has_place.new.self c.loop.invariant (collects_then c.loop.self c.collect.new.self
    c.has_place.new.self c.in_ok-collect.ensures.collects c.has_place.ensures.collects)

pub loop-preserved : goal.loop-preserved
loop-preserved g c =
    collects_then c.args.self.now c.loop.self c.has_place.new.self c.loop.invariant (collects_then c.loop.self c.collect.new.self
    c.has_place.new.self c.in_ok-collect.ensures.collects c.has_place.ensures.collects)

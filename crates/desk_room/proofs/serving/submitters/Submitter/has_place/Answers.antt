use Rattle.std.proofs.Common.{refl}
use Rattle.desk_room.proofs.Collecting.{collects_none}
use Rattle.desk_room.proofs.serving.submitters.Submitter.has_place.Goals as goal

pub returns-clause-collects : goal.returns-clause-collects
returns-clause-collects c = let e = c.has_place.ensures.looked in collects_none c.args.self.now _ e.window e.sent e.collected refl refl refl

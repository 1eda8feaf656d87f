use Rattle.std.proofs.Common.{rules}
use Rattle.desk_room.specs.inside.Threads.{AllSettled}
use Rattle.desk_room.proofs.Joined.{all_later, front_of, settled_more}
use Rattle.desk_room.proofs.serving.+settling.Goals as goal

pub settle_one-requires : goal.settle_one-requires
settle_one-requires t c = (front_of c.args.keeper.now c.args.reports.items c.pop.new.self.items c.in-Some.report c.in-Some.ensures.items c.requires).1

pub settle_all-requires : goal.settle_all-requires
settle_all-requires t c = (
  search rules,
  all_later c.args.keeper.now c.settle_one.new.keeper c.pop.new.self.items c.settle_one.ensures.room
      (front_of c.args.keeper.now c.args.reports.items c.pop.new.self.items c.in-Some.report c.in-Some.ensures.items c.requires).0,
)

pub returns-in-Ok-clause-settled : goal.returns-in-Ok-clause-settled
returns-in-Ok-clause-settled t c =
    let outputs = c.in-Some-2.all.items in
    let settled : AllSettled c.pop.new.self.items outputs = search rules in
    settled_more c.args.reports.items c.pop.new.self.items c.push.new.self.items outputs c.in-Some.report c.in-Some-settle_one.one
    c.in-Some.ensures.items (search rules) settled c.in-Some-settle_one.ensures.settled

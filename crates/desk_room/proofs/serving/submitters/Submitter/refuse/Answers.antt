use Rattle.std.proofs.Common.{rules}
use Rattle.desk_room.proofs.Handed.{handled_refusal, handled_refusal_behind}
use Rattle.desk_room.proofs.serving.submitters.Submitter.refuse.Goals as goal

pub returns-in_default-clause-handled : goal.returns-in_default-clause-handled
returns-in_default-clause-handled c lines line reply old =
    handled_refusal c.replies_go_on.ensures c.args.self.now c.extend_from_slice.new.self.items c.pop_back.new.self.items lines
    line c.args.refusal.now (search rules) (search rules) c.in_ok-extend_from_slice.ensures.items reply old

pub returns-clause-handled : goal.returns-clause-handled
returns-clause-handled c lines line reply old =
    handled_refusal_behind c.replies_go_on.ensures c.args.self.now c.push_back.new.self.items c.pop_back.new.self.items
    c.in-Some.replies c.extend_from_slice-2.new.self lines line c.args.refusal.now c.in-Some.ensures.items (search rules)
    c.in_ok-extend_from_slice-2.ensures.items reply old

use Rattle.std.proofs.Common.{ap, ◌∙◌}
use Rattle.mate_desk.specs.Content.{Content, Waiting}
use Rattle.mate_desk.specs.Calls.{after_return}
use Rattle.desk_room.proofs.GoingOut.{undone}
use Rattle.desk_room.proofs.turns.order_pass.order_job.Goals as goal

pub returns-in-Ok-hand_back-clause-tried : goal.returns-in-Ok-hand_back-clause-tried
returns-in-Ok-hand_back-clause-tried c =
    let e = c.in-Err.ensures in
    let t = c.in-Some.ensures in
    let h = c.in-Ok-hand_back.ensures in (
      e.none.orders,
      h.back ∙ (ap (λ j. after_return c.take.new.self j Waiting) e.refused ∙ (ap (λ (d : Content).
          after_return d c.in-Some.job Waiting) t.out ∙ undone c.in-Some.job c.args.desk.now t.none_was_out)),
      e.none.not_the_first,
    )

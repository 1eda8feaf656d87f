use Rattle.std.proofs.Common.{◌≡◌, ◌+◌, ◌++◌, ◌∷◌, [], ap, ◌∙◌, replicate, append_assoc, arith}
use Rattle.std.proofs.lemmas.List.{replicate_more}
use Rattle.room_ends.specs.DequeRule.{stops}
use Rattle.room_ends.specs.Orders.{orders}
use Rattle.room_ends.specs.declared.deque_rule.Order.TheVariants.{Stop}
use Rattle.room_ends.proofs.DequeSteps.{stops_append}
use Rattle.room_ends.proofs.order_producer.OrderProducer.send_home.Goals as goal

pub loop-self-smaller : goal.loop-self-smaller
loop-self-smaller c =
    let put : orders c.stop.new.self ≡ orders c.loop-self.self ++ Stop ∷ [] = c.if-not-stop.ensures.put in
    omega (
      arith,
      ap stops put,
      stops_append (orders c.loop-self.self) (Stop ∷ []),
      c.stop.new.self.told,
      c.stop.new.self.handed,
      c.loop-self.self.handed,
      c.loop-self.self.told,
      c.stop.ensures.stays.passes,
      c.loop-self-test.true,
    )

pub loop-self-preserved : goal.loop-self-preserved
loop-self-preserved c =
    let put : orders c.stop.new.self ≡ orders c.loop-self.self ++ Stop ∷ [] = c.if-not-stop.ensures.put in
    let before = c.loop-self.invariant.so_far in
    let n = before.0 in
    let i = c.loop-self.invariant.stays in
    let e = c.stop.ensures.stays in
    record {
      so_far = (
        n + 1,
        put ∙ (ap (λ l. l ++ Stop ∷ []) before.1 ∙ (append_assoc (orders c.args.self.now) (replicate n Stop)
            (Stop ∷ []) ∙ ap (λ l. orders c.args.self.now ++ l) (replicate_more n Stop))),
      );
      stays = record { deque = e.deque ∙ i.deque; places = omega (arith, e.places, i.places); passes = e.passes ∙ i.passes };
    }

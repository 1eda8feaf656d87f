use Rattle.std.proofs.Common.{arith, true, ◌≡◌, ◌<◌, ◌≤◌, inl, inr, ⊎_elim, ap, ◌∙◌, subst, length, map, get_or, []}
use Rattle.room_ends.specs.WindowRings.{letters_known}
use Rattle.room_ends.specs.Orders.{orders, places}
use Rattle.desk_room.specs.Turns.{waiting, GainFew}
use Rattle.desk_room.specs.Keepers.{lists, known}
use Rattle.desk_room.proofs.Gains.{gains, turned_closed}
use Rattle.desk_room.proofs.Filling.{giving_waiting, giving_orders, filled}
use Rattle.desk_room.proofs.Finishing.{turned_finished}
use Rattle.desk_room.proofs.Outs.{turned_out}
use Rattle.desk_room.proofs.Closing.{turned_none, turned_orders, turned_few}
use Rattle.room_ends.specs.Benches.{back_known}
use Rattle.desk_room.proofs.Staying.{stays_then}
use Rattle.desk_room.proofs.keepers.Keeper.turn.Goals as goal

pub returns-clause-passes : goal.returns-clause-passes
returns-clause-passes c = record {
  after_hearing = _;
  after_taking = _;
  after_ordering = _;
  heard = c.hear_all-heard.ensures.heard;
  taken = c.take_all-took.ensures.took;
  ordered = c.order_all-ordered.ensures.ordered;
  given = c.give_all-delivered.ensures.gave;
}

pub returns-clause-gains : goal.returns-clause-gains
returns-clause-gains c = gains _ _ _ (returns-clause-passes c)

pub returns-clause-closed : goal.returns-clause-closed
returns-clause-closed c = turned_closed _ _ _ (returns-clause-passes c)

pub returns-clause-out : goal.returns-clause-out
returns-clause-out c = turned_out _ _ _ (returns-clause-passes c)

pub returns-clause-finished : goal.returns-clause-finished
returns-clause-finished c = turned_finished _ _ _ (returns-clause-passes c)

pub returns-clause-none_after_close : goal.returns-clause-none_after_close
returns-clause-none_after_close c = turned_none _ _ _ (returns-clause-passes c)

pub returns-clause-none_once_home : goal.returns-clause-none_once_home
unfolding returns-clause-passes
returns-clause-none_once_home c = λ h. turned_orders _ _ _ (returns-clause-passes c)
    (c.order_all-ordered.ensures.none (c.take_all-took.ensures.ends.home ∙ (c.hear_all-heard.ensures.ends.home ∙ h)))

pub returns-clause-waits : goal.returns-clause-waits
returns-clause-waits c =
    let g = c.give_all-delivered.ensures.gave in
    let same : c.take_all-took.new.self.producer ≡ c.args.self.now.producer = c.take_all-took.ensures.ends.producer ∙ c.hear_all-heard.ensures.ends.producer in
    ⊎_elim (λ (w : waiting c.order_all-ordered.new.self.desk ≡ 0). inl (giving_waiting _ _ _ g ∙ w))
    (⊎_elim (λ (h : c.order_all-ordered.new.self.is_home ≡ true). inr (inl (c.give_all-delivered.ensures.ends.home ∙ h)))
    (λ (o : places c.take_all-took.new.self.producer ≤ length (orders c.order_all-ordered.new.self.producer)).
    inr (inr (omega (arith, o, ap places same, ap length (giving_orders _ _ _ g)))))) c.order_all-ordered.ensures.waits

pub returns-clause-not_the_first : goal.returns-clause-not_the_first
returns-clause-not_the_first c =
    let g = c.give_all-delivered.ensures.gave in
    ⊎_elim (λ (w : waiting c.order_all-ordered.new.self.desk ≡ 0). inl (giving_waiting _ _ _ g ∙ w))
    (λ (o : 0 < length (orders c.order_all-ordered.new.self.producer)). inr (omega (arith, o, ap length (giving_orders _ _ _ g))))
    c.order_all-ordered.ensures.not_the_first

pub returns-clause-listened : goal.returns-clause-listened
returns-clause-listened c =
    let same : c.give_all-delivered.new.self.receivers ≡ c.hear_all-heard.new.self.receivers =
    c.give_all-delivered.ensures.ends.receivers ∙ (c.order_all-ordered.ensures.ends.receivers ∙ c.take_all-took.ensures.ends.receivers) in
    λ b. ap (λ v. get_or (map back_known v.items) b []) same ∙ c.hear_all-heard.ensures.listened b

pub returns-clause-read : goal.returns-clause-read
returns-clause-read c =
    let same : known c.give_all-delivered.new.self ≡ known c.take_all-took.new.self =
    c.give_all-delivered.ensures.known ∙ ap (λ v. map letters_known v.items) c.order_all-ordered.ensures.ends.lines in
    let size : length c.give_all-delivered.new.self.lines.items ≡ length c.take_all-took.new.self.lines.items =
    c.give_all-delivered.ensures.ends.stays.windows ∙ c.order_all-ordered.ensures.ends.stays.windows in
    λ n h. ⊎_elim (λ e. inl (ap (λ xs. get_or xs n []) same ∙ e))
    (λ e. inr (filled _ _ _ _ _ n _ _ _ _ _ _ _ _ c.hear_all-heard.ensures.heard c.take_all-took.ensures.took
    c.order_all-ordered.ensures.ordered c.give_all-delivered.ensures.gave
    (omega (arith, h, size, c.take_all-took.new.self.windows)) e))
    (c.take_all-took.ensures.read n (omega (arith, h, size)))

pub returns-clause-few : goal.returns-clause-few
returns-clause-few c =
    let h = c.hear_all-heard in
    let t = c.take_all-took in
    let o = c.order_all-ordered in
    let g = c.give_all-delivered in
    turned_few c.args.self.now.ring (lists c.args.self.now) (lists h.new.self) (lists t.new.self) (lists o.new.self)
    (lists g.new.self) _ _ _ _ _ _ _ _ h.ensures.heard t.ensures.took o.ensures.ordered g.ensures.gave
    h.ensures.few (subst (λ r. GainFew r (lists h.new.self).taken (lists t.new.self).taken) h.ensures.ends.stays.ring t.ensures.few)
    (subst (λ r. GainFew r (lists o.new.self).put (lists g.new.self).put) (o.ensures.ends.stays.ring ∙ (t.ensures.ends.stays.ring ∙ h.ensures.ends.stays.ring)) g.ensures.few)

pub returns-clause-stays : goal.returns-clause-stays
returns-clause-stays c = stays_then _ _ _ c.hear_all-heard.ensures.ends.stays (stays_then _ _ _ c.take_all-took.ensures.ends.stays
    (stays_then _ _ _ c.order_all-ordered.ensures.ends.stays c.give_all-delivered.ensures.ends.stays))

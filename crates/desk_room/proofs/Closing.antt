-- A closed desk takes no letter, and where nothing was ordered the orders stay.
use Rattle.std.proofs.Common.{◌≡◌, true≢false, ℕ, true, List, [], ◌∷◌, slice_get, refl, sym, ap, ◌∙◌}
use Rattle.desk_room.specs.Events.{RoomLists, Event, Takes, Gives, Orders, Hears, Leads, AllOf, is_heard, is_taken, is_ordered, is_given}
use Rattle.desk_room.specs.Turns.{Turned, GainFew, AreFew}
use Rattle.desk_room.specs.Passes.{Hearing, Taking, Ordering, Giving}
use Rattle.desk_room.proofs.Fewness.{few_same}
use Rattle.desk_room.specs.declared.turns.Turn.{Turn}
use Rattle.desk_room.proofs.Ahead.{accepted_open}
use Rattle.desk_room.proofs.Leaving.{run_same, run_keeps, heard_taken, heard_put, heard_orders, taken_put, taken_heard, taken_orders}
use Rattle.desk_room.proofs.Leaving.{ordered_taken, ordered_put, ordered_heard, given_taken, given_heard, given_orders, closed_kept}

none_taken : (es : List Event) (s t : RoomLists) → AllOf is_taken es → Leads es s t → s.content.closed ≡ true → t.taken ≡ s.taken
none_taken [] s t a r h = ap (λ (u : RoomLists). u.taken) r
none_taken (Takes n x ∷ es) s t a r h = absurd (true≢false (sym h ∙ (accepted_open s.content (slice_get s.content.queues n) r.0.1).0))
none_taken (Hears b x ∷ es) s t a r h = absurd (true≢false (sym a.0))
none_taken (Orders j ∷ es) s t a r h = absurd (true≢false (sym a.0))
none_taken (Gives n d ∷ es) s t a r h = absurd (true≢false (sym a.0))

pub turned_none : (s t : RoomLists) (n : Turn) → Turned s t n → s.content.closed ≡ true → t.taken ≡ s.taken
turned_none s t n r h =
    let a = r.after_hearing in
    let b = r.after_taking in
    let c = r.after_ordering in
    run_same (λ x. x.taken) is_given given_taken r.given.events c t r.given.kind r.given.leads
    ∙ (run_same (λ x. x.taken) is_ordered ordered_taken r.ordered.events b c r.ordered.kind r.ordered.leads
    ∙ (none_taken r.taken.events a b r.taken.kind r.taken.leads (run_keeps (λ x. x.content.closed) closed_kept r.heard.events s a r.heard.leads ∙ h)
    ∙ run_same (λ x. x.taken) is_heard heard_taken r.heard.events s a r.heard.kind r.heard.leads))

pub turned_orders : (s t : RoomLists) (n : Turn) (r : Turned s t n) → r.after_ordering ≡ r.after_taking → t.orders ≡ s.orders
turned_orders s t n r h =
    run_same (λ x. x.orders) is_given given_orders r.given.events r.after_ordering t r.given.kind r.given.leads
    ∙ (ap (λ (u : RoomLists). u.orders) h
    ∙ (run_same (λ x. x.orders) is_taken taken_orders r.taken.events r.after_hearing r.after_taking r.taken.kind r.taken.leads
    ∙ run_same (λ x. x.orders) is_heard heard_orders r.heard.events s r.after_hearing r.heard.kind r.heard.leads))

-- each ring is used in one pass
pub turned_few : (ring : ℕ) (s a b c t : RoomLists) (h1 h2 h3 t1 t2 t3 o g : ℕ) → Hearing s a h1 h2 h3
    → Taking a b t1 t2 t3 → Ordering b c o → Giving c t g
    → GainFew ring s.heard a.heard → GainFew ring a.taken b.taken → GainFew ring c.put t.put → AreFew ring s t
turned_few ring s a b c t h1 h2 h3 t1 t2 t3 o g h k n v few_heard few_taken few_put = record {
  taken = few_same ring s.taken a.taken b.taken t.taken few_taken (run_same (λ x. x.taken) is_heard heard_taken h.events s a h.kind h.leads)
      (run_same (λ x. x.taken) is_given given_taken v.events c t v.kind v.leads
      ∙ run_same (λ x. x.taken) is_ordered ordered_taken n.events b c n.kind n.leads);
  put = few_same ring s.put c.put t.put t.put few_put
      (run_same (λ x. x.put) is_ordered ordered_put n.events b c n.kind n.leads ∙ (run_same (λ x. x.put) is_taken taken_put
      k.events a b k.kind k.leads ∙ run_same (λ x. x.put) is_heard heard_put h.events s a h.kind h.leads)) refl;
  heard = few_same ring s.heard s.heard a.heard t.heard few_heard refl
      (run_same (λ x. x.heard) is_given given_heard v.events c t v.kind v.leads ∙ (run_same (λ x. x.heard) is_ordered
      ordered_heard n.events b c n.kind n.leads ∙ run_same (λ x. x.heard) is_taken taken_heard k.events a b k.kind k.leads));
}

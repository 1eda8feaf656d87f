-- What runs of events leave as it was, and what they add.
use Rattle.std.proofs.Common.{◌≡◌, true≢false, ℕ, ◌+◌, Bool, true, List, [], ◌∷◌, length, refl, sym, ap, ◌∙◌, arith}
use Rattle.desk_room.specs.Events.{RoomLists, Event, Takes, Gives, Orders, Hears, May, after, Leads}
use Rattle.desk_room.specs.Events.{AllOf, tally, is_heard, is_taken, is_ordered, is_given}
use Rattle.room_ends.specs.declared.letters.Letter.TheVariants.{Record, Withdrawal, Farewell}
use Rattle.room_ends.specs.declared.letters.Back.TheVariants.{Solved, Returned}

-- What each event of a kind leaves, their run leaves.
pub run_same : {X : Type 0} (f : RoomLists → X) (kind : Event → Bool) → ((e : Event) (s : RoomLists) → kind e ≡ true → May e s
    → f (after e s) ≡ f s) → (es : List Event) (s t : RoomLists) → AllOf kind es → Leads es s t → f t ≡ f s
run_same f kind each [] s t a r = ap f r
run_same f kind each (e ∷ es) s t a r = run_same f kind each es (after e s) t a.1 r.1 ∙ each e s a.0 r.0

-- what any event leaves
pub run_keeps : {X : Type 0} (f : RoomLists → X) → ((e : Event) (s : RoomLists) → f (after e s) ≡ f s)
    → (es : List Event) (s t : RoomLists) → Leads es s t → f t ≡ f s
run_keeps f each [] s t r = ap f r
run_keeps f each (e ∷ es) s t r = run_keeps f each es (after e s) t r.1 ∙ each e s

-- what each event of a kind adds, added up
pub run_adds : (f : RoomLists → ℕ) (g : Event → RoomLists → ℕ) (kind : Event → Bool)
    → ((e : Event) (s : RoomLists) → kind e ≡ true → May e s → f (after e s) ≡ f s + g e s)
    → (es : List Event) (s t : RoomLists) → AllOf kind es → Leads es s t → f t ≡ f s + tally g es s
run_adds f g kind each [] s t a r = omega (arith, ap f r)
run_adds f g kind each (e ∷ es) s t a r = omega (arith, run_adds f g kind each es (after e s) t a.1 r.1, each e s a.0 r.0)

pub run_counts : (f : RoomLists → ℕ) (kind : Event → Bool) → ((e : Event) (s : RoomLists) → kind e ≡ true → May e s
    → f (after e s) ≡ f s + 1) → (es : List Event) (s t : RoomLists) → AllOf kind es → Leads es s t → f t ≡ f s + length es
run_counts f kind each [] s t a r = omega (arith, ap f r)
run_counts f kind each (e ∷ es) s t a r = omega (arith, run_counts f kind each es (after e s) t a.1 r.1, each e s a.0 r.0)

pub heard_taken : (e : Event) (s : RoomLists) → is_heard e ≡ true → May e s → (after e s).taken ≡ s.taken
heard_taken (Hears b x) s k m = refl
heard_taken (Takes n x) s k m = absurd (true≢false (sym k))
heard_taken (Orders job) s k m = refl
heard_taken (Gives n d) s k m = refl

pub heard_put : (e : Event) (s : RoomLists) → is_heard e ≡ true → May e s → (after e s).put ≡ s.put
heard_put (Hears b x) s k m = refl
heard_put (Takes n x) s k m = refl
heard_put (Orders job) s k m = refl
heard_put (Gives n d) s k m = absurd (true≢false (sym k))

pub heard_orders : (e : Event) (s : RoomLists) → is_heard e ≡ true → May e s → (after e s).orders ≡ s.orders
heard_orders (Hears b x) s k m = refl
heard_orders (Takes n x) s k m = refl
heard_orders (Orders job) s k m = absurd (true≢false (sym k))
heard_orders (Gives n d) s k m = refl

pub taken_put : (e : Event) (s : RoomLists) → is_taken e ≡ true → May e s → (after e s).put ≡ s.put
taken_put (Hears b x) s k m = refl
taken_put (Takes n x) s k m = refl
taken_put (Orders job) s k m = refl
taken_put (Gives n d) s k m = absurd (true≢false (sym k))

pub taken_heard : (e : Event) (s : RoomLists) → is_taken e ≡ true → May e s → (after e s).heard ≡ s.heard
taken_heard (Hears b x) s k m = absurd (true≢false (sym k))
taken_heard (Takes n x) s k m = refl
taken_heard (Orders job) s k m = refl
taken_heard (Gives n d) s k m = refl

pub taken_orders : (e : Event) (s : RoomLists) → is_taken e ≡ true → May e s → (after e s).orders ≡ s.orders
taken_orders (Hears b x) s k m = refl
taken_orders (Takes n x) s k m = refl
taken_orders (Orders job) s k m = absurd (true≢false (sym k))
taken_orders (Gives n d) s k m = refl

pub ordered_taken : (e : Event) (s : RoomLists) → is_ordered e ≡ true → May e s → (after e s).taken ≡ s.taken
ordered_taken (Hears b x) s k m = refl
ordered_taken (Takes n x) s k m = absurd (true≢false (sym k))
ordered_taken (Orders job) s k m = refl
ordered_taken (Gives n d) s k m = refl

pub ordered_put : (e : Event) (s : RoomLists) → is_ordered e ≡ true → May e s → (after e s).put ≡ s.put
ordered_put (Hears b x) s k m = refl
ordered_put (Takes n x) s k m = refl
ordered_put (Orders job) s k m = refl
ordered_put (Gives n d) s k m = absurd (true≢false (sym k))

pub ordered_heard : (e : Event) (s : RoomLists) → is_ordered e ≡ true → May e s → (after e s).heard ≡ s.heard
ordered_heard (Hears b x) s k m = absurd (true≢false (sym k))
ordered_heard (Takes n x) s k m = refl
ordered_heard (Orders job) s k m = refl
ordered_heard (Gives n d) s k m = refl

pub ordered_next : (e : Event) (s : RoomLists) → is_ordered e ≡ true → May e s → (after e s).content.next ≡ s.content.next
ordered_next (Hears b (Solved d)) s k m = refl
ordered_next (Hears b (Returned j)) s k m = refl
ordered_next (Takes n x) s k m = absurd (true≢false (sym k))
ordered_next (Orders job) s k m = refl
ordered_next (Gives n d) s k m = refl

pub given_taken : (e : Event) (s : RoomLists) → is_given e ≡ true → May e s → (after e s).taken ≡ s.taken
given_taken (Hears b x) s k m = refl
given_taken (Takes n x) s k m = absurd (true≢false (sym k))
given_taken (Orders job) s k m = refl
given_taken (Gives n d) s k m = refl

pub given_heard : (e : Event) (s : RoomLists) → is_given e ≡ true → May e s → (after e s).heard ≡ s.heard
given_heard (Hears b x) s k m = absurd (true≢false (sym k))
given_heard (Takes n x) s k m = refl
given_heard (Orders job) s k m = refl
given_heard (Gives n d) s k m = refl

pub given_orders : (e : Event) (s : RoomLists) → is_given e ≡ true → May e s → (after e s).orders ≡ s.orders
given_orders (Hears b x) s k m = refl
given_orders (Takes n x) s k m = refl
given_orders (Orders job) s k m = absurd (true≢false (sym k))
given_orders (Gives n d) s k m = refl

pub given_next : (e : Event) (s : RoomLists) → is_given e ≡ true → May e s → (after e s).content.next ≡ s.content.next
given_next (Hears b (Solved d)) s k m = refl
given_next (Hears b (Returned j)) s k m = refl
given_next (Takes n x) s k m = absurd (true≢false (sym k))
given_next (Orders job) s k m = refl
given_next (Gives n d) s k m = refl

pub closed_kept : (e : Event) (s : RoomLists) → (after e s).content.closed ≡ s.content.closed
closed_kept (Hears b (Solved d)) s = refl
closed_kept (Hears b (Returned j)) s = refl
closed_kept (Takes n (Record r)) s = refl
closed_kept (Takes n (Withdrawal m)) s = refl
closed_kept (Takes n Farewell) s = refl
closed_kept (Orders job) s = refl
closed_kept (Gives n d) s = refl

-- Each step of the keeper is an event over its lists.
use Rattle.std.proofs.Common.{◌+◌, ◌≡◌, ◌<◌, ℕ, zero, suc, Bool, true, false, if◌then◌else◌, List, [], ◌∷◌, ◌++◌}
use Rattle.std.proofs.Common.{length, map, set, get_or, replicate, refl, sym, ap, ◌∙◌, subst, arith, length-set}
use Rattle.mate_jobs.specs.Jobs.{Task}
use Rattle.mate_desk.specs.Content.{Content, QueueValue, EntryValue, Waiting, Out, Finished, waits_as, is_out_with}
use Rattle.mate_desk.specs.Calls.{change_at, in_queue, into_phase, with_entry, withdrawn_at, collected, after_take, after_collect}
use Rattle.mate_jobs.specs.declared.deliveries.Delivery.{Delivery}
use Rattle.room_ends.specs.DequeRule.{stops}
use Rattle.room_ends.specs.Benches.{heard}
use Rattle.room_ends.specs.WindowRings.{letters_taken, deliveries_put}
use Rattle.desk_room.specs.Events.{RoomLists, Takes, Gives, Orders, Hears, May, after, one_more, taking, hearing}
use Rattle.desk_room.specs.Kept.{room_of, AreOwed, AreMarked}
use Rattle.desk_room.specs.Passes.{Taking, Giving, Hearing}
use Rattle.desk_room.specs.inside.Steps.{HeardOne, TookOne, OrderedOne, GaveOne, Trying}
use Rattle.desk_room.specs.Turns.{waiting}
use Rattle.room_ends.specs.declared.letters.Letter.{Letter}
use Rattle.room_ends.specs.declared.letters.Letter.TheVariants.{Record, Withdrawal, Farewell}
use Rattle.room_ends.specs.declared.letters.Back.{Back}
use Rattle.room_ends.specs.declared.letters.Back.TheVariants.{Solved, Returned}
use Rattle.room_ends.specs.declared.deque_rule.Order.{Order}
use Rattle.room_ends.specs.declared.deque_rule.Order.TheVariants.{Solve, Stop}
use Rattle.room_ends.specs.declared.back_receiver.BackReceiver.{BackReceiver}
use Rattle.room_ends.specs.declared.window_ring_line.Line.{Line}
use Rattle.desk_room.specs.declared.turns.back_pass.Heard.{Heard}
use Rattle.desk_room.specs.declared.turns.letter_pass.Took.{Took}
use Rattle.desk_room.specs.declared.turns.order_pass.Tried.{Tried}
use Rattle.desk_room.specs.declared.turns.order_pass.Tried.TheVariants.{Ordered, Refused, NoneWaits}
use Rattle.desk_room.proofs.Places.{map_change, map_same, map_length, head_is, tail_is}
use Rattle.desk_room.proofs.Runs.{taking_one, hearing_one, ordering_one, giving_one, giving_same}
use Rattle.desk_room.proofs.Owing.{owed_after, owed_run}
use Rattle.desk_room.proofs.Marking.{marked_step, marked_same, marked_runs}
use Rattle.desk_room.proofs.Filling.{room_withdrawn, room_collected}
use Rattle.desk_room.proofs.GoingOut.{waiting_less}

-- the lists of these parts
abbrev pub of : List Line → List BackReceiver → List Order → Content → RoomLists
of ls es os c = record { taken = map letters_taken ls; put = map deliveries_put ls; heard = map heard es; orders = os; content = c }

abbrev with : List (List Letter) → List (List Delivery) → List (List Back) → List Order → Content → RoomLists
with ts ps hs os c = record { taken = ts; put = ps; heard = hs; orders = os; content = c }

with_is : (ts us : List (List Letter)) (ps qs : List (List Delivery)) (hs : List (List Back)) (os : List Order) (c d : Content)
    → ts ≡ us → ps ≡ qs → c ≡ d → with ts ps hs os c ≡ with us qs hs os d
with_is ts us ps qs hs os c d e f g =
    ap (λ (x : List (List Letter)). with x ps hs os c) e
    ∙ (ap (λ (x : List (List Delivery)). with us x hs os c) f ∙ ap (λ (x : Content). with us qs hs os x) g)

-- nothing taken or put at the n-th line
pub of_same : (ls : List Line) (n : ℕ) (l m : Line) (es : List BackReceiver) (os : List Order) (c : Content) → n < length ls
    → l ≡ get_or ls n l → letters_taken m ≡ letters_taken l → deliveries_put m ≡ deliveries_put l
    → of (set ls n m) es os c ≡ of ls es os c
of_same ls n l m es os c h e t p =
    with_is _ _ _ _ (map heard es) os c c (map_same letters_taken ls n l m h e t) (map_same deliveries_put ls n l m h e p) refl

-- nothing heard at the b-th ring
pub receivers_same : (ls : List Line) (es : List BackReceiver) (b : ℕ) (l m : BackReceiver) (os : List Order) (c : Content)
    → b < length es → l ≡ get_or es b l → heard m ≡ heard l → of ls (set es b m) os c ≡ of ls es os c
receivers_same ls es b l m os c h e t = ap (λ hs. with (map letters_taken ls) (map deliveries_put ls) hs os c) (map_same heard es b l m h e t)

-- a letter taken
took_event : (ls : List Line) (n : ℕ) (l m : Line) (es : List BackReceiver) (os : List Order) (c d : Content) (k : Took)
    → n < length ls → l ≡ get_or ls n l → (t : TookOne n l m c d k) → deliveries_put m ≡ deliveries_put l
    → of (set ls n m) es os d ≡ after (Takes n t.letter) (of ls es os c)
took_event ls n l m es os c d k h e t p = with_is _ _ _ _ (map heard es) os d (taking n t.letter c)
    (map_change letters_taken (one_more t.letter) ls n l m h e t.taken) (map_same deliveries_put ls n l m h e p) t.content

may_take : (ls : List Line) (n : ℕ) (x : Letter) (es : List BackReceiver) (os : List Order) (c : Content) → n < length ls
    → Rattle.desk_room.specs.Events.accepts c n ≡ true → May (Takes n x) (of ls es os c)
may_take ls n x es os c h a = (omega (arith, h, map_length letters_taken ls), a)

pub took_step : (ls : List Line) (n : ℕ) (l m : Line) (es : List BackReceiver) (os : List Order) (c d : Content) (k : Took)
    → n < length ls → l ≡ get_or ls n l → Rattle.desk_room.specs.Events.accepts c n ≡ true → TookOne n l m c d k
    → deliveries_put m ≡ deliveries_put l → Taking (of ls es os c) (of (set ls n m) es os d) k.accepted k.byes k.withdrawn
took_step ls n l m es os c d k h e a t p = taking_one _ _ n t.letter _ _ _ (may_take ls n t.letter es os c h a)
    (took_event ls n l m es os c d k h e t p) t.accepted t.byes t.withdrawn

pub took_owed : (ls : List Line) (n : ℕ) (l m : Line) (es : List BackReceiver) (os : List Order) (c d : Content) (k : Took)
    → n < length ls → l ≡ get_or ls n l → Rattle.desk_room.specs.Events.accepts c n ≡ true → TookOne n l m c d k
    → deliveries_put m ≡ deliveries_put l → AreOwed (of ls es os c) → AreOwed (of (set ls n m) es os d)
took_owed ls n l m es os c d k h e a t p o = subst AreOwed (sym (took_event ls n l m es os c d k h e t p))
    (owed_after (Takes n t.letter) (of ls es os c) (may_take ls n t.letter es os c h a) o)

pub took_marked : (ls : List Line) (n : ℕ) (l m : Line) (es : List BackReceiver) (os : List Order) (c d : Content) (k : Took)
    → n < length ls → l ≡ get_or ls n l → Rattle.desk_room.specs.Events.accepts c n ≡ true → TookOne n l m c d k
    → deliveries_put m ≡ deliveries_put l → ∥ AreMarked (of ls es os c) ∥₁ → ∥ AreMarked (of (set ls n m) es os d) ∥₁
took_marked ls n l m es os c d k h e a t p o = marked_step (Takes n t.letter) (of ls es os c) _
    (may_take ls n t.letter es os c h a) (took_event ls n l m es os c d k h e t p) o

-- a job heard
heard_event : (ls : List Line) (es : List BackReceiver) (b : ℕ) (l m : BackReceiver) (os : List Order) (c d : Content) (k : Heard)
    → b < length es → l ≡ get_or es b l → (t : HeardOne l m c d k)
    → of ls (set es b m) os d ≡ after (Hears b t.back) (of ls es os c)
heard_event ls es b l m os c d k h e t =
    ap (λ hs. with (map letters_taken ls) (map deliveries_put ls) hs os d) (map_change heard (one_more t.back) es b l m h e t.heard)
    ∙ ap (λ (x : Content). with (map letters_taken ls) (map deliveries_put ls) (change_at b (one_more t.back) (map heard es)) os x) t.content

may_hear : (ls : List Line) (es : List BackReceiver) (b : ℕ) (x : Back) (os : List Order) (c : Content)
    → b < length es → May (Hears b x) (of ls es os c)
may_hear ls es b x os c h = omega (arith, map_length heard es)

pub heard_step : (ls : List Line) (es : List BackReceiver) (b : ℕ) (l m : BackReceiver) (os : List Order) (c d : Content)
    (k : Heard) → b < length es → l ≡ get_or es b l → HeardOne l m c d k
    → Hearing (of ls es os c) (of ls (set es b m) os d) k.solved k.returned k.strangers
heard_step ls es b l m os c d k h e t = hearing_one _ _ b t.back _ _ _ (may_hear ls es b t.back os c h)
    (heard_event ls es b l m os c d k h e t) t.solved t.returned t.strangers

pub heard_owed : (ls : List Line) (es : List BackReceiver) (b : ℕ) (l m : BackReceiver) (os : List Order) (c d : Content)
    (k : Heard) → b < length es → l ≡ get_or es b l → HeardOne l m c d k
    → AreOwed (of ls es os c) → AreOwed (of ls (set es b m) os d)
heard_owed ls es b l m os c d k h e t o = subst AreOwed (sym (heard_event ls es b l m os c d k h e t))
    (owed_after (Hears b t.back) (of ls es os c) (may_hear ls es b t.back os c h) o)

pub heard_marked : (ls : List Line) (es : List BackReceiver) (b : ℕ) (l m : BackReceiver) (os : List Order) (c d : Content)
    (k : Heard) → b < length es → l ≡ get_or es b l → HeardOne l m c d k → ∥ AreMarked (of ls es os c) ∥₁
    → ∥ AreMarked (of ls (set es b m) os d) ∥₁
heard_marked ls es b l m os c d k h e t o =
    marked_step (Hears b t.back) (of ls es os c) _ (may_hear ls es b t.back os c h) (heard_event ls es b l m os c d k h e t) o

-- a job ordered
ordered_event : (ts : List (List Letter)) (ps : List (List Delivery)) (hs : List (List Back)) (old new : List Order)
    (c d : Content) (job : Task) → new ≡ old ++ Solve job ∷ [] → d ≡ after_take c job
    → with ts ps hs new d ≡ after (Orders job) (with ts ps hs old c)
ordered_event ts ps hs old new c d job e f =
    ap (λ (os : List Order). with ts ps hs os d) e ∙ ap (λ (y : Content). with ts ps hs (old ++ Solve job ∷ []) y) f

ordered_none : (ts : List (List Letter)) (ps : List (List Delivery)) (hs : List (List Back)) (old new : List Order)
    (c d : Content) → new ≡ old → d ≡ c → with ts ps hs new d ≡ with ts ps hs old c
ordered_none ts ps hs old new c d e f = ap (λ (os : List Order). with ts ps hs os d) e ∙ ap (λ (y : Content). with ts ps hs old y) f

pub ordered_tried : (p : Tried) (ts : List (List Letter)) (ps : List (List Delivery)) (hs : List (List Back))
    (old new : List Order) (c d : Content) → OrderedOne old new c d p → Trying (with ts ps hs old c) (with ts ps hs new d) p
ordered_tried Ordered ts ps hs old new c d g = (
  ordering_one _ _ g.0 (g.1, g.2, g.3)
      (ordered_event ts ps hs old new c d g.0 g.4 g.5),
  omega (arith, ap waiting g.5, waiting_less g.0 c g.2),
)
ordered_tried Refused ts ps hs old new c d g = (ordered_none ts ps hs old new c d g.0 g.1, omega (arith, g.2, ap length g.0))
ordered_tried NoneWaits ts ps hs old new c d g = (ordered_none ts ps hs old new c d g.0 g.1, ap waiting g.1 ∙ g.2)

pub ordered_owed : (p : Tried) (ts : List (List Letter)) (ps : List (List Delivery)) (hs : List (List Back)) (old new : List
    Order) (c d : Content) → OrderedOne old new c d p → AreOwed (with ts ps hs old c) → AreOwed (with ts ps hs new d)
ordered_owed Ordered ts ps hs old new c d g o = subst AreOwed (sym (ordered_event ts ps hs old new c d g.0 g.4 g.5))
    (owed_after (Orders g.0) (with ts ps hs old c) (g.1, g.2, g.3) o)
ordered_owed Refused ts ps hs old new c d g o = subst AreOwed (sym (ordered_none ts ps hs old new c d g.0 g.1)) o
ordered_owed NoneWaits ts ps hs old new c d g o = subst AreOwed (sym (ordered_none ts ps hs old new c d g.0 g.1)) o

pub ordered_marked : (p : Tried) (ts : List (List Letter)) (ps : List (List Delivery)) (hs : List (List Back))
    (old new : List Order) (c d : Content) → OrderedOne old new c d p
    → ∥ AreMarked (with ts ps hs old c) ∥₁ → ∥ AreMarked (with ts ps hs new d) ∥₁
ordered_marked Ordered ts ps hs old new c d g o =
    marked_step (Orders g.0) (with ts ps hs old c) _ (g.1, g.2, g.3) (ordered_event ts ps hs old new c d g.0 g.4 g.5) o
ordered_marked Refused ts ps hs old new c d g o = marked_same _ _ (ordered_none ts ps hs old new c d g.0 g.1) o
ordered_marked NoneWaits ts ps hs old new c d g o = marked_same _ _ (ordered_none ts ps hs old new c d g.0 g.1) o

stops_before : (xs : List Order) (job : Task) → stops (xs ++ Solve job ∷ []) ≡ stops xs
stops_before [] job = refl
stops_before (Solve j ∷ xs) job = stops_before xs job
stops_before (Stop ∷ xs) job = ap (λ n. n + 1) (stops_before xs job)

pub ordered_stops : (p : Tried) (old new : List Order) (c d : Content) → OrderedOne old new c d p → stops new ≡ stops old
ordered_stops Ordered old new c d g = ap stops g.4 ∙ stops_before old g.0
ordered_stops Refused old new c d g = ap stops g.0
ordered_stops NoneWaits old new c d g = ap stops g.0

-- a delivery given
given_event : (ls : List Line) (n : ℕ) (l m : Line) (x : Delivery) (es : List BackReceiver) (os : List Order) (c d : Content)
    → n < length ls → l ≡ get_or ls n l → deliveries_put m ≡ deliveries_put l ++ x ∷ [] → letters_taken m ≡ letters_taken l
    → d ≡ after_collect c n → of (set ls n m) es os d ≡ after (Gives n x) (of ls es os c)
given_event ls n l m x es os c d h e p t g = with_is _ _ _ _ (map heard es) os d (after_collect c n)
    (map_same letters_taken ls n l m h e t) (map_change deliveries_put (one_more x) ls n l m h e p) g

pub gave_step : (b : Bool) (ls : List Line) (n : ℕ) (l m : Line) (es : List BackReceiver) (os : List Order) (c d : Content)
    → n < length ls → l ≡ get_or ls n l → letters_taken m ≡ letters_taken l → GaveOne n l m c d b
    → Giving (of ls es os c) (of (set ls n m) es os d) (if b then 1 else 0)
gave_step true ls n l m es os c d h e t g = giving_one _ _ n g.0 (omega (arith, h, map_length deliveries_put ls), g.1)
    (given_event ls n l m g.0 es os c d h e g.2 t g.3)
gave_step false ls n l m es os c d h e t g = giving_same _ _ (with_is _ _ _ _ (map heard es) os d c
    (map_same letters_taken ls n l m h e t) (map_same deliveries_put ls n l m h e g.0) g.1)

pub gave_owed : (b : Bool) (ls : List Line) (n : ℕ) (l m : Line) (es : List BackReceiver) (os : List Order) (c d : Content)
    → n < length ls → l ≡ get_or ls n l → letters_taken m ≡ letters_taken l → GaveOne n l m c d b
    → AreOwed (of ls es os c) → AreOwed (of (set ls n m) es os d)
gave_owed b ls n l m es os c d h e t g o = let s = gave_step b ls n l m es os c d h e t g in owed_run s.events _ _ s.leads o

pub gave_marked : (b : Bool) (ls : List Line) (n : ℕ) (l m : Line) (es : List BackReceiver) (os : List Order) (c d : Content)
    → n < length ls → l ≡ get_or ls n l → letters_taken m ≡ letters_taken l → GaveOne n l m c d b
    → ∥ AreMarked (of ls es os c) ∥₁ → ∥ AreMarked (of (set ls n m) es os d) ∥₁
gave_marked b ls n l m es os c d h e t g o = let s = gave_step b ls n l m es os c d h e t g in marked_runs s.events _ _ s.leads o

-- The rooms of the queues stay, and how many they are.
rooms_map : (f : EntryValue → EntryValue) (qs : List QueueValue) → map room_of (map (in_queue f) qs) ≡ map room_of qs
rooms_map f [] = refl
rooms_map f (q ∷ qs) = ap (λ l. q.room ∷ l) (rooms_map f qs)

rooms_change : (n : ℕ) (g : QueueValue → QueueValue) (qs : List QueueValue) → ((q : QueueValue) → (g q).room ≡ q.room)
    → map room_of (change_at n g qs) ≡ map room_of qs
rooms_change zero g [] each = refl
rooms_change (suc n) g [] each = refl
rooms_change zero g (q ∷ qs) each = ap (λ r. r ∷ map room_of qs) (each q)
rooms_change (suc n) g (q ∷ qs) each = ap (λ l. q.room ∷ l) (rooms_change n g qs each)

pub rooms_taken : (n : ℕ) (x : Letter) (c : Content) → map room_of (taking n x c).queues ≡ map room_of c.queues
rooms_taken n (Record r) c = rooms_change n (with_entry c.next r) c.queues (λ q. refl)
rooms_taken n (Withdrawal m) c = rooms_change n (withdrawn_at m) c.queues (room_withdrawn m)
rooms_taken n Farewell c = refl

pub rooms_heard : (x : Back) (c : Content) → map room_of (hearing x c).queues ≡ map room_of c.queues
rooms_heard (Solved d) c = rooms_map (into_phase (is_out_with d) Finished) c.queues
rooms_heard (Returned j) c = rooms_map (into_phase (is_out_with j) Waiting) c.queues

pub rooms_ordered : (p : Tried) (old new : List Order) (c d : Content) → OrderedOne old new c d p → map room_of d.queues ≡ map room_of c.queues
rooms_ordered Ordered old new c d g = ap (λ (x : Content). map room_of x.queues) g.5 ∙ rooms_map (into_phase (waits_as g.0) Out) c.queues
rooms_ordered Refused old new c d g = ap (λ (x : Content). map room_of x.queues) g.1
rooms_ordered NoneWaits old new c d g = ap (λ (x : Content). map room_of x.queues) g.1

pub rooms_given : (b : Bool) (n : ℕ) (l m : Line) (c d : Content) → GaveOne n l m c d b → map room_of d.queues ≡ map room_of c.queues
rooms_given true n l m c d g = ap (λ (x : Content). map room_of x.queues) g.3 ∙ rooms_change n collected c.queues room_collected
rooms_given false n l m c d g = ap (λ (x : Content). map room_of x.queues) g.1

-- as many queues as rooms
pub queues_by_rooms : (c d : Content) → map room_of d.queues ≡ map room_of c.queues → length d.queues ≡ length c.queues
queues_by_rooms c d e = sym (map_length room_of d.queues) ∙ (ap length e ∙ map_length room_of c.queues)

pub rooms_still : (c d : Content) (ring : ℕ) → map room_of d.queues ≡ map room_of c.queues
    → map room_of c.queues ≡ replicate (length c.queues) ring → map room_of d.queues ≡ replicate (length d.queues) ring
rooms_still c d ring e k = e ∙ (k ∙ ap (λ n. replicate n ring) (sym (queues_by_rooms c d e)))

pub took_rooms : (n : ℕ) (l m : Line) (c d : Content) (k : Took) → TookOne n l m c d k → map room_of d.queues ≡ map room_of c.queues
took_rooms n l m c d k t = ap (λ (x : Content). map room_of x.queues) t.content ∙ rooms_taken n t.letter c

pub heard_rooms : (l m : BackReceiver) (c d : Content) (k : Heard) → HeardOne l m c d k → map room_of d.queues ≡ map room_of c.queues
heard_rooms l m c d k t = ap (λ (x : Content). map room_of x.queues) t.content ∙ rooms_heard t.back c

-- of lines or receivers, which all have rings of one size
pub rings_set : {A : Type 0} (f : A → ℕ) (xs : List A) (n : ℕ) (x y : A) (ring : ℕ) → n < length xs → x ≡ get_or xs n x
    → f y ≡ f x → map f xs ≡ replicate (length xs) ring → map f (set xs n y) ≡ replicate (length (set xs n y)) ring
rings_set f xs n x y ring h e s k = map_same f xs n x y h e s ∙ (k ∙ ap (λ j. replicate j ring) (sym (length-set xs n y)))

pub ring_at : {A : Type 0} (f : A → ℕ) (xs : List A) (n : ℕ) (x : A) (ring : ℕ) → n < length xs → x ≡ get_or xs n x
    → map f xs ≡ replicate (length xs) ring → f x ≡ ring
ring_at f [] n x ring h e k = absurd (omega arith)
ring_at f (y ∷ xs) zero x ring h e k = ap f e ∙ head_is 0 (f y) ring _ _ k
ring_at f (y ∷ xs) (suc n) x ring h e k = ring_at f xs n x ring (omega arith) e (tail_is (f y) ring _ _ k)

-- A room that was opened: nothing in its lists.
use Rattle.std.proofs.Common.{◌≡◌, ℕ, zero, suc, List, [], ◌∷◌, length, map, replicate, refl, sym, ap, ◌∙◌}
use Rattle.mate_desk.specs.Content.{QueueValue}
use Rattle.mate_jobs.specs.declared.deliveries.Delivery.{Delivery}
use Rattle.room_ends.specs.Letters.{records}
use Rattle.desk_room.specs.Kept.{room_of, owed, EachIsMarked}
use Rattle.room_ends.specs.declared.letters.Letter.{Letter}

abbrev no_queue : ℕ → QueueValue
no_queue room = record { room = room; delivered = 0; pending = [] }

owed_new : (n room : ℕ) → map records (replicate n []) ≡ owed (replicate n []) (replicate n (no_queue room))
owed_new zero room = refl
owed_new (suc n) room = ap (λ l. [] ∷ l) (owed_new n room)

pub owed_fresh : (n room : ℕ) (ts : List (List Letter)) (ps : List (List Delivery)) (qs : List QueueValue) → ts ≡ replicate n []
    → ps ≡ replicate n [] → qs ≡ replicate n (no_queue room) → map records ts ≡ owed ps qs
owed_fresh n room ts ps qs e f g = ap (map records) e
    ∙ (owed_new n room ∙ (ap (λ p. owed p (replicate n (no_queue room))) (sym f) ∙ ap (owed ps) (sym g)))

marked_new : (n room : ℕ) → EachIsMarked (replicate n []) (replicate n []) (replicate n (no_queue room))
marked_new zero room = tt
marked_new (suc n) room = (record { delivered = refl; counted = refl; withdrawn = refl; notices = refl }, marked_new n room)

pub marked_fresh : (n room : ℕ) (ts : List (List Letter)) (ps : List (List Delivery)) (qs : List QueueValue) → ts ≡ replicate n []
    → ps ≡ replicate n [] → qs ≡ replicate n (no_queue room) → EachIsMarked ts ps qs
marked_fresh n room ts ps qs e f g = rw (e, f, g) (marked_new n room)

pub queues_fresh : {A : Type 0} (n : ℕ) (a : A) → length (replicate n a) ≡ n
queues_fresh zero a = refl
queues_fresh (suc n) a = ap suc (queues_fresh n a)

rooms_new : (n room : ℕ) → map room_of (replicate n (no_queue room)) ≡ replicate n room
rooms_new zero room = refl
rooms_new (suc n) room = ap (λ l. room ∷ l) (rooms_new n room)

pub rooms_fresh : (n room : ℕ) (qs : List QueueValue) → qs ≡ replicate n (no_queue room) → map room_of qs ≡ replicate (length qs) room
rooms_fresh n room qs e = ap (map room_of) e ∙ (rooms_new n room ∙ ap (λ k. replicate k room) (sym (ap length e ∙ queues_fresh n (no_queue room))))

-- A bench that works: what it got and gave back grows by what its gate was asked about.
use Rattle.std.proofs.Common.{◌≡◌, ℕ, zero, suc, ◌+◌, ◌<◌, Bool, List, [], ◌∷◌, ◌++◌, length, map, refl, sym, ap, subst, ◌∙◌, append-nil, append_assoc, arith}
use Rattle.std.proofs.lemmas.List.{map-append}
use Rattle.std.proofs.lemmas.List.Elements.{All-nil, All-push}
use Rattle.mate_jobs.specs.Jobs.{Task}
use Rattle.room_ends.specs.Benches.{got, given}
use Rattle.room_ends.specs.DequeRule.{stops}
use Rattle.room_ends.specs.Orders.{taken_order}
use Rattle.room_ends.specs.declared.benches.Bench.{Bench}
use Rattle.room_ends.specs.declared.deque_rule.Order.{Order}
use Rattle.room_ends.specs.declared.deque_rule.Order.TheVariants.{Solve, Stop as Stopped}
use Rattle.room_ends.specs.declared.order_stealer.Taken.{Taken}
use Rattle.room_ends.specs.declared.order_stealer.Taken.TheVariants.{Job, Stop, Nothing}
use Rattle.desk_room.specs.Serving.{back_of}
use Rattle.desk_room.specs.inside.Threads.{AllHeed, Heeds, HeedsAll}

-- Nothing is done yet.
pub heeds_none : (answers : ℕ → Bool → Type 0) (b : Bench) → Heeds answers b b []
heeds_none answers b = record {
  asked = [];
  may_come = All-nil (λ (a : Task × Bool). answers a.0.ticket a.1);
  orders = sym (append-nil (got b));
  backs = sym (append-nil (given b));
}

-- One more order is taken.
pub heeds_more : (answers : ℕ → Bool → Type 0) (a b c : Bench) (last : List Order) → Heeds answers a b [] → got c ≡ got b ++ last
    → given c ≡ given b → Heeds answers a c last
heeds_more answers a b c last h more same = record {
  asked = h.asked;
  may_come = h.may_come;
  orders = more ∙ (ap (λ l. l ++ last) (h.orders ∙ ap (λ l. got a ++ l) (append-nil (map (λ x. Solve x.0) h.asked)))
      ∙ append_assoc (got a) (map (λ x. Solve x.0) h.asked) last);
  backs = same ∙ h.backs;
}

-- What was taken, where it was no stop.
pub took : (had has : List Order) (t : Taken) → (t ≡ Stop → ⊥) → (stops had ≡ 0 → has ≡ had ++ taken_order t)
    → (0 < stops had → (t ≡ Stop) × (has ≡ had)) → has ≡ had ++ taken_order t
took had has t none free stopped = by_stops (stops had) refl
  where
    by_stops : (n : ℕ) → stops had ≡ n → has ≡ had ++ taken_order t
    by_stops zero e = free e
    by_stops (suc n) e = absurd (none (stopped (omega (arith, e))).0)

-- It took a job, and nothing was got or given since.
pub heeds_job : (answers : ℕ → Bool → Type 0) (a b c d : Bench) (job : Task) → Heeds answers a b []
    → (stops (got b) ≡ 0 → got c ≡ got b ++ Solve job ∷ []) → (0 < stops (got b) → (Job job ≡ Stop) × (got c ≡ got b))
    → given c ≡ given b → got d ≡ got c → given d ≡ given c → Heeds answers a d (Solve job ∷ [])
heeds_job answers a b c d job h free stopped same got given =
    heeds_more answers a b d (Solve job ∷ []) h (got ∙ took _ _ (Job job) other free stopped) (given ∙ same)
  where
    other : Job job ≡ Stop → ⊥
    other e = cc

-- It found nothing.
pub heeds_nothing : (answers : ℕ → Bool → Type 0) (a b c : Bench) → Heeds answers a b []
    → (stops (got b) ≡ 0 → got c ≡ got b ++ [])
    → (0 < stops (got b) → (Nothing ≡ Stop) × (got c ≡ got b)) → given c ≡ given b → Heeds answers a c []
heeds_nothing answers a b c h free stopped same = heeds_more answers a b c [] h (took (got b) (got c) Nothing other free stopped) same
  where
    other : Nothing ≡ Stop → ⊥
    other e = cc

-- It took a stop, or was stopped before.
pub heeds_stop : (answers : ℕ → Bool → Type 0) (a b c : Bench) → Heeds answers a b [] → (stops (got b) ≡ 0 → got c ≡ got b ++ Stopped ∷ [])
    → (0 < stops (got b) → (Stop ≡ Stop) × (got c ≡ got b)) → given c ≡ given b → HeedsAll answers a c
heeds_stop answers a b c h free stopped same = by_stops (stops (got b)) refl
  where
    by_stops : (n : ℕ) → stops (got b) ≡ n → HeedsAll answers a c
    by_stops zero e = (Stopped ∷ [], omega arith, heeds_more answers a b c (Stopped ∷ []) h (free e) same)
    by_stops (suc n) e = ([], omega arith, heeds_more answers a b c [] h ((stopped (omega (arith, e))).1 ∙ sym (append-nil (got b))) same)

-- It gave the job back.
pub heeds_back : (answers : ℕ → Bool → Type 0) (a b c : Bench) (job : Task) → Heeds answers a b (Solve job ∷ []) → got c ≡ got b
    → ((passed : Bool) × answers job.ticket passed × (given c ≡ given b ++ back_of passed job ∷ [])) → Heeds answers a c []
heeds_back answers a b c job h same (passed, may, gave) = record {
  asked = h.asked ++ (job, passed) ∷ [];
  may_come = All-push (λ (x : Task × Bool). answers x.0.ticket x.1) h.asked (job, passed) h.may_come may;
  orders = same ∙ (h.orders ∙ ap (λ l. got a ++ l) (sym (map-append (λ x. Solve x.0) h.asked ((job, passed) ∷ []))
      ∙ sym (append-nil (map (λ x. Solve x.0) (h.asked ++ (job, passed) ∷ [])))));
  backs = gave ∙ (ap (λ l. l ++ back_of passed job ∷ []) h.backs
      ∙ (append_assoc (given a) (map (λ x. back_of x.1 x.0) h.asked) (back_of passed job ∷ [])
      ∙ ap (λ l. given a ++ l) (sym (map-append (λ x. back_of x.1 x.0) h.asked ((job, passed) ∷ [])))));
}

-- One bench more, known by the next number.
heed_snoc : (answers : ℕ → ℕ → Bool → Type 0) (n : ℕ) (bs cs : List Bench) (b c : Bench) → AllHeed answers n bs cs
    → HeedsAll (answers (n + length bs)) b c → AllHeed answers n (bs ++ b ∷ []) (cs ++ c ∷ [])
heed_snoc answers n [] [] b c all one = (subst (λ k. HeedsAll (answers k) b c) (omega arith) one, tt)
heed_snoc answers n [] (d ∷ cs) b c all one = absurd all
heed_snoc answers n (a ∷ bs) [] b c all one = absurd all
heed_snoc answers n (a ∷ bs) (d ∷ cs) b c all one = (
  all.0,
  heed_snoc answers (n + 1) bs cs b c all.1 (subst (λ k. HeedsAll (answers k) b c) (omega arith) one),
)

pub heed_more : (answers : ℕ → ℕ → Bool → Type 0) (benches bs all cs : List Bench) (b c : Bench) (number : ℕ) → benches ≡ bs ++ b ∷ []
    → all ≡ cs ++ c ∷ [] → number ≡ length bs → AllHeed answers 0 bs cs → HeedsAll (answers number) b c → AllHeed answers 0 benches all
heed_more answers benches bs all cs b c number p q r rest one =
    rw (p, q) (heed_snoc answers 0 bs cs b c rest (subst (λ k. HeedsAll (answers k) b c) (omega (arith, r)) one))

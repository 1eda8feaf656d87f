-- One more end of a room that is opened.
use Rattle.std.proofs.Common.{◌≡◌, ℕ, zero, suc, ◌+◌, List, [], ◌∷◌, ◌++◌, length, map, replicate, refl, sym, ap, ◌∙◌, subst, arith}
use Rattle.std.proofs.lemmas.List.{map-append}
use Rattle.room_ends.specs.Opening.{IsFresh, AreOpened, IsIdle, AreIdle}
use Rattle.room_ends.specs.Orders.{SameDeque}
use Rattle.room_ends.specs.declared.order_producer.OrderProducer.{OrderProducer}
use Rattle.room_ends.specs.declared.windows.Window.{Window}
use Rattle.room_ends.specs.declared.window_ring_line.Line.{Line}
use Rattle.room_ends.specs.declared.benches.Bench.{Bench}
use Rattle.room_ends.specs.declared.back_receiver.BackReceiver.{BackReceiver}

snoc_replicate : {A : Type 0} (n : ℕ) (a : A) → replicate n a ++ a ∷ [] ≡ a ∷ replicate n a
snoc_replicate zero a = refl
snoc_replicate (suc n) a = ap (λ l. a ∷ l) (snoc_replicate n a)

all_snoc : {A B : Type 0} (f : A → B) (b : B) (xs : List A) (x : A) (n k : ℕ) → map f xs ≡ replicate n b → f x ≡ b
    → k ≡ n + 1 → map f (xs ++ x ∷ []) ≡ replicate k b
all_snoc f b xs x n k e h s =
    let t : suc n ≡ k = omega (arith, s) in
    map-append f xs (x ∷ []) ∙ (ap (λ l. l ++ f x ∷ []) e ∙ (ap (λ c. replicate n b ++ c ∷ []) h ∙ (snoc_replicate n b ∙ ap (λ j. replicate j b) t)))

pub fresh_snoc : {A B : Type 0} (f : A → List B) (xs : List A) (x : A) (n : ℕ) → map f xs ≡ replicate n [] → f x ≡ []
    → map f (xs ++ x ∷ []) ≡ replicate (n + 1) []
fresh_snoc f xs x n e h = all_snoc f [] xs x n (n + 1) e h refl

pub rings_snoc : {A : Type 0} (f : A → ℕ) (ring : ℕ) (xs : List A) (x : A) (n : ℕ) → map f xs ≡ replicate n ring → f x ≡ ring
    → map f (xs ++ x ∷ []) ≡ replicate (n + 1) ring
rings_snoc f ring xs x n e h = all_snoc f ring xs x n (n + 1) e h refl

pub opened_snoc : (ring bound n : ℕ) (ws : List Window) (ls : List Line) (w : Window) (l : Line) → AreOpened ring bound n ws ls
    → IsFresh ring bound (n + length ws) w l → AreOpened ring bound n (ws ++ w ∷ []) (ls ++ l ∷ [])
opened_snoc ring bound n [] [] w l all one = let e : n + 0 ≡ n = omega arith in (subst (λ k. IsFresh ring bound k w l) e one, tt)
opened_snoc ring bound n [] (m ∷ ms) w l all one = absurd all
opened_snoc ring bound n (v ∷ vs) [] w l all one = absurd all
opened_snoc ring bound n (v ∷ vs) (m ∷ ms) w l all one =
    let e : n + length (v ∷ vs) ≡ n + 1 + length vs = omega arith in
    (all.0, opened_snoc ring bound (n + 1) vs ms w l all.1 (subst (λ k. IsFresh ring bound k w l) e one))

idle_stays : (p q : OrderProducer) → SameDeque p q → (ring : ℕ) (b : Bench) (e : BackReceiver) → IsIdle p ring b e → IsIdle q ring b e
idle_stays p q s ring b e one = record { takes = one.takes ∙ sym s; got = one.got; given = one.given; places = one.places; ends = one.ends }

-- the producer is still at the deque at which it was when the benches before were opened
pub idle_snoc : (p q : OrderProducer) → SameDeque p q → (ring : ℕ) (bs : List Bench) (es : List BackReceiver) (b : Bench)
    (e : BackReceiver) → AreIdle p ring bs es → IsIdle q ring b e → AreIdle q ring (bs ++ b ∷ []) (es ++ e ∷ [])
idle_snoc p q s ring [] [] b e all one = (one, tt)
idle_snoc p q s ring [] (x ∷ es) b e all one = absurd all
idle_snoc p q s ring (x ∷ bs) [] b e all one = absurd all
idle_snoc p q s ring (x ∷ bs) (y ∷ es) b e all one = (idle_stays p q s ring x y all.0, idle_snoc p q s ring bs es b e all.1 one)

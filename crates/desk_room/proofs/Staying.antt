-- What of a keeper stays: the windows and the deque of its room, and the ends that a pass does not use.
use Rattle.std.proofs.lemmas.List.Sums.{sum_by-cons, count_by_more_yes, count_by_more_no}
use Rattle.room_ends.specs.Letters.{farewells}
use Rattle.std.proofs.Common.{take, Bool, true, false, if◌then◌else◌, count_by, cond, nat_lt, ◌+◌, ◌≡◌, ◌≢◌, ◌<◌, ◌⊎◌, inl, inr, ℕ, zero}
use Rattle.std.proofs.Common.{suc, List, [], ◌∷◌, ◌++◌, length, length-set, map, set, get_or, slice_get, Some, refl, sym, ap, ◌∙◌, subst, arith}
use mathlib.Core.List.{IsPrefix}
use Rattle.room_ends.specs.Orders.{SameDeque}
use Rattle.room_ends.specs.Windows.{number_of}
use Rattle.room_ends.specs.WindowRings.{letters_taken, letters_known, places_free, has_farewell, SameLine, AreEnds}
use Rattle.room_ends.specs.Benches.{heard, back_known}
use Rattle.desk_room.specs.Keepers.{windows_gone, IsOf, Ahead, BacksAhead, SameRoom, Stays, SameRings}
use Rattle.desk_room.specs.inside.Steps.{AtLines, AtReceivers, AtProducer}
use Rattle.room_ends.specs.declared.windows.Window.{Window}
use Rattle.room_ends.specs.declared.window_ring_line.Line.{Line}
use Rattle.room_ends.specs.declared.back_receiver.BackReceiver.{BackReceiver}
use Rattle.room_ends.specs.declared.order_producer.OrderProducer.{OrderProducer}
use Rattle.desk_room.specs.declared.keepers.Keeper.{Keeper}
use Rattle.desk_room.proofs.Places.{is_or_not}
use Rattle.desk_room.proofs.RingEnds.{same_window, ends_stay}
use Rattle.desk_room.proofs.Ahead.{Longer, ahead_at, ahead_lines, ahead_then}
use Rattle.desk_room.proofs.Listening.{backs_same, backs_then, backs_equal}

pub deque_same : (p q : OrderProducer) → q ≡ p → SameDeque p q
deque_same p q e = subst (λ o. SameDeque p o) (sym e) refl

pub room_same : (k : Keeper) → SameRoom k k
unfolding SameRoom
room_same k = ((λ w h. h), refl)

pub room_then : (k l m : Keeper) → SameRoom k l → SameRoom l m → SameRoom k m
unfolding SameRoom
room_then k l m f g = ((λ w h. g.0 w (f.0 w h)), g.1 ∙ f.1)

pub room_lines : (k m : Keeper) → m.lines ≡ k.lines → SameDeque k.producer m.producer → SameRoom k m
unfolding SameRoom
room_lines k m e d = ((λ w h. (h.0, ap (λ v. slice_get v.items (number_of w)) e ∙ h.1, h.2)), d)

pub got_same : {A : Type 0} (n : ℕ) (xs : List A) (x : A) → n < length xs → slice_get (set xs n x) n ≡ Some x
got_same n [] x h = absurd (omega arith)
got_same zero (y ∷ xs) x h = refl
got_same (suc n) (y ∷ xs) x h = got_same n xs x (omega arith)

got_other : {A : Type 0} (n i : ℕ) (xs : List A) (x : A) → i ≢ n → slice_get (set xs n x) i ≡ slice_get xs i
got_other n i [] x h = refl
got_other zero zero (y ∷ xs) x h = absurd (omega arith)
got_other zero (suc i) (y ∷ xs) x h = refl
got_other (suc n) zero (y ∷ xs) x h = refl
got_other (suc n) (suc i) (y ∷ xs) x h = got_other n i xs x (λ e. h (ap suc e))

pub got_is : {A : Type 0} (n : ℕ) (xs : List A) (x y : A) → slice_get xs n ≡ Some y → x ≡ get_or xs n x → y ≡ x
got_is n [] x y g e = absurd (cc)
got_is zero (z ∷ xs) x y g e = let h : z ≡ y = cc in sym h ∙ sym e
got_is (suc n) (z ∷ xs) x y g e = got_is n xs x y g e

-- one line, of which the ends stay the same
pub room_set : (k m : Keeper) (n : ℕ) (l x : Line) → n < length k.lines.items → l ≡ get_or k.lines.items n l → SameLine l x
    → m.lines.items ≡ set k.lines.items n x → m.producer ≡ k.producer → SameRoom k m
unfolding SameRoom
room_set k m n l x h e s q d = ((λ w p. pick w p (is_or_not (number_of w) n)), deque_same k.producer m.producer d)
  where
    pick : (w : Window) → IsOf w k → ((number_of w ≡ n) ⊎ (number_of w ≢ n)) → IsOf w m
    pick w p (inl i) =
        let own : p.0 ≡ l = got_is n k.lines.items l p.0 (ap (slice_get k.lines.items) (sym i) ∙ p.1) e in (
          x,
          ap (λ ls. slice_get ls (number_of w)) q ∙ (ap (slice_get (set k.lines.items n x)) i ∙ got_same n k.lines.items x h),
          ends_stay w w l x (subst (λ y. AreEnds w y) own p.2) (same_window w) s,
        )
    pick w p (inr i) = (p.0, ap (λ ls. slice_get ls (number_of w)) q ∙ (got_other n (number_of w) k.lines.items x i ∙ p.1), p.2)

-- as many windows are gone as have a farewell among the letters taken
pub gone_counted : (ls : List Line) → count_by has_farewell ls ≡ windows_gone (map letters_taken ls)
gone_counted [] = refl
gone_counted (l ∷ ls) =
    sum_by-cons (λ x. cond (has_farewell x) 1 0) l ls
    ∙ (ap (λ n. cond (has_farewell l) 1 0 + n) (gone_counted ls)
    ∙ sym (sum_by-cons (λ x. cond (nat_lt 0 (farewells x)) 1 0) (letters_taken l) (map letters_taken ls)))

pub got_inside : {A : Type 0} (n : ℕ) (xs : List A) (x : A) → slice_get xs n ≡ Some x → n < length xs
got_inside n [] x g = absurd (cc)
got_inside zero (y ∷ xs) x g = omega arith
got_inside (suc n) (y ∷ xs) x g = omega (arith, got_inside n xs x g)

pub stays_lines : (k m : Keeper) → m.lines ≡ k.lines → length m.receivers.items ≡ length k.receivers.items → m.ring ≡ k.ring
    → SameDeque k.producer m.producer → BacksAhead k m → Stays k m
stays_lines k m e f g d b = record {
  windows = ap (λ v. length v.items) e;
  benches = f;
  ring = g;
  room = room_lines k m e d;
  ahead = ahead_lines k m e;
  backs_ahead = b;
}

pub rings_same : (k m : Keeper) → m.lines ≡ k.lines → m.receivers ≡ k.receivers → m.ring ≡ k.ring → SameDeque k.producer m.producer → SameRings k m
rings_same k m e f g d = record {
  stays = stays_lines k m e (ap (λ v. length v.items) f) g d (backs_equal k m f);
  known = ap (λ v. map letters_known v.items) e;
  free = ap (λ v. map places_free v.items) e;
  backs_known = ap (λ v. map back_known v.items) f;
}

stays_same : (k : Keeper) → Stays k k
stays_same k = stays_lines k k refl refl refl refl (backs_same k)

pub stays_then : (k l m : Keeper) → Stays k l → Stays l m → Stays k m
stays_then k l m p q = record {
  windows = q.windows ∙ p.windows;
  benches = q.benches ∙ p.benches;
  ring = q.ring ∙ p.ring;
  room = room_then k l m p.room q.room;
  ahead = ahead_then k l m p.ahead q.ahead;
  backs_ahead = backs_then k l m p.backs_ahead q.backs_ahead;
}

-- one line was used
pub at_lines : (k m : Keeper) (n : ℕ) (l x : Line) → n < length k.lines.items → l ≡ get_or k.lines.items n l → SameLine l x
    → IsPrefix (letters_taken l ++ letters_known l) (letters_taken x ++ letters_known x) → m.lines.items ≡ set k.lines.items n x
    → m.receivers ≡ k.receivers → m.producer ≡ k.producer → m.ring ≡ k.ring → m.is_home ≡ k.is_home → AtLines k m
unfolding Ahead
at_lines k m n l x h e s a q r p g i = record {
  stays = record {
    windows = ap length q ∙ length-set k.lines.items n x;
    benches = ap (λ v. length v.items) r;
    ring = g;
    room = room_set k m n l x h e s q p;
    ahead = λ j. subst (λ ls. Longer (map letters_taken k.lines.items) (map letters_known k.lines.items) (map letters_taken ls)
        (map letters_known ls) j) (sym q) (ahead_at letters_taken letters_known k.lines.items n l x h e a j);
    backs_ahead = backs_equal k m r;
  };
  home = i;
  receivers = r;
  producer = p;
}

pub at_lines_same : (k : Keeper) → AtLines k k
at_lines_same k = record { stays = stays_same k; home = refl; receivers = refl; producer = refl }

pub at_lines_then : (k l m : Keeper) → AtLines k l → AtLines l m → AtLines k m
at_lines_then k l m p q = record {
  stays = stays_then k l m p.stays q.stays;
  home = q.home ∙ p.home;
  receivers = q.receivers ∙ p.receivers;
  producer = q.producer ∙ p.producer;
}

-- one receiver was used
pub at_receivers : (k m : Keeper) (b : ℕ) (l x : BackReceiver) → b < length k.receivers.items → l ≡ get_or k.receivers.items b l
    → IsPrefix (heard l ++ back_known l) (heard x ++ back_known x) → m.receivers.items ≡ set k.receivers.items b x
    → m.lines ≡ k.lines → m.producer ≡ k.producer → m.ring ≡ k.ring → m.is_home ≡ k.is_home → AtReceivers k m
unfolding BacksAhead
at_receivers k m b l x h e a q r p g i = record {
  stays = stays_lines k m r (ap length q ∙ length-set k.receivers.items b x) g (deque_same k.producer m.producer p)
      (λ j. subst (λ es. Longer (map heard k.receivers.items) (map back_known k.receivers.items) (map heard es) (map back_known es) j)
      (sym q) (ahead_at heard back_known k.receivers.items b l x h e a j));
  home = i;
  lines = r;
  producer = p;
}

pub at_receivers_same : (k : Keeper) → AtReceivers k k
at_receivers_same k = record { stays = stays_same k; home = refl; lines = refl; producer = refl }

pub at_receivers_then : (k l m : Keeper) → AtReceivers k l → AtReceivers l m → AtReceivers k m
at_receivers_then k l m p q = record {
  stays = stays_then k l m p.stays q.stays;
  home = q.home ∙ p.home;
  lines = q.lines ∙ p.lines;
  producer = q.producer ∙ p.producer;
}

-- the deque alone was used
pub at_producer : (k m : Keeper) → m.lines ≡ k.lines → m.receivers ≡ k.receivers → m.ring ≡ k.ring → m.is_home ≡ k.is_home
    → SameDeque k.producer m.producer → AtProducer k m
at_producer k m e f g i d = record { stays = (rings_same k m e f g d).stays; home = i; lines = e; receivers = f }

pub at_producer_same : (k : Keeper) → AtProducer k k
at_producer_same k = at_producer k k refl refl refl refl refl

pub at_producer_then : (k l m : Keeper) → AtProducer k l → AtProducer l m → AtProducer k m
at_producer_then k l m p q = record {
  stays = stays_then k l m p.stays q.stays;
  home = q.home ∙ p.home;
  lines = q.lines ∙ p.lines;
  receivers = q.receivers ∙ p.receivers;
}

-- one line more was counted
pub gone_more : (ls : List Line) (n : ℕ) (l : Line) (k : ℕ) → n < length ls → l ≡ get_or ls n l
    → k ≡ count_by has_farewell (take n ls) → count_by has_farewell (take (n + 1) ls) ≡ (if has_farewell l then k + 1 else k)
gone_more ls n l k h e c = by_mark (has_farewell l) refl
  where
    by_mark : (b : Bool) → has_farewell l ≡ b → count_by has_farewell (take (n + 1) ls) ≡ (if b then k + 1 else k)
    by_mark true p = count_by_more_yes has_farewell ls n l h (ap has_farewell (sym e) ∙ p) ∙ ap (λ i. i + 1) (sym c)
    by_mark false p = count_by_more_no has_farewell ls n l h (ap has_farewell (sym e) ∙ p) ∙ sym c

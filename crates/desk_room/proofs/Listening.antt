-- The back rings: what was heard and is known only grows, and where all that was known was heard nothing is known.
use Rattle.std.proofs.Common.{◌≡◌, ◌<◌, ◌≤◌, ⊎_elim, ℕ, zero, suc, ◌+◌, List, [], ◌∷◌, length, map, get_or, refl, sym, ◌∙◌, subst, arith}
use Rattle.room_ends.specs.Benches.{heard, back_known}
use Rattle.desk_room.specs.Keepers.{backs_known, BacksAhead}
use Rattle.desk_room.specs.inside.Steps.{Untouched}
use Rattle.room_ends.specs.declared.back_receiver.BackReceiver.{BackReceiver}
use Rattle.desk_room.specs.declared.keepers.Keeper.{Keeper}
use Rattle.desk_room.proofs.Places.{below_or, below_or_past}
use Rattle.desk_room.proofs.Ahead.{Longer, prefix_same, prefix_then}

pub backs_same : (k : Keeper) → BacksAhead k k
unfolding BacksAhead
backs_same k = λ b. prefix_same _

pub backs_then : (k l m : Keeper) → BacksAhead k l → BacksAhead l m → BacksAhead k m
unfolding BacksAhead
backs_then k l m f g = λ b. prefix_then _ _ _ (f b) (g b)

-- where nothing was done at the back rings
pub backs_equal : (k m : Keeper) → m.receivers ≡ k.receivers → BacksAhead k m
unfolding BacksAhead
backs_equal k m e = λ b. subst (λ v. Longer (map heard k.receivers.items) (map back_known k.receivers.items) (map heard v.items)
    (map back_known v.items) b) (sym e) (prefix_same _)

pub none_listened : (k : Keeper) (b : ℕ) → b < 0 → get_or (backs_known k) b [] ≡ []
none_listened k b h = absurd (omega (arith, h))

-- one ring more was heard out
pub listened_more : (n : ℕ) (k m : Keeper) → ((i : ℕ) → i < n → get_or (backs_known k) i [] ≡ []) → Untouched n (backs_known k)
    (backs_known m) → get_or (backs_known m) n [] ≡ [] → (i : ℕ) → i < n + 1 → get_or (backs_known m) i [] ≡ []
unfolding Untouched
listened_more n k m all same now i h = ⊎_elim (λ (q : i < n). same i (λ e. absurd (omega (arith, q, e))) ∙ all i q)
    (λ (q : i ≡ n). subst (λ j. get_or (backs_known m) j [] ≡ []) (sym q) now) (below_or i n h)

past_the_last : (es : List BackReceiver) (b : ℕ) → length es ≤ b → get_or (map back_known es) b [] ≡ []
past_the_last [] b h = refl
past_the_last (e ∷ es) zero h = absurd (omega arith)
past_the_last (e ∷ es) (suc b) h = past_the_last es b (omega arith)

-- every ring was
pub all_listened : (n : ℕ) (k : Keeper) → n ≡ length k.receivers.items → ((i : ℕ) → i < n → get_or (backs_known k) i [] ≡ [])
    → (i : ℕ) → get_or (backs_known k) i [] ≡ []
all_listened n k e all i =
    ⊎_elim (λ (q : i < n). all i q) (λ (q : n ≤ i). past_the_last k.receivers.items i (omega (arith, q, e))) (below_or_past i n)

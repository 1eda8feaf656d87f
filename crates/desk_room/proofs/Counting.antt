-- How many entries of a desk pass a test.
use Rattle.std.proofs.Common.{◌≡◌, ℕ, zero, suc, ◌+◌, Bool, true, false, cond, List, [], ◌∷◌}
use Rattle.std.proofs.Common.{◌++◌, map, flat_map, refl, sym, ap, ◌∙◌, arith, count_by}
use Rattle.std.specs.List.{list_any}
use Rattle.std.proofs.lemmas.List.Sums.{sum_by-cons}
use Rattle.mate_desk.specs.Content.{Content, QueueValue, EntryValue, entries}
use Rattle.mate_desk.specs.Calls.{change_at, in_queue}
use Rattle.desk_room.specs.Events.{one_if}

-- so many of these entries, and of those of all these queues
abbrev pub count_in : (EntryValue → Bool) → List EntryValue → ℕ
count_in p [] = 0
count_in p (e ∷ es) = one_if (p e) + count_in p es

abbrev pub count_all : (EntryValue → Bool) → List QueueValue → ℕ
count_all p [] = 0
count_all p (q ∷ qs) = count_in p q.pending + count_all p qs

cond_is : (b : Bool) → cond b 1 0 ≡ one_if b
cond_is true = refl
cond_is false = refl

pub count_is : (p : EntryValue → Bool) (es : List EntryValue) → count_by p es ≡ count_in p es
count_is p [] = refl
count_is p (e ∷ es) = sum_by-cons (λ y. cond (p y) 1 0) e es ∙ omega (arith, cond_is (p e), count_is p es)

count_append : (p : EntryValue → Bool) (xs ys : List EntryValue) → count_in p (xs ++ ys) ≡ count_in p xs + count_in p ys
count_append p [] ys = omega arith
count_append p (x ∷ xs) ys = omega (arith, count_append p xs ys)

joined_is : (p : EntryValue → Bool) (qs : List QueueValue) → count_in p (flat_map (λ q. q.pending) qs) ≡ count_all p qs
joined_is p [] = refl
joined_is p (q ∷ qs) = count_append p q.pending (flat_map (λ q. q.pending) qs) ∙ ap (λ n. count_in p q.pending + n) (joined_is p qs)

pub count_entries : (p : EntryValue → Bool) (c : Content) → count_by p (entries c) ≡ count_all p c.queues
count_entries p c = count_is p (entries c) ∙ joined_is p c.queues

-- Some entry passes a test exactly where they are counted.
any_count : (p : EntryValue → Bool) (es : List EntryValue) → list_any p es ≡ false → count_in p es ≡ 0
any_count p [] h = refl
any_count p (e ∷ es) h = (elim (p e) as (λ b. p e ≡ b → count_in p (e ∷ es) ≡ 0) [
  | true ↦ λ q. absurd (cc)
  | false ↦ λ q. omega (arith, ap one_if q, any_count p es (rest q h))
]) refl
  where
    rest : p e ≡ false → list_any p (e ∷ es) ≡ false → list_any p es ≡ false
    rest q h = cc

pub none_counted : (p : EntryValue → Bool) (c : Content) → list_any p (entries c) ≡ false → count_all p c.queues ≡ 0
none_counted p c h = sym (joined_is p c.queues) ∙ any_count p (entries c) h

-- Counts where each entry was changed.
count_in_less : (p q r : EntryValue → Bool) (f : EntryValue → EntryValue) → ((e : EntryValue) → one_if (p (f e)) + one_if (r e)
    ≡ one_if (q e)) → (es : List EntryValue) → count_in p (map f es) + count_in r es ≡ count_in q es
count_in_less p q r f each [] = refl
count_in_less p q r f each (e ∷ es) = omega (arith, each e, count_in_less p q r f each es)

pub count_less : (p q r : EntryValue → Bool) (f : EntryValue → EntryValue) → ((e : EntryValue) → one_if (p (f e)) + one_if (r e)
    ≡ one_if (q e)) → (qs : List QueueValue) → count_all p (map (in_queue f) qs) + count_all r qs ≡ count_all q qs
count_less p q r f each [] = refl
count_less p q r f each (x ∷ qs) = omega (arith, count_in_less p q r f each x.pending, count_less p q r f each qs)

count_in_more : (p q r : EntryValue → Bool) (f : EntryValue → EntryValue) → ((e : EntryValue) → one_if (p (f e))
    ≡ one_if (q e) + one_if (r e)) → (es : List EntryValue) → count_in p (map f es) ≡ count_in q es + count_in r es
count_in_more p q r f each [] = refl
count_in_more p q r f each (e ∷ es) = omega (arith, each e, count_in_more p q r f each es)

pub count_more : (p q r : EntryValue → Bool) (f : EntryValue → EntryValue)
    → ((e : EntryValue) → one_if (p (f e)) ≡ one_if (q e) + one_if (r e)) → (qs : List QueueValue)
    → count_all p (map (in_queue f) qs) ≡ count_all q qs + count_all r qs
count_more p q r f each [] = refl
count_more p q r f each (x ∷ qs) = omega (arith, count_in_more p q r f each x.pending, count_more p q r f each qs)

count_in_same : (p q : EntryValue → Bool) (f : EntryValue → EntryValue) → ((e : EntryValue) → p (f e) ≡ q e)
    → (es : List EntryValue) → count_in p (map f es) ≡ count_in q es
count_in_same p q f each [] = refl
count_in_same p q f each (e ∷ es) = omega (arith, ap one_if (each e), count_in_same p q f each es)

pub count_same : (p q : EntryValue → Bool) (f : EntryValue → EntryValue) → ((e : EntryValue) → p (f e) ≡ q e)
    → (qs : List QueueValue) → count_all p (map (in_queue f) qs) ≡ count_all q qs
count_same p q f each [] = refl
count_same p q f each (x ∷ qs) = omega (arith, count_in_same p q f each x.pending, count_same p q f each qs)

-- Counts where one queue was changed.
pub count_change : (p : EntryValue → Bool) (g : QueueValue → QueueValue) (n : ℕ) (qs : List QueueValue)
    → ((q : QueueValue) → count_in p (g q).pending ≡ count_in p q.pending) → count_all p (change_at n g qs) ≡ count_all p qs
count_change p g zero [] each = refl
count_change p g (suc n) [] each = refl
count_change p g zero (q ∷ qs) each = ap (λ k. k + count_all p qs) (each q)
count_change p g (suc n) (q ∷ qs) each = ap (λ k. count_in p q.pending + k) (count_change p g n qs each)

pub count_snoc : (p : EntryValue → Bool) (es : List EntryValue) (e : EntryValue) → p e ≡ false → count_in p (es ++ e ∷ []) ≡ count_in p es
count_snoc p [] e h = omega (arith, ap one_if h)
count_snoc p (x ∷ es) e h = omega (arith, count_snoc p es e h)

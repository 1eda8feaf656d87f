-- The places of the records that wait, and the lowest ticket among them.
use Rattle.std.proofs.Common.{◌≡◌, ◌≢◌, ℕ, zero, suc, ◌+◌, ◌^◌, ◌<◌, ◌≤◌, ◌==◌, nat_lt, List, [], ◌∷◌, ◌++◌, length, set, true, false, not}
use Rattle.std.proofs.Common.{◌&&◌, ◌||◌, if◌then◌else◌, ap, refl, sym, ◌∙◌, arith, None, Some, Option, MatchOption, slice_get, add-one}
use Rattle.std.proofs.lemmas.Bool.Decides.{nat_tests}
use Rattle.std.proofs.lemmas.Nat.Bits.{bit_at_above}
use Rattle.mate_desk.specs.Content.{EntryValue, waits, lower, lowest}
use Rattle.mate_desk.specs.Laws.{Rises}
use Rattle.mate_desk.specs.inside.PlaceBits.{has_place}
use Rattle.mate_desk.specs.inside.Keeping.{waits_at, Marks}
use Rattle.mate_desk.proofs.Bits.{is_absent, none_has}
use Rattle.mate_desk.proofs.Changes.{got_one}

pub waits_got : (es : List EntryValue) (n : ℕ) (e : EntryValue) → slice_get es n ≡ Some e → waits_at es n ≡ waits e
waits_got [] n e g = cc
waits_got (x ∷ xs) zero e g = ap waits (got_one x e g)
waits_got (x ∷ xs) (suc n) e g = waits_got xs n e g

pub waits_past : (es : List EntryValue) (n : ℕ) → length es ≤ n → waits_at es n ≡ false
waits_past [] n h = refl
waits_past (x ∷ xs) zero h = absurd (omega arith)
waits_past (x ∷ xs) (suc n) h = waits_past xs n (omega arith)

pub waits_inside : (es : List EntryValue) (n : ℕ) → waits_at es n ≡ true → n < length es
waits_inside [] n w = cc
waits_inside (x ∷ xs) zero w = omega arith
waits_inside (x ∷ xs) (suc n) w = omega (arith, waits_inside xs n w)

waits_set_same : (es : List EntryValue) (n : ℕ) (e y : EntryValue) → slice_get es n ≡ Some e → waits_at (set es n y) n ≡ waits y
waits_set_same [] n e y g = cc
waits_set_same (x ∷ xs) zero e y g = refl
waits_set_same (x ∷ xs) (suc n) e y g = waits_set_same xs n e y g

waits_set_other : (es : List EntryValue) (n p : ℕ) (y : EntryValue) → p ≢ n → waits_at (set es n y) p ≡ waits_at es p
waits_set_other [] n p y h = refl
waits_set_other (x ∷ xs) zero zero y h = absurd (h refl)
waits_set_other (x ∷ xs) zero (suc p) y h = refl
waits_set_other (x ∷ xs) (suc n) zero y h = refl
waits_set_other (x ∷ xs) (suc n) (suc p) y h = waits_set_other xs n p y (λ e. h (ap suc e))

waits_push : (es : List EntryValue) (e : EntryValue) (p : ℕ) → waits e ≡ true → waits_at (es ++ e ∷ []) p ≡ (p == length es || waits_at es p)
waits_push [] e zero w = w
waits_push [] e (suc p) w = let q : (suc p == 0) ≡ false = grind (arith, nat_tests) in rw q refl
waits_push (x ∷ xs) e zero w = let q : (0 == suc (length xs)) ≡ false = grind (arith, nat_tests) in rw q refl
waits_push (x ∷ xs) e (suc p) w =
    let q : (suc p == suc (length xs)) ≡ (p == length xs) = grind (arith, nat_tests) in
    waits_push xs e p w ∙ ap (λ b. b || waits_at xs p) (sym q)

-- What a changed word and a changed list of entries agree on.
pub marks_same : (word : ℕ) (es : List EntryValue) (n : ℕ) (e y : EntryValue) → Marks word es → slice_get es n ≡ Some e
    → waits y ≡ waits e → Marks word (set es n y)
marks_same word es n e y m g w p h = m p h ∙ (elim (p == n) as (λ b. (p == n) ≡ b → waits_at es p ≡ waits_at (set es n y) p) [
  | true ↦ λ t. let q : p ≡ n = grind (arith, nat_tests, t) in rw q (waits_got es n e g ∙ (sym w ∙ sym (waits_set_same es n e y g)))
  | false ↦ λ t. let q : p ≢ n = grind (arith, nat_tests, t) in sym (waits_set_other es n p y q)
]) refl

pub marks_with : (word new : ℕ) (es : List EntryValue) (n : ℕ) (e y : EntryValue) → Marks word es → slice_get es n ≡ Some e → waits y ≡ true
    → ((p : ℕ) → p < 64 → has_place new p ≡ (p == n || has_place word p)) → Marks new (set es n y)
marks_with word new es n e y m g w with p h = with p h ∙ (elim (p == n) as (λ b. (p == n) ≡ b → (b || has_place word p) ≡ waits_at (set es n y) p) [
  | true ↦ λ t. let q : p ≡ n = grind (arith, nat_tests, t) in rw q (sym (waits_set_same es n e y g ∙ w))
  | false ↦ λ t. let q : p ≢ n = grind (arith, nat_tests, t) in m p h ∙ sym (waits_set_other es n p y q)
]) refl

pub marks_without : (word new : ℕ) (es : List EntryValue) (n : ℕ) (e y : EntryValue) → Marks word es → slice_get es n ≡ Some e → waits y ≡ false
    → ((p : ℕ) → p < 64 → has_place new p ≡ (not (p == n) && has_place word p)) → Marks new (set es n y)
marks_without word new es n e y m g w without p h =
    without p h ∙ (elim (p == n) as (λ b. (p == n) ≡ b → (not b && has_place word p) ≡ waits_at (set es n y) p) [
      | true ↦ λ t. let q : p ≡ n = grind (arith, nat_tests, t) in rw q (sym (waits_set_same es n e y g ∙ w))
      | false ↦ λ t. let q : p ≢ n = grind (arith, nat_tests, t) in m p h ∙ sym (waits_set_other es n p y q)
    ]) refl

pub marks_push : (word new : ℕ) (es : List EntryValue) (e : EntryValue) → Marks word es → waits e ≡ true
    → ((p : ℕ) → p < 64 → has_place new p ≡ (p == length es || has_place word p)) → Marks new (es ++ e ∷ [])
marks_push word new es e m w with p h = with p h ∙ (ap (λ b. p == length es || b) (m p h) ∙ sym (waits_push es e p w))

pub marks_lower : (word new : ℕ) (e : EntryValue) (es : List EntryValue) → word < 2 ^ 64 → length es < 64 → Marks word (e ∷ es)
    → ((p : ℕ) → p < 64 → has_place new p ≡ has_place word (p + 1)) → Marks new es
marks_lower word new e es fits few m lower p h =
    lower p h ∙ (elim (nat_lt (p + 1) 64) as (λ b. nat_lt (p + 1) 64 ≡ b → has_place word (p + 1) ≡ waits_at es p) [
      | true ↦ λ t. let q : p + 1 < 64 = grind (arith, nat_tests, t) in m (p + 1) q ∙ rw add-one refl
      | false ↦ λ t. let q : 64 ≤ p + 1 = grind (arith, nat_tests, t) in
          is_absent _ (bit_at_above word 64 (p + 1) fits q) ∙ sym (waits_past es p (omega (arith, q, few)))
    ]) refl

pub marks_none : (es : List EntryValue) → length es ≡ 0 → Marks 0 es
marks_none es h p b = none_has p ∙ sym (waits_past es p (omega (arith, h)))

-- The lowest ticket that waits is that of the first entry that does.
lower_least : (ticket : ℕ) (o : Option ℕ) → MatchOption o (Unit {0}) (λ t. ticket < t) → lower ticket o ≡ Some ticket
lower_least ticket None h = refl
lower_least ticket (Some t) h = let e : nat_lt t ticket ≡ false = grind (arith, nat_tests, h) in rw e refl

above_more : (low more : ℕ) (o : Option ℕ) → MatchOption o (Unit {0}) (λ t. more ≤ t) → low ≤ more → MatchOption o (Unit {0}) (λ t. low ≤ t)
above_more low more None h l = tt
above_more low more (Some t) h l = omega (arith, h, l)

lower_above : (low ticket : ℕ) (o : Option ℕ) → low ≤ ticket → MatchOption o (Unit {0}) (λ t. low ≤ t)
    → MatchOption (lower ticket o) (Unit {0}) (λ t. low ≤ t)
lower_above low ticket None h m = h
lower_above low ticket (Some t) h m = elim (nat_lt t ticket) as (λ b. low ≤ (if b then t else ticket)) [ true ↦ m | false ↦ h ]

lowest_above : (low : ℕ) (es : List EntryValue) → Rises low es → MatchOption (lowest es) (Unit {0}) (λ t. low ≤ t)
lowest_above low [] r = tt
lowest_above low (e ∷ es) r =
    let rest = above_more low (e.ticket + 1) (lowest es) (lowest_above (e.ticket + 1) es r.1) (omega (arith, r.0)) in
    elim (waits e) as (λ b. MatchOption (if b then lower e.ticket (lowest es) else lowest es) (Unit {0}) (λ t. low ≤ t)) [
      | true ↦ lower_above low e.ticket (lowest es) r.0 rest
      | false ↦ rest
    ]

above_next : (ticket : ℕ) (o : Option ℕ) → MatchOption o (Unit {0}) (λ t. ticket + 1 ≤ t) → MatchOption o (Unit {0}) (λ t. ticket < t)
above_next ticket None h = tt
above_next ticket (Some t) h = omega (arith, h)

pub lowest_first : (low : ℕ) (es : List EntryValue) (n : ℕ) (e : EntryValue) → Rises low es → slice_get es n ≡ Some e → waits e ≡ true
    → ((p : ℕ) → p < n → waits_at es p ≡ false) → lowest es ≡ Some e.ticket
lowest_first low [] n e r g w none = cc
lowest_first low (x ∷ xs) zero e r g w none =
    let q : x ≡ e = got_one x e g in
    let t : waits x ≡ true = ap waits q ∙ w in
    let least : lower x.ticket (lowest xs) ≡ Some x.ticket =
    lower_least x.ticket (lowest xs) (above_next x.ticket (lowest xs) (lowest_above (x.ticket + 1) xs r.1)) in
    rw t (least ∙ ap (λ (z : EntryValue). Some z.ticket) q)
lowest_first low (x ∷ xs) (suc n) e r g w none =
    let t : waits x ≡ false = none 0 (omega arith) in
    rw t (lowest_first (x.ticket + 1) xs n e r.1 g w (λ p h. none (suc p) (omega (arith, h))))

pub lowest_none : (es : List EntryValue) → ((p : ℕ) → p < length es → waits_at es p ≡ false) → lowest es ≡ None
lowest_none [] none = refl
lowest_none (e ∷ es) none =
    let t : waits e ≡ false = none 0 (omega arith) in
    rw t (lowest_none es (λ p h. none (suc p) (omega (arith, h))))

-- the place that the word finds first
pub record First (es : List EntryValue) (place : ℕ) : Type 0 where
  pub inside : place < length es
  pub waits : waits_at es place ≡ true
  pub none : (p : ℕ) → p < place → waits_at es p ≡ false

pub first_found : (word : ℕ) (es : List EntryValue) (place : ℕ) → Marks word es → (place < 64) × (has_place word place ≡ true)
    → ((p : ℕ) → p < place → has_place word p ≡ false) → First es place
first_found word es place m found none =
    let w : waits_at es place ≡ true = sym (m place found.0) ∙ found.1 in
    record {
      inside = waits_inside es place w;
      waits = w;
      none = λ p h. sym (m p (omega (arith, h, found.0))) ∙ none p h;
    }

pub none_found : (word : ℕ) (es : List EntryValue) → Marks word es → length es ≤ 64 → ((p : ℕ) → p < 64 → has_place word p ≡ false) → lowest es ≡ None
none_found word es m few none = lowest_none es (λ p h. sym (m p (omega (arith, h, few))) ∙ none p (omega (arith, h, few)))

pub first_lowest : (es : List EntryValue) (place : ℕ) (e : EntryValue) → Rises 0 es → First es place → slice_get es place ≡ Some e
    → (waits e ≡ true) × (lowest es ≡ Some e.ticket)
first_lowest es place e r first g =
    let w : waits e ≡ true = sym (waits_got es place e g) ∙ first.waits in
    (w, lowest_first 0 es place e r g w first.none)

-- A record is accepted from a submitter.
use Rattle.std.proofs.Common.{◌≡◌, ℕ, zero, suc, ◌+◌, ◌<◌, ◌≤◌, List, [], ◌∷◌, ◌++◌, length, take, drop, Bool, true}
use Rattle.std.proofs.Common.{false, ap, refl, sym, ◌∙◌, subst, arith, ◌||◌, if◌then◌else◌, ◌==◌, length-append}
use Rattle.std.specs.List.{list_any}
use Rattle.std.proofs.lemmas.Bool.Decides.{nat_tests}
use Rattle.std.proofs.lemmas.List.{drop-append-le, take-append-le, length-drop}
use Rattle.std.proofs.lemmas.List.Folds.{list_any-append}
use Rattle.chess_notation.specs.Records.{RecordValue, Reads}
use Rattle.mate_desk.specs.Content.{Content, EntryValue, QueueValue, Phase, Waiting, is_out_with}
use Rattle.mate_jobs.specs.Jobs.{Task}
use Rattle.mate_desk.specs.Calls.{change_at, with_entry, has_out}
use Rattle.mate_desk.specs.History.{Claim, Parcel}
use Rattle.mate_desk.specs.Headline.{AreForFirst}
use Rattle.mate_desk.specs.inside.Mirrors.{entry_at, entries_from, queue_with, AreClaimsBelow, AreRead, are_settled, Sound}
use Rattle.mate_desk.proofs.PhaseChanges.{but, any_queues}

-- what tickets ask, but for one of them
abbrev pub asking : (ℕ → RecordValue) → ℕ → RecordValue → ℕ → RecordValue
asking asks t asked u = if u == t then asked else asks u

below_more : (g : ℕ) (claims : List Claim) → AreClaimsBelow g claims → AreClaimsBelow (g + 1) claims
below_more g [] b = tt
below_more g (claim ∷ claims) b = (omega (arith, b.0), below_more g claims b.1)

below_push : (g : ℕ) (claims : List Claim) (line : List ℕ) → AreClaimsBelow g claims
    → AreClaimsBelow (g + 1) (claims ++ record { ticket = g; line = line } ∷ [])
below_push g [] line b = (omega arith, tt)
below_push g (claim ∷ claims) line b = (omega (arith, b.0), below_push g claims line b.1)

below_take : (g d : ℕ) (claims : List Claim) → AreClaimsBelow g claims → AreClaimsBelow g (take d claims)
below_take g zero claims b = tt
below_take g (suc d) [] b = tt
below_take g (suc d) (claim ∷ claims) b = (b.0, below_take g d claims b.1)

below_drop : (g d : ℕ) (claims : List Claim) → AreClaimsBelow g claims → AreClaimsBelow g (drop d claims)
below_drop g zero claims b = b
below_drop g (suc d) [] b = tt
below_drop g (suc d) (claim ∷ claims) b = below_drop g d claims b.1

-- A new ticket changes nothing of the records before.
entries_fresh : (g : ℕ) (asked : RecordValue) (asks : ℕ → RecordValue) (phases : ℕ → Phase) (marks : ℕ → Bool) (j : ℕ)
    (claims : List Claim) → AreClaimsBelow g claims
    → entries_from (asking asks g asked) (but phases g Waiting) marks j claims ≡ entries_from asks phases marks j claims
entries_fresh g asked asks phases marks j [] b = refl
entries_fresh g asked asks phases marks j (claim ∷ claims) b =
    let n : (claim.ticket == g) ≡ false = grind (arith, nat_tests, b.0) in
    rw n (ap (λ es. entry_at asks phases marks j claim ∷ es) (entries_fresh g asked asks phases marks (j + 1) claims b.1))

read_fresh : (g default : ℕ) (asked : RecordValue) (asks : ℕ → RecordValue) (claims : List Claim) → AreClaimsBelow g claims
    → AreRead default asks claims → AreRead default (asking asks g asked) claims
read_fresh g default asked asks [] b r = tt
read_fresh g default asked asks (claim ∷ claims) b r =
    let n : (claim.ticket == g) ≡ false = grind (arith, nat_tests, b.0) in
    (subst (λ x. Reads claim.line default (if x then asked else asks claim.ticket)) (sym n) r.0, read_fresh g default asked asks claims b.1 r.1)

same : (n : ℕ) → (n == n) ≡ true
same n = grind (arith, nat_tests)

read_push : (g default : ℕ) (line : List ℕ) (asked : RecordValue) (asks : ℕ → RecordValue) (claims : List Claim)
    → AreClaimsBelow g claims → AreRead default asks claims → Reads line default asked
    → AreRead default (asking asks g asked) (claims ++ record { ticket = g; line = line } ∷ [])
read_push g default line asked asks [] b r one = (subst (λ x. Reads line default (if x then asked else asks g)) (sym (same g)) one, tt)
read_push g default line asked asks (claim ∷ claims) b r one =
    let n : (claim.ticket == g) ≡ false = grind (arith, nat_tests, b.0) in (
      subst (λ x. Reads claim.line default (if x then asked else asks claim.ticket)) (sym n) r.0,
      read_push g default line asked asks claims b.1 r.1 one,
    )

settled_fresh : (g : ℕ) (phases : ℕ → Phase) (marks : ℕ → Bool) (j : ℕ) (claims : List Claim) → AreClaimsBelow g claims
    → are_settled (but phases g Waiting) marks j claims ≡ are_settled phases marks j claims
settled_fresh g phases marks j [] b = refl
settled_fresh g phases marks j (claim ∷ claims) b =
    let n : (claim.ticket == g) ≡ false = grind (arith, nat_tests, b.0) in
    rw (n, settled_fresh g phases marks (j + 1) claims b.1) refl

entries_push : (asks : ℕ → RecordValue) (phases : ℕ → Phase) (marks : ℕ → Bool) (j : ℕ) (claims : List Claim) (claim : Claim)
    → entries_from asks phases marks j (claims ++ claim ∷ []) ≡ entries_from asks phases marks j claims
    ++ entry_at asks phases marks (j + length claims) claim ∷ []
entries_push asks phases marks j [] claim = let e : j ≡ j + 0 = omega arith in ap (λ i. entry_at asks phases marks i claim ∷ []) e
entries_push asks phases marks j (c ∷ claims) claim =
    let e : j + 1 + length claims ≡ j + suc (length claims) = omega arith in
    ap (λ es. entry_at asks phases marks j c ∷ es) (entries_push asks phases marks (j + 1) claims claim
    ∙ ap (λ i. entries_from asks phases marks (j + 1) claims ++ entry_at asks phases marks i claim ∷ []) e)

-- the queues of the others
pub queue_fresh : (g : ℕ) (asked : RecordValue) (asks : ℕ → RecordValue) (room d : ℕ) (phases : ℕ → Phase) (marks : ℕ → Bool)
    (claims : List Claim) → AreClaimsBelow g claims
    → queue_with asks room claims d phases marks ≡ queue_with (asking asks g asked) room claims d (but phases g Waiting) marks
queue_fresh g asked asks room d phases marks claims b =
    ap (λ (es : List EntryValue). record { room = room; delivered = d; pending = es })
    (sym (entries_fresh g asked asks phases marks d (drop d claims) (below_drop g d claims b)))

-- the queue of the one whose record it is
pub queue_pushed : (g : ℕ) (line : List ℕ) (asked : RecordValue) (asks : ℕ → RecordValue) (room d : ℕ) (phases : ℕ → Phase)
    (marks : ℕ → Bool) (claims : List Claim) → AreClaimsBelow g claims → d ≤ length claims → marks (length claims) ≡ false
    → with_entry g asked (queue_with asks room claims d phases marks)
    ≡ queue_with (asking asks g asked) room (claims ++ record { ticket = g; line = line } ∷ []) d (but phases g Waiting) marks
queue_pushed g line asked asks room d phases marks claims b f u =
    let claim : Claim = record { ticket = g; line = line } in
    let now : ℕ → RecordValue = asking asks g asked in
    let x : drop d (claims ++ claim ∷ []) ≡ drop d claims ++ claim ∷ [] = drop-append-le d claims (claim ∷ []) f in
    let y = entries_push now (but phases g Waiting) marks d (drop d claims) claim in
    let z = entries_fresh g asked asks phases marks d (drop d claims) (below_drop g d claims b) in
    let n : d + length (drop d claims) ≡ length claims = omega (arith, length-drop d claims, f) in
    let q : (g == g) ≡ true = same g in
    let w : entry_at now (but phases g Waiting) marks (d + length (drop d claims)) claim
    ≡ record { ticket = g; asked = asked; phase = Waiting; withdrawn = false } = rw (n, u, q) refl in
    ap (λ (es : List EntryValue). record { room = room; delivered = d; pending = es })
    (sym (ap (entries_from now (but phases g Waiting) marks d) x
    ∙ (y ∙ (ap (λ es. es ++ entry_at now (but phases g Waiting) marks (d + length (drop d claims)) claim ∷ []) z
    ∙ ap (λ e. entries_from asks phases marks d (drop d claims) ++ e ∷ []) w))))

pub sound_fresh : (room default g : ℕ) (asked : RecordValue) (asks : ℕ → RecordValue) (claims : List Claim)
    (parcels : List Parcel) (phases : ℕ → Phase) (marks : ℕ → Bool) → Sound room default asks claims parcels g phases marks
    → Sound room default (asking asks g asked) claims parcels (g + 1) (but phases g Waiting) marks
sound_fresh room default g asked asks claims parcels phases marks s = record {
  few = s.few;
  fits = s.fits;
  below = below_more g claims s.below;
  read = read_fresh g default asked asks claims s.below s.read;
  unmarked = s.unmarked;
  in_order = s.in_order;
  notices = s.notices;
  settled = settled_fresh g phases marks 0 (take (length parcels) claims) (below_take g (length parcels) claims s.below) ∙ s.settled;
}

-- What is for the first of these is for the first of these and one more.
for_first_push : (default : ℕ) (claims : List Claim) (parcels : List Parcel) (claim : Claim) → AreForFirst default claims parcels
    → AreForFirst default (claims ++ claim ∷ []) parcels
for_first_push default claims [] claim f = tt
for_first_push default [] (parcel ∷ parcels) claim f = absurd f
for_first_push default (c ∷ claims) (parcel ∷ parcels) claim f = (f.0, for_first_push default claims parcels claim f.1)

pub sound_pushed : (room default g : ℕ) (line : List ℕ) (asked : RecordValue) (asks : ℕ → RecordValue) (claims : List Claim)
    (parcels : List Parcel) (phases : ℕ → Phase) (marks : ℕ → Bool)
    → Reads line default asked → length claims < length parcels + room
    → Sound room default asks claims parcels g phases marks → Sound room default (asking asks g asked)
    (claims ++ record { ticket = g; line = line } ∷ []) parcels (g + 1) (but phases g Waiting) marks
sound_pushed room default g line asked asks claims parcels phases marks one space s =
    let claim : Claim = record { ticket = g; line = line } in
    let e : take (length parcels) (claims ++ claim ∷ []) ≡ take (length parcels) claims = take-append-le (length parcels) claims (claim ∷ []) s.few in
    let l = length-append claims (claim ∷ []) in
    record {
      few = omega (arith, s.few, l);
      fits = omega (arith, space, l);
      below = below_push g claims line s.below;
      read = read_push g default line asked asks claims s.below s.read one;
      unmarked = λ j h. s.unmarked j (omega (arith, h, l));
      in_order = for_first_push default claims parcels claim s.in_order;
      notices = s.notices;
      settled = ap (are_settled (but phases g Waiting) marks 0) e ∙ (settled_fresh g phases marks 0 (take (length parcels) claims)
          (below_take g (length parcels) claims s.below) ∙ s.settled);
    }

-- What is out stays out where a queue changes and its records that are out stay so.
any_change : (p : EntryValue → Bool) (s : ℕ) (g : QueueValue → QueueValue) (qs : List QueueValue)
    → ((q : QueueValue) → list_any p q.pending ≡ true → list_any p (g q).pending ≡ true)
    → list_any (λ q. list_any p q.pending) qs ≡ true → list_any (λ q. list_any p q.pending) (change_at s g qs) ≡ true
any_change p s g [] k e = cc
any_change p zero g (q ∷ qs) k e =
    (elim (list_any p q.pending) as (λ b. list_any p q.pending ≡ b → (b || list_any (λ q. list_any p q.pending) qs) ≡ true
    → (list_any p (g q).pending || list_any (λ q. list_any p q.pending) qs) ≡ true) [
      | true ↦ λ w f. let r = k q w in rw r refl
      | false ↦ λ w f. (elim (list_any p (g q).pending) as (λ b. (b || list_any (λ q. list_any p q.pending) qs) ≡ true) [ true ↦ refl | false ↦ f ])
    ]) refl e
any_change p (suc s) g (q ∷ qs) k e = (elim (list_any p q.pending) as (λ b. (b || list_any (λ q. list_any p q.pending) qs) ≡ true
    → (b || list_any (λ q. list_any p q.pending) (change_at s g qs)) ≡ true) [
      | true ↦ λ f. refl
      | false ↦ λ f. any_change p s g qs k f
    ]) e

pub any_append : (p : EntryValue → Bool) (es fs : List EntryValue) → list_any p es ≡ true → list_any p (es ++ fs) ≡ true
any_append p es fs e = list_any-append p es fs ∙ (rw e refl)

pub out_change : (c d : Content) (s : ℕ) (g : QueueValue → QueueValue) (task : Task) → d.queues ≡ change_at s g c.queues
    → ((q : QueueValue) → list_any (is_out_with task) q.pending ≡ true → list_any (is_out_with task) (g q).pending ≡ true)
    → has_out c task ≡ true → has_out d task ≡ true
out_change c d s g task e k o =
    any_queues (is_out_with task) d.queues ∙ (ap (list_any (λ (q : QueueValue). list_any (is_out_with task) q.pending)) e
    ∙ any_change (is_out_with task) s g c.queues k (sym (any_queues (is_out_with task) c.queues) ∙ o))

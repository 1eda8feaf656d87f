-- Lists that grow with a history, and what stands in them.
use Rattle.std.specs.declared.alloc.Global.{Global}
use Rattle.std.proofs.Common.{◌≡◌, ◌⊎◌, ℕ, Vec, zero, suc, ap, refl, sym, ◌∙◌, subst, arith, List, [], ◌∷◌}
use Rattle.std.proofs.Common.{◌++◌, length, slice_get, Some, true, false, if◌then◌else◌, ◌==◌, inl, inr}
use Rattle.std.proofs.lemmas.Bool.Decides.{nat_tests}
use Rattle.mate_desk.specs.declared.steps_and_replies.Step.{Step}
use Rattle.mate_desk.specs.declared.steps_and_replies.Step.TheVariants as step
use Rattle.mate_desk.specs.declared.steps_and_replies.Reply.{Reply}
use Rattle.mate_desk.specs.declared.steps_and_replies.Reply.TheVariants as reply
use Rattle.mate_desk.specs.History.{History, Event, Claim, and_claimed, accepted, Parcel, Answered, Noticed, and_got, delivered}

get_append : {X : Type 0} (xs ys : List X) (k : ℕ) (x : X) → slice_get xs k ≡ Some x → slice_get (xs ++ ys) k ≡ Some x
get_append [] ys k x e = cc
get_append (z ∷ zs) ys zero x e = e
get_append (z ∷ zs) ys (suc k) x e = get_append zs ys k x e

get_last : {X : Type 0} (xs : List X) (x : X) → slice_get (xs ++ x ∷ []) (length xs) ≡ Some x
get_last [] x = refl
get_last (z ∷ zs) x = get_last zs x

-- What is read behind one more is read before it, or is that one.
get_either : {X : Type 0} (xs : List X) (y : X) (k : ℕ) (x : X) → slice_get (xs ++ y ∷ []) k ≡ Some x
    → (slice_get xs k ≡ Some x) ⊎ ((k ≡ length xs) × (y ≡ x))
get_either [] y zero x e = let q : y ≡ x = cc in inr (refl, q)
get_either [] y (suc k) x e = cc
get_either (z ∷ zs) y zero x e = inl e
get_either (z ∷ zs) y (suc k) x e = elim (get_either zs y k x e) [
  | inl p ↦ inl p
  | inr p ↦ inr (ap suc p.0, p.1)
]

-- An event adds one element to the list, or nothing.
abbrev pub Grows : {X : Type 0} → (History → List X) → (Event → X → Type 0) → Type 0
Grows {X = X} f Adds = (e : Event) (h : History) → (f (e ∷ h) ≡ f h) ⊎ ((x : X) × Adds e x × (f (e ∷ h) ≡ f h ++ x ∷ []))

-- Where the element at a place was added.
abbrev pub Added : {X : Type 0} → (History → List X) → (Event → X → Type 0) → History → ℕ → X → Type 0
Added {X = X} f Adds h k x = (later : History) × (e : Event) × (before : History) × (h ≡ later ++ e ∷ before) × Adds e x × (length (f before) ≡ k)

pub find_added : {X : Type 0} (f : History → List X) (Adds : Event → X → Type 0) → f [] ≡ [] → Grows f Adds
    → (h : History) (k : ℕ) (x : X) → slice_get (f h) k ≡ Some x → Added f Adds h k x
find_added f Adds none grows [] k x g = (let q : slice_get [] k ≡ Some x = ap (λ xs. slice_get xs k) (sym none) ∙ g in cc)
find_added f Adds none grows (e ∷ h) k x g = elim (grows e h) [
  | inl same ↦ (let a = find_added f Adds none grows h k x (ap (λ xs. slice_get xs k) (sym same) ∙ g) in
      (e ∷ a.0, a.1, a.2, ap (λ l. e ∷ l) a.3, a.4, a.5))
  | inr more ↦ elim (get_either (f h) more.0 k x (ap (λ xs. slice_get xs k) (sym more.2) ∙ g)) [
    | inl p ↦ (let a = find_added f Adds none grows h k x p in (e ∷ a.0, a.1, a.2, ap (λ l. e ∷ l) a.3, a.4, a.5))
    | inr p ↦ ([], e, h, refl, subst (Adds e) p.1 more.1, sym p.0)
  ]
]

keeps : {X : Type 0} (f : History → List X) (Adds : Event → X → Type 0) → Grows f Adds → (later h : History) (k : ℕ) (x : X)
    → slice_get (f h) k ≡ Some x → slice_get (f (later ++ h)) k ≡ Some x
keeps f Adds grows [] h k x g = g
keeps f Adds grows (e ∷ later) h k x g =
    let rest = keeps f Adds grows later h k x g in
    elim (grows e (later ++ h)) [
      | inl same ↦ ap (λ xs. slice_get xs k) same ∙ rest
      | inr more ↦ ap (λ xs. slice_get xs k) more.2 ∙ get_append (f (later ++ h)) (more.0 ∷ []) k x rest
    ]

pub read_added : {X : Type 0} (f : History → List X) (Adds : Event → X → Type 0) → Grows f Adds
    → ((e : Event) (h : History) (x : X) → Adds e x → f (e ∷ h) ≡ f h ++ x ∷ []) → (h : History) (k : ℕ) (x : X)
    → Added f Adds h k x → slice_get (f h) k ≡ Some x
read_added f Adds grows adds h k x a =
    let e : Event = a.1 in
    let before : History = a.2 in
    let here : slice_get (f (e ∷ before)) k ≡ Some x = ap (λ xs. slice_get xs k) (adds e before x a.4)
    ∙ subst (λ n. slice_get (f before ++ x ∷ []) n ≡ Some x) a.5 (get_last (f before) x) in
    ap (λ l. slice_get (f l) k) a.3 ∙ keeps f Adds grows a.0 (e ∷ before) k x here

-- what adds an accepted record of a submitter
abbrev pub AddsClaim : ℕ → Event → Claim → Type 0
AddsClaim s e claim = (text : Vec ℕ Global)
    × (e ≡ record { step = step.Submit s text; reply = reply.Ticket claim.ticket }) × (text.items ≡ claim.line)

same : (n : ℕ) → (n == n) ≡ true
same n = grind (arith, nat_tests)

claims_grow_by : (s : ℕ) (st : Step) (r : Reply) (claims : List Claim) → (and_claimed st r s claims ≡ claims) ⊎ ((claim : Claim)
    × AddsClaim s (record { step = st; reply = r }) claim × (and_claimed st r s claims ≡ claims ++ claim ∷ []))
claims_grow_by s (step.Submit n text) (reply.Ticket t) claims =
    (elim (s == n) as (λ b. (s == n) ≡ b → ((if b then claims ++ record { ticket = t; line = text.items } ∷ [] else claims)
    ≡ claims) ⊎ ((claim : Claim) × AddsClaim s (record { step = step.Submit n text; reply = reply.Ticket t }) claim
    × ((if b then claims ++ record { ticket = t; line = text.items } ∷ [] else claims) ≡ claims ++ claim ∷ []))) [
      | true ↦ λ w. (let q : n ≡ s = grind (arith, nat_tests, w) in inr (
        record { ticket = t; line = text.items },
        (text, ap (λ n. record { step = step.Submit n text; reply = reply.Ticket t }) q, refl),
        refl,
      ))
      | false ↦ λ w. inl refl
    ]) refl
claims_grow_by s (step.Submit n text) (reply.Refused x) claims = inl refl
claims_grow_by s (step.Submit n text) (reply.BadRecord x) claims = inl refl
claims_grow_by s (step.Submit n text) (reply.Job t) claims = inl refl
claims_grow_by s (step.Submit n text) reply.Nothing claims = inl refl
claims_grow_by s (step.Submit n text) (reply.Done t) claims = inl refl
claims_grow_by s (step.Submit n text) reply.NoJob claims = inl refl
claims_grow_by s (step.Submit n text) (reply.Back t) claims = inl refl
claims_grow_by s (step.Submit n text) (reply.Answer x) claims = inl refl
claims_grow_by s (step.Submit n text) (reply.Notice t) claims = inl refl
claims_grow_by s (step.Submit n text) reply.Empty claims = inl refl
claims_grow_by s (step.Submit n text) reply.NoSuchSubmitter claims = inl refl
claims_grow_by s (step.Submit n text) reply.Withdrawn claims = inl refl
claims_grow_by s (step.Submit n text) (reply.NotWithdrawn x) claims = inl refl
claims_grow_by s (step.Submit n text) (reply.Drained b) claims = inl refl
claims_grow_by s (step.Submit n text) reply.Closed claims = inl refl
claims_grow_by s step.Take r claims = inl refl
claims_grow_by s (step.Finish i) r claims = inl refl
claims_grow_by s (step.HandBack i) r claims = inl refl
claims_grow_by s (step.Collect n) r claims = inl refl
claims_grow_by s (step.Withdraw n j) r claims = inl refl
claims_grow_by s step.Drained r claims = inl refl
claims_grow_by s step.Close r claims = inl refl

pub claims_grow : (s : ℕ) → Grows (λ h. accepted h s) (AddsClaim s)
claims_grow s e h = claims_grow_by s e.step e.reply (accepted h s)

pub claims_added : (s : ℕ) (e : Event) (h : History) (claim : Claim) → AddsClaim s e claim → accepted (e ∷ h) s ≡ accepted h s ++ claim ∷ []
claims_added s e h claim a = ap (λ (e : Event). accepted (e ∷ h) s) a.1
    ∙ (rw (same s) (ap (λ l. accepted h s ++ record { ticket = claim.ticket; line = l } ∷ []) a.2))

-- what adds to the deliveries of a submitter
abbrev pub AddsParcel : ℕ → Event → Parcel → Type 0
AddsParcel s e (Answered answer) = e ≡ record { step = step.Collect s; reply = reply.Answer answer }
AddsParcel s e (Noticed t) = e ≡ record { step = step.Collect s; reply = reply.Notice t }

parcels_by : (s n : ℕ) (r : Reply) (parcel : Parcel) (parcels : List Parcel)
    → (n ≡ s → AddsParcel s (record { step = step.Collect n; reply = r }) parcel)
    → ((if s == n then parcels ++ parcel ∷ [] else parcels) ≡ parcels)
    ⊎ ((x : Parcel) × AddsParcel s (record { step = step.Collect n; reply = r }) x
    × ((if s == n then parcels ++ parcel ∷ [] else parcels) ≡ parcels ++ x ∷ []))
parcels_by s n r parcel parcels adds = (elim (s == n) as (λ b. (s == n) ≡ b
    → ((if b then parcels ++ parcel ∷ [] else parcels) ≡ parcels) ⊎ ((x : Parcel) × AddsParcel s
    (record { step = step.Collect n; reply = r }) x × ((if b then parcels ++ parcel ∷ [] else parcels) ≡ parcels ++ x ∷ []))) [
      | true ↦ λ w. (let q : n ≡ s = grind (arith, nat_tests, w) in inr (parcel, adds q, refl))
      | false ↦ λ w. inl refl
    ]) refl

parcels_grow_by : (s : ℕ) (st : Step) (r : Reply) (parcels : List Parcel)
    → (and_got st r s parcels ≡ parcels) ⊎ ((parcel : Parcel) × AddsParcel s (record { step = st; reply = r }) parcel
    × (and_got st r s parcels ≡ parcels ++ parcel ∷ []))
parcels_grow_by s (step.Collect n) (reply.Answer answer) parcels = parcels_by s n (reply.Answer answer) (Answered answer) parcels
    (λ q. ap (λ n. record { step = step.Collect n; reply = reply.Answer answer }) q)
parcels_grow_by s (step.Collect n) (reply.Notice t) parcels = parcels_by s n (reply.Notice t) (Noticed t) parcels
    (λ q. ap (λ n. record { step = step.Collect n; reply = reply.Notice t }) q)
parcels_grow_by s (step.Collect n) (reply.Ticket t) parcels = inl refl
parcels_grow_by s (step.Collect n) (reply.Refused x) parcels = inl refl
parcels_grow_by s (step.Collect n) (reply.BadRecord x) parcels = inl refl
parcels_grow_by s (step.Collect n) (reply.Job t) parcels = inl refl
parcels_grow_by s (step.Collect n) reply.Nothing parcels = inl refl
parcels_grow_by s (step.Collect n) (reply.Done t) parcels = inl refl
parcels_grow_by s (step.Collect n) reply.NoJob parcels = inl refl
parcels_grow_by s (step.Collect n) (reply.Back t) parcels = inl refl
parcels_grow_by s (step.Collect n) reply.Empty parcels = inl refl
parcels_grow_by s (step.Collect n) reply.NoSuchSubmitter parcels = inl refl
parcels_grow_by s (step.Collect n) reply.Withdrawn parcels = inl refl
parcels_grow_by s (step.Collect n) (reply.NotWithdrawn x) parcels = inl refl
parcels_grow_by s (step.Collect n) (reply.Drained b) parcels = inl refl
parcels_grow_by s (step.Collect n) reply.Closed parcels = inl refl
parcels_grow_by s (step.Submit n text) r parcels = inl refl
parcels_grow_by s step.Take r parcels = inl refl
parcels_grow_by s (step.Finish i) r parcels = inl refl
parcels_grow_by s (step.HandBack i) r parcels = inl refl
parcels_grow_by s (step.Withdraw n j) r parcels = inl refl
parcels_grow_by s step.Drained r parcels = inl refl
parcels_grow_by s step.Close r parcels = inl refl

pub parcels_grow : (s : ℕ) → Grows (λ h. delivered h s) (AddsParcel s)
parcels_grow s e h = parcels_grow_by s e.step e.reply (delivered h s)

pub parcels_added : (s : ℕ) (e : Event) (h : History) (parcel : Parcel) → AddsParcel s e parcel → delivered (e ∷ h) s ≡ delivered h s ++ parcel ∷ []
parcels_added s e h (Answered answer) is = ap (λ (e : Event). delivered (e ∷ h) s) is ∙ (rw (same s) refl)
parcels_added s e h (Noticed t) is = ap (λ (e : Event). delivered (e ∷ h) s) is ∙ (rw (same s) refl)

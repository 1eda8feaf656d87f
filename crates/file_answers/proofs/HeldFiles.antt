-- Names of files one after the other, and what each holds.
use Rattle.std.proofs.Common.{◌≡◌, ◌∙◌, ◌+◌, ◌++◌, ◌<◌, ◌⊎◌, Bor, ℕ, suc, List, [], ◌∷◌, Option, inl}
use Rattle.std.proofs.Common.{arith, inr, refl, sym, ap, subst, map, take, drop, length, slice_index_or}
use Rattle.std.proofs.lemmas.List.{take_more, map-append, take-append-drop}
use Rattle.std.proofs.Math.Seq.{drop-cons}
use Rattle.byte_streams.specs.Inputs.{MayBe}
use Rattle.byte_streams.specs.declared.stops.Stop.{Stop}
use Rattle.byte_streams.specs.declared.stops.Stop.TheVariants as stop
use Rattle.file_answers.specs.Sources.{Holds, HoldsEach, HoldsMore, SomeRefused}

pub holds_more : HoldsMore
holds_more holds [] [] name input held last = (last, tt)
holds_more holds [] (x ∷ xs) name input held last = absurd held
holds_more holds (n ∷ ns) [] name input held last = absurd held
holds_more holds (n ∷ ns) (x ∷ xs) name input held last = (held.0, holds_more holds ns xs name input held.1 last)

pub holds_each : HoldsEach
holds_each holds [] [] held = refl
holds_each holds [] (x ∷ xs) held = absurd held
holds_each holds (n ∷ ns) [] held = absurd held
holds_each holds (n ∷ ns) (x ∷ xs) held = ap suc (holds_each holds ns xs held.1)

-- The names from that of an index on.
pub names_left : (names : List (Bor (List ℕ))) (i : ℕ) (d : Bor (List ℕ)) → i < length names
    → map (λ s. s.now) (drop i names) ≡ (slice_index_or names i d).now ∷ map (λ s. s.now) (drop (i + 1) names)
names_left names i d within =
    let after : suc i ≡ i + 1 = omega arith in
    ap (map (λ (s : Bor (List ℕ)). s.now))
    (subst (λ n. drop i names ≡ slice_index_or names i d ∷ drop n names) after (drop-cons names i d within))

pub names_split : (names : List (Bor (List ℕ))) (i : ℕ) (d : Bor (List ℕ)) → i < length names
    → map (λ s. s.now) names ≡ map (λ s. s.now) (take i names) ++ (slice_index_or names i d).now ∷ map (λ s. s.now) (drop (i + 1) names)
names_split names i d within =
    ap (map (λ (s : Bor (List ℕ)). s.now)) (sym (take-append-drop i names))
    ∙ map-append (λ (s : Bor (List ℕ)). s.now) (take i names) (drop i names)
    ∙ ap (λ l. map (λ (s : Bor (List ℕ)). s.now) (take i names) ++ l) (names_left names i d within)

-- One name more is taken.
pub names_next : (names : List (Bor (List ℕ))) (i : ℕ) (d : Bor (List ℕ)) → i < length names
    → map (λ s. s.now) (take (i + 1) names) ≡ map (λ s. s.now) (take i names) ++ (slice_index_or names i d).now ∷ []
names_next names i d within =
    ap (map (λ (s : Bor (List ℕ)). s.now)) (take_more names i d within)
    ∙ map-append (λ (s : Bor (List ℕ)). s.now) (take i names) (slice_index_or names i d ∷ [])

-- One name more of those that are taken is read.
pub holds_next : (holds : List ℕ → Option (List ℕ)) (names : List (Bor (List ℕ))) (i : ℕ) (d : Bor (List ℕ)) (inputs : List (List ℕ)) (input : List ℕ)
    → i < length names → Holds holds (map (λ s. s.now) (take i names)) inputs → MayBe (holds (slice_index_or names i d).now) input
    → Holds holds (map (λ s. s.now) (take (i + 1) names)) (inputs ++ input ∷ [])
holds_next holds names i d inputs input within so_far held =
    rw (names_next names i d within)
    (holds_more holds (map (λ s. s.now) (take i names)) inputs (slice_index_or names i d).now input so_far held)

some_behind : (refuses : List ℕ → Type 0) (front : List (List ℕ)) (name : List ℕ) (back : List (List ℕ)) → refuses name
    → SomeRefused refuses (front ++ name ∷ back)
some_behind refuses [] name back may = inl may
some_behind refuses (n ∷ ns) name back may = inr (some_behind refuses ns name back may)

some_refused : (refuses : List ℕ → Type 0) (names : List (Bor (List ℕ))) (i : ℕ) (d : Bor (List ℕ)) → i < length names
    → refuses (slice_index_or names i d).now
    → SomeRefused refuses (map (λ s. s.now) names)
some_refused refuses names i d within may =
    subst (SomeRefused refuses) (sym (names_split names i d within))
    (some_behind refuses (map (λ s. s.now) (take i names)) (slice_index_or names i d).now (map (λ s. s.now) (drop (i + 1) names)) may)

-- The file of this index stops the reading.
pub refused_there : (refuses : List ℕ → Type 0) (names : List (Bor (List ℕ))) (i : ℕ) (d : Bor (List ℕ)) (s : Stop) → i < length names
    → (s ≡ stop.NoMemory) ⊎ ((s ≡ stop.Unreadable) × refuses (slice_index_or names i d).now)
    → (s ≡ stop.NoMemory) ⊎ ((s ≡ stop.Unreadable) × SomeRefused refuses (map (λ s. s.now) names))
refused_there refuses names i d s within (inl is) = inl is
refused_there refuses names i d s within (inr (is, may)) = inr (is, some_refused refuses names i d within may)

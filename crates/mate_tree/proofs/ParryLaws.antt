-- Which replies parry, by the laws of the search; and that each has a line.
use Rattle.std.proofs.Common.{◌≡◌, ◌∙◌, ◌⊎◌, inl, inr, ℕ, zero, suc, ◌+◌, ◌-◌, ◌<◌, Bool, true, false, not, ◌&&◌, ◌||◌}
use Rattle.std.proofs.Common.{List, [], ◌∷◌, length, Contains, Option, Some, None, refl, sym, ap, subst, arith}
use Rattle.std.specs.Prelude.{nat_lt}
use Rattle.std.specs.List.{list_any}
use Rattle.std.specs.Option.{option_map_or}
use Rattle.std.specs.Str.{bytes_eq}
use Rattle.std.proofs.lemmas.Bool.{and_parts}
use Rattle.std.proofs.lemmas.Bool.Decides.{Decides-eqb, nat_tests}
use Rattle.std.proofs.lemmas.List.Elements.{Contains-append_right}
use Rattle.std.proofs.lemmas.List.Folds.{list_any_at}
use Rattle.std.proofs.lemmas.Slice.Eq.{slice_eq-Decides}
use Rattle.chess_board.specs.Legality.{is_legal}
use Rattle.chess_board.specs.Positions.{Setup}
use Rattle.chess_board.specs.Moves.{Move, move_place}
use Rattle.chess_board.specs.MakeMove.{after_setup}
use Rattle.chess_moves.specs.inside.Listing.{legal_moves}
use Rattle.chess_moves.specs.Laws.{LegalListed}
use Rattle.chess_moves.specs.Verdicts.{mating_moves}
use Rattle.chess_problems.specs.Outcomes.{AreLegal, IsPlayable}
use Rattle.chess_problems.specs.declared.outcomes.Outcome.{Outcome}
use Rattle.chess_problems.specs.declared.outcomes.Outcome.TheVariants.{Mate, NoMate}
use Rattle.mate_search.specs.Laws.{TruthPlayable}
use Rattle.mate_search.specs.PrincipalVariation.{IsKey}
use Rattle.mate_search.specs.Wins.{leaves_lost}
use Rattle.mate_tree.specs.Continuations.{keys_of, soonest}
use Rattle.mate_tree.specs.Passing.{passed}
use Rattle.mate_tree.specs.Parries.{ParriesRead, is_met, parries, parrying, still_mates, threats}
use Rattle.mate_tree.specs.Variations.{EachHasLine, are_alike, follows, is_told, mates_told, same_texts}
use Rattle.mate_tree.proofs.LegalReplies.{filter_has, filter_keeps}

-- ---- what is found by a test

any_contains : (f : Move → Bool) (xs : List Move) → list_any f xs ≡ true → (x : Move) × Contains xs x × (f x ≡ true)
any_contains f [] is = cc
any_contains f (y ∷ ys) is = (elim (f y) as (λ b. f y ≡ b → (x : Move) × Contains (y ∷ ys) x × (f x ≡ true)) [
  | true ↦ λ passes. (y, (0, omega arith, refl), passes)
  | false ↦ λ fails. let more = any_contains f ys (ap (λ b. b || list_any f ys) (sym fails) ∙ is) in
      (more.0, Contains-append_right (y ∷ []) ys more.0 more.1, more.2)
]) refl

contains_any : (f : Move → Bool) (xs : List Move) (x : Move) → Contains xs x → f x ≡ true → list_any f xs ≡ true
contains_any f xs x (k, on, e) passes = list_any_at f xs k x on (ap f e ∙ passes)

-- ---- threats

key_legal : (p : Setup) (o : Outcome) (m : Move) → IsPlayable p o → Contains (keys_of o) m → Contains (legal_moves p) m
unfolding IsPlayable
key_legal p (Mate n keys pv) m playable has = of_legal keys.items playable.0 has
  where
    of_legal : (ms : List Move) → AreLegal p ms → Contains ms m → Contains (legal_moves p) m
    of_legal [] legal (k, on, e) = absurd (omega (arith, on))
    of_legal (x ∷ xs) legal (zero, on, e) = subst (Contains (legal_moves p)) e legal.0
    of_legal (x ∷ xs) legal (suc k, on, e) = of_legal xs legal.1 (k, omega arith, e)
key_legal p NoMate m playable (k, on, e) = absurd (omega (arith, on))

-- A threat has its squares on the board.
threat_on_board : TruthPlayable → LegalListed → (k : ℕ) (q : Setup) (t : Move) → Contains (threats k q) t → (t.origin < 64) × (t.target < 64)
unfolding soonest
threat_on_board playable listed k q t has = by (passed q) has
  where
    by : (o : Option Setup) → Contains (option_map_or (λ p. keys_of (soonest k p)) o []) t → (t.origin < 64) × (t.target < 64)
    by None (j, on, e) = absurd (omega (arith, on))
    by (Some p) there =
        let at = (listed p t).0 (key_legal p (soonest k p) t (playable (record { position = p; bound = k; avoid = [] })) there) in
        (at.0, at.1)

key_mates : LegalListed → (k : ℕ) (p : Setup) (t : Move) → IsKey (legal_moves p) p k t → still_mates k p t ≡ true
key_mates listed k p t key = both (is_legal p t) (leaves_lost (k - 1) p t) ((listed p t).0 key.0).2 key.1
  where
    both : (a b : Bool) → a ≡ true → b ≡ true → (a && b) ≡ true
    both true true is so = refl
    both true false is so = cc
    both false b is so = cc

mates_key : LegalListed → (k : ℕ) (p : Setup) (t : Move) → t.origin < 64 → t.target < 64 → still_mates k p t ≡ true → IsKey (legal_moves p) p k t
mates_key listed k p t origin target mates =
    let parts = and_parts (is_legal p t) (leaves_lost (k - 1) p t) mates in
    ((listed p t).1 (origin, target, parts.0), parts.1)

pub parries_read : TruthPlayable → LegalListed → ParriesRead
unfolding parrying
parries_read playable listed k q r legal =
    (elim (is_met k (threats k q) (after_setup q r)) as (λ b. is_met k (threats k q) (after_setup q r) ≡ b
    → (Contains (parrying k q) r × ((t : Move) → Contains (threats k q) t → ¬ IsKey (legal_moves (after_setup q r)) (after_setup q r) k t))
    ⊎ ((¬ Contains (parrying k q) r) × ((t : Move) × Contains (threats k q) t × IsKey (legal_moves (after_setup q r)) (after_setup q r) k t))) [
      | false ↦ λ free. inl (
        filter_keeps (parries k q) (legal_moves q) r legal (ap not free),
        λ t has key. no_both (sym free ∙ contains_any (still_mates k (after_setup q r)) (threats k q) t has
            (key_mates listed k (after_setup q r) t key)),
      )
      | true ↦ λ met. inr (
        (λ there. no_both (sym (ap not met) ∙ (filter_has (parries k q) (legal_moves q) r there).1)),
        (let found = any_contains (still_mates k (after_setup q r)) (threats k q) met in
            let at = threat_on_board playable listed k q found.0 found.1 in
            (found.0, found.1, mates_key listed k (after_setup q r) found.0 at.0 at.1 found.2)),
      )
    ]) refl
  where
    no_both : false ≡ true → ⊥
    no_both is = cc

-- ---- replies that are answered alike

bytes_through : (a b c : List ℕ) → bytes_eq a b ≡ true → bytes_eq b c ≡ true → bytes_eq a c ≡ true
bytes_through a b c first second =
    let one = (slice_eq-Decides Decides-eqb a b (bytes_eq a b) refl).0 first in
    let two = (slice_eq-Decides Decides-eqb b c (bytes_eq b c) refl).0 second in
    (slice_eq-Decides Decides-eqb a c (bytes_eq a c) refl).1 (one ∙ two)

both_true : (a b : Bool) → a ≡ true → b ≡ true → (a && b) ≡ true
both_true true true is so = refl
both_true true false is so = cc
both_true false b is so = cc

texts_through : (xs ys zs : List (List ℕ)) → same_texts xs ys ≡ true → same_texts ys zs ≡ true → same_texts xs zs ≡ true
texts_through [] [] [] first second = refl
texts_through [] [] (z ∷ zs) first second = cc
texts_through [] (y ∷ ys) zs first second = cc
texts_through (x ∷ xs) [] zs first second = cc
texts_through (x ∷ xs) (y ∷ ys) [] first second = cc
texts_through (x ∷ xs) (y ∷ ys) (z ∷ zs) first second =
    let one = and_parts (bytes_eq x y) (same_texts xs ys) first in
    let two = and_parts (bytes_eq y z) (same_texts ys zs) second in
    both_true (bytes_eq x z) (same_texts xs zs) (bytes_through x y z one.0 two.0) (texts_through xs ys zs one.1 two.1)

follows_through : (q : Setup) (r s t : Move) → follows q r s ≡ true → follows q s t ≡ true → follows q r t ≡ true
follows_through q r s t first second =
    let one = and_parts (nat_lt (move_place r) (move_place s)) (are_alike q r s) first in
    let two = and_parts (nat_lt (move_place s) (move_place t)) (are_alike q s t) second in
    let some = and_parts (nat_lt 0 (length (mating_moves (after_setup q r)))) (same_texts (mates_told q r) (mates_told q s)) one.1 in
    let on = and_parts (nat_lt 0 (length (mating_moves (after_setup q s)))) (same_texts (mates_told q s) (mates_told q t)) two.1 in
    let before : nat_lt (move_place r) (move_place t) ≡ true = between (move_place r) (move_place s) (move_place t) one.0 two.0 in
    both_true (nat_lt (move_place r) (move_place t)) (are_alike q r t) before
    (both_true (nat_lt 0 (length (mating_moves (after_setup q r)))) (same_texts (mates_told q r) (mates_told q t)) some.0
    (texts_through (mates_told q r) (mates_told q s) (mates_told q t) some.1 on.1))
  where
    between : (a b c : ℕ) → nat_lt a b ≡ true → nat_lt b c ≡ true → nat_lt a c ≡ true
    between a b c first second = grind (arith, nat_tests, first, second)

first_of : (q : Setup) (rs : List Move) (n : ℕ) (r : Move) → move_place r < n → Contains rs r
    → (is_told q rs r ≡ false) ⊎ ((s : Move) × Contains rs s × (is_told q rs s ≡ false) × (follows q s r ≡ true))
first_of q rs zero r few has = absurd (omega (arith, few))
first_of q rs (suc n) r few has =
    (elim (is_told q rs r) as (λ b. is_told q rs r ≡ b
    → (is_told q rs r ≡ false) ⊎ ((s : Move) × Contains rs s × (is_told q rs s ≡ false) × (follows q s r ≡ true))) [
      | false ↦ λ own. inl own
      | true ↦ λ told.
          let earlier = any_contains (λ s. follows q s r) rs told in
          let s = earlier.0 in
          let lower : move_place s < move_place r =
          below (move_place s) (move_place r) (and_parts (nat_lt (move_place s) (move_place r)) (are_alike q s r) earlier.2).0 in
          on s earlier.2 earlier.1 (first_of q rs n s (omega (arith, lower, few)) earlier.1)
    ]) refl
  where
    below : (a b : ℕ) → nat_lt a b ≡ true → a < b
    below a b is = grind (arith, nat_tests, is)

    on : (s : Move) → follows q s r ≡ true → Contains rs s
        → (is_told q rs s ≡ false) ⊎ ((t : Move) × Contains rs t × (is_told q rs t ≡ false) × (follows q t s ≡ true))
        → (is_told q rs r ≡ false) ⊎ ((t : Move) × Contains rs t × (is_told q rs t ≡ false) × (follows q t r ≡ true))
    on s then there (inl own) = inr (s, there, own, then)
    on s then there (inr (t, has, own, before)) = inr (t, has, own, follows_through q t s r before then)

pub each_has_line : EachHasLine
each_has_line q rs r has = first_of q rs (move_place r + 1) r (omega arith) has

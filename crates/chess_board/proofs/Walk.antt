-- The squares strictly between two squares in line are those that a walk from the one to the other meets.
use Rattle.std.proofs.Common.{◌≡◌, ℕ, ◌+◌, ◌-◌, ◌<◌, ◌⊎◌, inl, inr, sym, ap, subst, ◌∙◌, arith}
use Rattle.std.proofs.Common.{List, Option, Some, None, max, true, false, ◌||◌, not, refl, eqb}
use Rattle.std.specs.Prelude.{is_some}
use Rattle.std.proofs.lemmas.Bool.Decides.{nat_tests}
use Rattle.std.proofs.lemmas.Bool.{and_parts, or_cases, or_left, or_right, eqb-true, eq-eqb}
use Rattle.chess_board.specs.declared.men.Man.{Man}
use Rattle.chess_board.specs.Squares.{file_of, rank_of, gap, file_gap, rank_gap}
use Rattle.chess_board.specs.inside.Walks.{toward_of, walked}
use Rattle.chess_board.specs.Positions.{man_at, is_empty}
use Rattle.chess_board.specs.Attacks.{is_amid, is_between, is_between_on_rank, is_between_on_file, is_between_on_diagonal}
use Rattle.chess_board.specs.Attacks.{is_clear, is_rook_line, is_bishop_line, on_one_rank, on_one_file, on_one_diagonal}
use Rattle.chess_board.proofs.Below.{all_from, all_not}
use Rattle.chess_board.proofs.Conjunctions.{all_three, all_five}

-- x lies strictly between a and b
abbrev IsAmid : ℕ → ℕ → ℕ → Type 0
IsAmid a b x = ((a < x) × (x < b)) ⊎ ((b < x) × (x < a))

amid_reads : (a b x : ℕ) → is_amid a b x ≡ true → IsAmid a b x
amid_reads a b x h = grind (arith, nat_tests)

amid_from : (a b x : ℕ) → IsAmid a b x → is_amid a b x ≡ true
amid_from a b x h = grind (arith, nat_tests)

-- where a walk leads, by the three cases
toward-up : (a b k : ℕ) → a < b → toward_of a b k ≡ a + k
toward-up a b k h = grind (arith, nat_tests)

toward-down : (a b k : ℕ) → b < a → toward_of a b k ≡ a - k
toward-down a b k h = grind (arith, nat_tests)

toward-same : (a b k : ℕ) → a ≡ b → toward_of a b k ≡ a
toward-same a b k h = grind (arith, nat_tests)

-- A number strictly between two others is met after as many steps as it is apart from the first.
toward-amid : (a b s : ℕ) → IsAmid a b s → toward_of a b (gap a s) ≡ s
toward-amid a b s (inl h) = toward-up a b (gap a s) (omega arith) ∙ omega arith
toward-amid a b s (inr h) = toward-down a b (gap a s) (omega arith) ∙ omega arith

-- A walk of fewer steps than the whole distance ends strictly between.
amid-toward : (a b k : ℕ) → 0 < k → k < gap a b → IsAmid a b (toward_of a b k)
amid-toward a b k positive less = grind (arith, nat_tests)

gap-toward : (a b k : ℕ) → k < gap a b → gap a (toward_of a b k) ≡ k
gap-toward a b k less = grind (arith, nat_tests)

gap-toward_end : (a b k : ℕ) → k < gap a b → gap (toward_of a b k) b + k ≡ gap a b
gap-toward_end a b k less = grind (arith, nat_tests)

-- what the test of a square between says
abbrev IsBetween : ℕ → ℕ → ℕ → Type 0
IsBetween a b s =
    ((rank_of a ≡ rank_of b) × (rank_of a ≡ rank_of s) × IsAmid (file_of a) (file_of b) (file_of s))
    ⊎ ((file_of a ≡ file_of b) × (file_of a ≡ file_of s) × IsAmid (rank_of a) (rank_of b) (rank_of s))
    ⊎ ((file_gap a b ≡ rank_gap a b) × (file_gap a s ≡ rank_gap a s) × (file_gap s b ≡ rank_gap s b)
    × IsAmid (file_of a) (file_of b) (file_of s) × IsAmid (rank_of a) (rank_of b) (rank_of s))

between_reads : (a b s : ℕ) → is_between a b s ≡ true → IsBetween a b s
between_reads a b s h = elim (or_cases (is_between_on_rank a b s || is_between_on_file a b s) (is_between_on_diagonal a b s) h) [
  | inl t ↦ elim (or_cases (is_between_on_rank a b s) (is_between_on_file a b s) t) [
    | inl r ↦ let p = all_three (on_one_rank a b) (on_one_rank a s) (is_amid (file_of a) (file_of b) (file_of s)) r in
        inl (eqb-true _ _ p.0, eqb-true _ _ p.1, amid_reads _ _ _ p.2)
    | inr r ↦ let p = all_three (on_one_file a b) (on_one_file a s) (is_amid (rank_of a) (rank_of b) (rank_of s)) r in
        inr (inl (eqb-true _ _ p.0, eqb-true _ _ p.1, amid_reads _ _ _ p.2))
  ]
  | inr r ↦
      let p = all_five (on_one_diagonal a b) (on_one_diagonal a s) (on_one_diagonal s b)
      (is_amid (file_of a) (file_of b) (file_of s)) (is_amid (rank_of a) (rank_of b) (rank_of s)) r in
      inr (inr (eqb-true _ _ p.0, eqb-true _ _ p.1, eqb-true _ _ p.2, amid_reads _ _ _ p.3, amid_reads _ _ _ p.4))
]

between_from : (a b s : ℕ) → IsBetween a b s → is_between a b s ≡ true
between_from a b s (inl h) = let x = eq-eqb _ _ h.0 in let y = eq-eqb _ _ h.1 in let z = amid_from _ _ _ h.2 in rw (x, y, z) refl
between_from a b s (inr (inl h)) =
    let t : is_between_on_file a b s ≡ true =
    (let x = eq-eqb _ _ h.0 in let y = eq-eqb _ _ h.1 in let z = amid_from _ _ _ h.2 in rw (x, y, z) refl) in
    or_left (is_between_on_rank a b s || is_between_on_file a b s) (is_between_on_diagonal a b s)
    (or_right (is_between_on_rank a b s) (is_between_on_file a b s) t)
between_from a b s (inr (inr h)) =
    let t : is_between_on_diagonal a b s ≡ true = (let x = eq-eqb _ _ h.0 in let y = eq-eqb _ _ h.1 in let z = eq-eqb _ _ h.2 in
    let u = amid_from _ _ _ h.3 in let v = amid_from _ _ _ h.4 in rw (x, y, z, u, v) refl) in
    or_right (is_between_on_rank a b s || is_between_on_file a b s) (is_between_on_diagonal a b s) t

-- The square between is the one that the walk meets.
between_walked : (a b s : ℕ) → IsBetween a b s → (k : ℕ) × (0 < k) × (k < max (file_gap a b) (rank_gap a b)) × (walked a b k ≡ s)
between_walked a b s (inl h) =
    let e : toward_of (file_of a) (file_of b) (file_gap a s) ≡ file_of s = toward-amid _ _ _ h.2 in
    let f : toward_of (rank_of a) (rank_of b) (file_gap a s) ≡ rank_of a = toward-same _ _ _ h.0 in
    (file_gap a s, omega arith, omega arith, omega arith)
between_walked a b s (inr (inl h)) =
    let e : toward_of (rank_of a) (rank_of b) (rank_gap a s) ≡ rank_of s = toward-amid _ _ _ h.2 in
    let f : toward_of (file_of a) (file_of b) (rank_gap a s) ≡ file_of a = toward-same _ _ _ h.0 in
    (rank_gap a s, omega arith, omega arith, omega arith)
between_walked a b s (inr (inr h)) =
    let e : toward_of (rank_of a) (rank_of b) (rank_gap a s) ≡ rank_of s = toward-amid _ _ _ h.4 in
    let f : toward_of (file_of a) (file_of b) (file_gap a s) ≡ file_of s = toward-amid _ _ _ h.3 in
    let g : toward_of (file_of a) (file_of b) (rank_gap a s) ≡ file_of s = ap (toward_of (file_of a) (file_of b)) (sym h.1) ∙ f in
    (rank_gap a s, omega arith, omega arith, omega arith)

-- The square that a walk in line meets is between.
walked_between : (a b k : ℕ) → (is_rook_line a b || is_bishop_line a b) ≡ true → a < 64 → b < 64 → 0 < k
    → k < max (file_gap a b) (rank_gap a b) → IsBetween a b (walked a b k)
walked_between a b k line a_on b_on positive less = elim (or_cases (is_rook_line a b) (is_bishop_line a b) line) [
  | inl r ↦ let p = and_parts (not (eqb a b)) (on_one_rank a b || on_one_file a b) r in elim (or_cases (on_one_rank a b) (on_one_file a b) p.1) [
    | inl t ↦
        let e : rank_of a ≡ rank_of b = eqb-true _ _ t in
        let m : IsAmid (file_of a) (file_of b) (toward_of (file_of a) (file_of b) k) = amid-toward _ _ k positive (omega arith) in
        let f : toward_of (rank_of a) (rank_of b) k ≡ rank_of a = toward-same _ _ k e in
        let fs : toward_of (file_of a) (file_of b) k ≡ file_of (walked a b k) = omega arith in
        let rs : rank_of a ≡ rank_of (walked a b k) = omega arith in
        inl (e, rs, subst (λ x. IsAmid (file_of a) (file_of b) x) fs m)
    | inr t ↦
        let e : file_of a ≡ file_of b = eqb-true _ _ t in
        let m : IsAmid (rank_of a) (rank_of b) (toward_of (rank_of a) (rank_of b) k) = amid-toward _ _ k positive (omega arith) in
        let f : toward_of (file_of a) (file_of b) k ≡ file_of a = toward-same _ _ k e in
        let rs : toward_of (rank_of a) (rank_of b) k ≡ rank_of (walked a b k) = omega arith in
        let fs : file_of a ≡ file_of (walked a b k) = omega arith in
        inr (inl (e, fs, subst (λ x. IsAmid (rank_of a) (rank_of b) x) rs m))
  ]
  | inr r ↦ let p = and_parts (not (eqb a b)) (on_one_diagonal a b) r in
      let e : file_gap a b ≡ rank_gap a b = eqb-true _ _ p.1 in
      let mf : IsAmid (file_of a) (file_of b) (toward_of (file_of a) (file_of b) k) = amid-toward _ _ k positive (omega arith) in
      let mr : IsAmid (rank_of a) (rank_of b) (toward_of (rank_of a) (rank_of b) k) = amid-toward _ _ k positive (omega arith) in
      let gf : gap (file_of a) (toward_of (file_of a) (file_of b) k) ≡ k = gap-toward _ _ k (omega arith) in
      let gr : gap (rank_of a) (toward_of (rank_of a) (rank_of b) k) ≡ k = gap-toward _ _ k (omega arith) in
      let hf : gap (toward_of (file_of a) (file_of b) k) (file_of b) + k ≡ file_gap a b = gap-toward_end _ _ k (omega arith) in
      let hr : gap (toward_of (rank_of a) (rank_of b) k) (rank_of b) + k ≡ rank_gap a b = gap-toward_end _ _ k (omega arith) in
      let fs : toward_of (file_of a) (file_of b) k ≡ file_of (walked a b k) = omega arith in
      let rs : toward_of (rank_of a) (rank_of b) k ≡ rank_of (walked a b k) = omega arith in
      inr (inr (
        e,
        subst (λ x. gap (file_of a) x ≡ rank_gap a (walked a b k)) fs
            (subst (λ y. gap (file_of a) (toward_of (file_of a) (file_of b) k) ≡ gap (rank_of a) y) rs (gf ∙ sym gr)),
        subst (λ x. gap x (file_of b) ≡ rank_gap (walked a b k) b) fs
            (subst (λ y. gap (toward_of (file_of a) (file_of b) k) (file_of b) ≡ gap y (rank_of b)) rs (omega arith)),
        subst (λ x. IsAmid (file_of a) (file_of b) x) fs mf,
        subst (λ x. IsAmid (rank_of a) (rank_of b) x) rs mr,
      ))
]

between_on : (a b s : ℕ) → IsBetween a b s → a < 64 → b < 64 → s < 64
between_on a b s (inl h) a_on b_on = let e = h.1 in omega arith
between_on a b s (inr (inl h)) a_on b_on = elim h.2 [ inl m ↦ omega arith | inr m ↦ omega arith ]
between_on a b s (inr (inr h)) a_on b_on = elim h.4 [ inl m ↦ omega arith | inr m ↦ omega arith ]

pub empty_reads : (men : List (Option Man)) (s : ℕ) → is_empty men s ≡ true → man_at men s ≡ None
empty_reads men s h = (elim (man_at men s) as (λ m. man_at men s ≡ m → m ≡ None) [
  | None ↦ λ e. refl
  | Some man ↦ λ e. let t = rw e at h in cc
]) refl

pub clear_from_walk : (men : List (Option Man)) (a b : ℕ)
    → ((k : ℕ) → 0 < k → k < max (file_gap a b) (rank_gap a b) → man_at men (walked a b k) ≡ None) → is_clear men a b ≡ true
clear_from_walk men a b h = all_from (λ s. not (is_between a b s) || is_empty men s) 64 (λ s on.
    (elim (is_between a b s) as (λ t. is_between a b s ≡ t → (not t || is_empty men s) ≡ true) [
      | true ↦ λ e. let w = between_walked a b s (between_reads a b s e) in let none : man_at men s ≡ None =
          ap (man_at men) (sym w.3) ∙ h w.0 w.1 w.2 in rw none refl
      | false ↦ λ e. refl
    ]) refl)

pub blocked_by_walk : (men : List (Option Man)) (a b k : ℕ) → (is_rook_line a b || is_bishop_line a b) ≡ true → a < 64 → b < 64
    → 0 < k → k < max (file_gap a b) (rank_gap a b) → is_some (man_at men (walked a b k)) ≡ true → is_clear men a b ≡ false
blocked_by_walk men a b k line a_on b_on positive less there =
    let between : IsBetween a b (walked a b k) = walked_between a b k line a_on b_on positive less in
    let t : is_between a b (walked a b k) ≡ true = between_from a b (walked a b k) between in
    all_not (λ s. not (is_between a b s) || is_empty men s) 64 (walked a b k) (between_on a b _ between a_on b_on) (rw (t, there) refl)

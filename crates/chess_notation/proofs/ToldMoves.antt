-- The move that a word tells: there is one at most, and each text of a legal move tells it.
use Rattle.std.proofs.Common.{◌≡◌, ℕ, zero, suc, ◌+◌, ◌-◌, ◌<◌, Bool, true, false, ◌||◌, cond, List, [], ◌∷◌}
use Rattle.std.proofs.Common.{◌++◌, length, slice_index, get_or, take, ltb, All, Some, None, codes, if◌then◌else◌}
use Rattle.std.proofs.Common.{find, refl, sym, ap, subst, ◌∙◌, inl, inr, arith, append-nil}
use Rattle.std.specs.Prelude.{Contains}
use Rattle.std.proofs.lemmas.Bool.{or_cases}
use Rattle.std.proofs.lemmas.Bool.Decides.{nat_tests}
use Rattle.std.proofs.lemmas.List.{length_push, get_or_push}
use Rattle.std.proofs.lemmas.List.Elements.{filter_passes, All-head, All-tail}
use Rattle.chess_board.specs.Positions.{Setup}
use Rattle.chess_board.specs.Moves.{Move, move_text}
use Rattle.chess_board.specs.MakeMove.{after_setup}
use Rattle.chess_board.specs.Attacks.{is_in_check}
use Rattle.chess_moves.specs.inside.Listing.{legal_moves}
use Rattle.chess_moves.specs.Laws.{LegalListed}
use Rattle.chess_moves.specs.Verdicts.{is_mate}
use Rattle.chess_notation.specs.SanText.{bare_text, suffix_text, san_text}
use Rattle.chess_notation.specs.SanLaws.{NamesOne, TellsOne, TextsRead}
use Rattle.chess_notation.specs.Opcodes.{same_text}
use Rattle.chess_notation.specs.AvoidMoves.{is_suffix, without_suffix, names}
use Rattle.chess_notation.specs.MoveReading.{tells, move_named}
use Rattle.chess_notation.proofs.Members.{in_front, in_back, in_cases, in_none}
use Rattle.chess_notation.proofs.TextOrder.{same_text_is, same_text_self}
use Rattle.chess_notation.proofs.TextSuffixes.{unmarked-bare_text}
use Rattle.chess_notation.proofs.CoordinateTexts.{no_coordinates, without_suffix-coordinates, coordinates_same}

-- What is found in a list.
pub find_here : {X : Type 0} (f : X → Bool) (xs : List X) (i : ℕ) (d : X) → i < length xs → find f (take i xs) ≡ None
    → f (get_or xs i d) ≡ true → find f xs ≡ Some (get_or xs i d)
find_here f [] i d on none passes = absurd (omega arith)
find_here f (x ∷ xs) zero d on none passes = rw passes
find_here f (x ∷ xs) (suc i) d on none passes = (elim (f x) as (λ b. f x ≡ b → find f (x ∷ xs) ≡ Some (get_or xs i d)) [
  | true ↦ λ t. let n = rw t at none in cc
  | false ↦ λ t. let n = rw t at none in rw t (find_here f xs i d (omega arith) n passes)
]) refl

find_none_suc : {X : Type 0} (f : X → Bool) (xs : List X) (i : ℕ) (d : X) → i < length xs → find f (take i xs) ≡ None
    → f (get_or xs i d) ≡ false → find f (take (suc i) xs) ≡ None
find_none_suc f [] i d on none fails = absurd (omega arith)
find_none_suc f (x ∷ xs) zero d on none fails = rw fails
find_none_suc f (x ∷ xs) (suc i) d on none fails = (elim (f x) as (λ b. f x ≡ b → find f (x ∷ take (suc i) xs) ≡ None) [
  | true ↦ λ t. let n = rw t at none in cc
  | false ↦ λ t. let n = rw t at none in rw t (find_none_suc f xs i d (omega arith) n fails)
]) refl

-- one more element that fails
pub find_none_more : {X : Type 0} (f : X → Bool) (xs : List X) (i : ℕ) (d : X) → i < length xs → find f (take i xs) ≡ None
    → f (get_or xs i d) ≡ false → find f (take (i + 1) xs) ≡ None
find_none_more f xs i d on none fails = let e : suc i ≡ i + 1 = omega arith in
    subst (λ k. find f (take k xs) ≡ None) e (find_none_suc f xs i d on none fails)

-- the only one that passes is found
find_only : {X : Type 0} (f : X → Bool) (xs : List X) (x : X) → Contains xs x → f x ≡ true
    → ((y : X) → Contains xs y → f y ≡ true → y ≡ x) → find f xs ≡ Some x
find_only f [] x among passes only = absurd (in_none x among)
find_only f (y ∷ ys) x among passes only = (elim (f y) as (λ b. f y ≡ b → cond b (Some y) (find f ys) ≡ Some x) [
  | true ↦ λ is. ap Some (only y (in_front y ys) is)
  | false ↦ λ is. elim (in_cases y ys x among) [
    | inl e ↦ let never : true ≡ false = sym passes ∙ ap f e ∙ is in cc
    | inr more ↦ find_only f ys x more passes (λ z h. only z (in_back y ys z h))
  ]
]) refl

-- A word is no coordinates of one move and SAN of another.
mixed : (p : Setup) (word : List ℕ) (m n : Move) → m.target < 64 → n.origin < 64 → names p word m ≡ true → same_text word (move_text n) ≡ true → ⊥
mixed p word m n on_m on_n by_san by_coordinates =
    let coordinates : word ≡ move_text n = same_text_is word (move_text n) by_coordinates in
    let san : without_suffix word ≡ bare_text p m = same_text_is (without_suffix word) (bare_text p m) by_san in
    no_coordinates p m n on_m on_n (sym san ∙ ap without_suffix coordinates ∙ without_suffix-coordinates n)

pub tells_one : LegalListed → NamesOne → TellsOne
tells_one listed once p word m n legal_m legal_n by_m by_n =
    let on_m = (listed p m).0 legal_m in
    let on_n = (listed p n).0 legal_n in
    elim (or_cases (names p word m) (same_text word (move_text m)) by_m) [
      | inl a ↦ elim (or_cases (names p word n) (same_text word (move_text n)) by_n) [
        | inl b ↦ once p word m n legal_m legal_n a b
        | inr b ↦ absurd (mixed p word m n on_m.1 on_n.0 a b)
      ]
      | inr a ↦ elim (or_cases (names p word n) (same_text word (move_text n)) by_n) [
        | inl b ↦ absurd (mixed p word n m on_n.1 on_m.0 b a)
        | inr b ↦ coordinates_same m n (sym (same_text_is word (move_text m) a) ∙ same_text_is word (move_text n) b)
      ]
    ]

-- A text without suffixes ends with none.
abbrev Plain : ℕ → Type 0
Plain b = ltb 44 b ≡ true

plain_no_suffix : (b : ℕ) → Plain b → is_suffix b ≡ false
plain_no_suffix b plain = grind (arith, nat_tests)

last_plain : (xs : List ℕ) (i : ℕ) → All Plain xs → is_suffix (slice_index xs i) ≡ false
last_plain [] i all = refl
last_plain (x ∷ xs) zero all = plain_no_suffix x (All-head Plain x xs all)
last_plain (x ∷ xs) (suc i) all = last_plain xs i (All-tail Plain x xs all)

pub without_suffix-bare_text : (p : Setup) (m : Move) → without_suffix (bare_text p m) ≡ bare_text p m
unfolding without_suffix
without_suffix-bare_text p m =
    let all : All Plain (bare_text p m) = subst (All Plain) (unmarked-bare_text p m) (filter_passes (λ b. ltb 44 b) (bare_text p m)) in
    rw (last_plain (bare_text p m) (length (bare_text p m) - 1) all) refl

take_front : (xs : List ℕ) (c : ℕ) → take (length xs) (xs ++ c ∷ []) ≡ xs
take_front [] c = refl
take_front (x ∷ xs) c = ap (λ t. x ∷ t) (take_front xs c)

without_suffix-pushed : (xs : List ℕ) (c : ℕ) → is_suffix c ≡ true → without_suffix (xs ++ c ∷ []) ≡ xs
unfolding without_suffix
without_suffix-pushed xs c mark =
    let long : length (xs ++ c ∷ []) - 1 ≡ length xs = let l = length_push xs c in omega (arith, l) in
    let last : slice_index (xs ++ c ∷ []) (length xs) ≡ c = get_or_push xs c 0 (length xs) refl in
    rw (long, last, mark) (take_front xs c)

without_suffix-san_text : (p : Setup) (m : Move) → without_suffix (san_text p m) ≡ bare_text p m
unfolding san_text suffix_text
without_suffix-san_text p m = by_mark (is_mate (after_setup p m)) (is_in_check (after_setup p m).men (after_setup p m).side) where
  by_mark : (mate check : Bool) → without_suffix (bare_text p m ++ (if mate then codes "#" else (if check then codes "+" else []))) ≡ bare_text p m
  by_mark true check = without_suffix-pushed (bare_text p m) 35 refl
  by_mark false true = without_suffix-pushed (bare_text p m) 43 refl
  by_mark false false = ap without_suffix (append-nil (bare_text p m)) ∙ without_suffix-bare_text p m

-- So a move's texts tell it.
named_by : TellsOne → (p : Setup) (word : List ℕ) (m : Move) → Contains (legal_moves p) m → tells p word m ≡ true → move_named p word ≡ Some m
unfolding move_named
named_by one p word m legal by = find_only (tells p word) (legal_moves p) m legal by (λ n legal_n by_n. one p word n m legal_n legal by_n by)

told_by_san : (p : Setup) (word : List ℕ) (m : Move) → without_suffix word ≡ bare_text p m → tells p word m ≡ true
told_by_san p word m e =
    let named : names p word m ≡ true = ap (λ t. same_text t (bare_text p m)) e ∙ same_text_self (bare_text p m) in
    ap (λ b. b || same_text word (move_text m)) named

told_by_coordinates : (p : Setup) (m : Move) → tells p (move_text m) m ≡ true
told_by_coordinates p m = by_test (names p (move_text m) m) where
  by_test : (named : Bool) → (named || same_text (move_text m) (move_text m)) ≡ true
  by_test true = refl
  by_test false = same_text_self (move_text m)

pub texts_read : TellsOne → TextsRead
texts_read one p m legal = (
  named_by one p (san_text p m) m legal (told_by_san p (san_text p m) m (without_suffix-san_text p m)),
  named_by one p (bare_text p m) m legal (told_by_san p (bare_text p m) m (without_suffix-bare_text p m)),
  named_by one p (move_text m) m legal (told_by_coordinates p m),
)

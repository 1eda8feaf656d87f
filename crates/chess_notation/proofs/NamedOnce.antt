-- A word names one legal move at most, so words name no more moves than there are words.
use Rattle.std.proofs.Common.{◌≡◌, ℕ, ◌+◌, ◌≤◌, Bool, true, false, ◌||◌, List, [], ◌∷◌, length}
use Rattle.std.proofs.Common.{filter, cond, refl, ap, sym, ◌∙◌, subst, arith, inl, inr}
use Rattle.std.specs.List.{Contains, list_any}
use Rattle.std.proofs.lemmas.List.Elements.{filter_passes, All-filter, All-contains, All-contains_itself}
use Rattle.chess_board.specs.Positions.{Setup}
use Rattle.chess_board.specs.Moves.{Move, move_place}
use Rattle.chess_moves.specs.inside.Listing.{legal_moves}
use Rattle.chess_moves.specs.Laws.{IsAbove, IsRising, LegalRise}
use Rattle.chess_notation.specs.SanText.{bare_text}
use Rattle.chess_notation.specs.SanLaws.{BareTextsApart, NamesOne, NamedRead}
use Rattle.chess_notation.specs.AvoidMoves.{without_suffix, names, named}
use Rattle.chess_notation.proofs.Members.{in_front, in_back, in_cases, any_member}
use Rattle.chess_notation.proofs.NamedMoves.{rising_kept}
use Rattle.chess_notation.proofs.TextOrder.{same_text_is}

pub names_one : BareTextsApart → NamesOne
names_one apart p word m n legal_m legal_n by_m by_n =
    apart p m n legal_m legal_n (sym (same_text_is (without_suffix word) (bare_text p m) by_m)
    ∙ same_text_is (without_suffix word) (bare_text p n) by_n)

-- Of moves that rise, a word names one at most.
abbrev AreLegal : Setup → List Move → Type 0
AreLegal p ms = (m : Move) → Contains ms m → Contains (legal_moves p) m

later_legal : (p : Setup) (m : Move) (ms : List Move) → AreLegal p (m ∷ ms) → AreLegal p ms
later_legal p m ms legal x h = legal x (in_back m ms x h)

no_other : BareTextsApart → (p : Setup) (word : List ℕ) (m : Move) (ms : List Move) → Contains (legal_moves p) m → names p word m ≡ true
    → IsAbove (move_place m) ms → AreLegal p ms → length (filter (names p word) ms) ≡ 0
no_other apart p word m [] there by above legal = refl
no_other apart p word m (n ∷ ns) there by above legal =
    let rest = no_other apart p word m ns there by above.1 (later_legal p n ns legal) in
    (elim (names p word n) as (λ b. names p word n ≡ b → length (cond b (n ∷ filter (names p word) ns) (filter (names p word) ns)) ≡ 0) [
      | true ↦ λ is.
          let same : m ≡ n = names_one apart p word m n there (legal n (in_front n ns)) by is in
          let place : move_place m ≡ move_place n = ap move_place same in
          absurd (omega (arith, above.0))
      | false ↦ λ is. rest
    ]) refl

one_at_most : BareTextsApart → (p : Setup) (word : List ℕ) (ms : List Move) → IsRising ms → AreLegal p ms → length (filter (names p word) ms) ≤ 1
one_at_most apart p word [] rises legal = omega arith
one_at_most apart p word (m ∷ ms) rises legal =
    (elim (names p word m) as (λ b. names p word m ≡ b → length (cond b (m ∷ filter (names p word) ms) (filter (names p word) ms)) ≤ 1) [
      | true ↦ λ is. let none = no_other apart p word m ms (legal m (in_front m ms)) is rises.0 (later_legal p m ms legal) in omega arith
      | false ↦ λ is. one_at_most apart p word ms rises.1 (later_legal p m ms legal)
    ]) refl

-- Those that pass one of two tests are no more than those that pass the first and those that pass the second.
few_of_both : (f g : Move → Bool) (ms : List Move) → length (filter (λ m. f m || g m) ms) ≤ length (filter f ms) + length (filter g ms)
few_of_both f g [] = omega arith
few_of_both f g (m ∷ ms) =
    let rest = few_of_both f g ms in
    by_test (f m) (g m) rest where
      by_test : (a b : Bool) → length (filter (λ x. f x || g x) ms) ≤ length (filter f ms) + length (filter g ms)
          → length (cond (a || b) (m ∷ filter (λ x. f x || g x) ms) (filter (λ x. f x || g x) ms))
          ≤ length (cond a (m ∷ filter f ms) (filter f ms)) + length (cond b (m ∷ filter g ms) (filter g ms))
      by_test true true h = omega (arith, h)
      by_test true false h = omega (arith, h)
      by_test false true h = omega (arith, h)
      by_test false false h = omega (arith, h)

none_of_none : (ms : List Move) → length (filter (λ m. false) ms) ≡ 0
none_of_none [] = refl
none_of_none (m ∷ ms) = none_of_none ms

few_of_words : BareTextsApart → LegalRise → (p : Setup) (words : List (List ℕ))
    → length (filter (λ m. list_any (λ word. names p word m) words) (legal_moves p)) ≤ length words
few_of_words apart rise p [] = let none = none_of_none (legal_moves p) in omega arith
few_of_words apart rise p (word ∷ words) =
    let one = one_at_most apart p word (legal_moves p) (rise p) (λ m h. h) in
    let rest = few_of_words apart rise p words in
    let both = few_of_both (names p word) (λ m. list_any (λ w. names p w m) words) (legal_moves p) in
    omega (arith, one, rest, both)

pub few_named : BareTextsApart → LegalRise → (p : Setup) (words : List (List ℕ)) → length (named p words) ≤ length words
unfolding named
few_named apart rise p words = few_of_words apart rise p words

-- The moves that words name are the legal moves that some word names.
any_of : {X : Type 0} (f : X → Bool) (xs : List X) (x : X) → Contains xs x → f x ≡ true → list_any f xs ≡ true
any_of f [] x h is = absurd (omega (arith, h.1))
any_of f (y ∷ ys) x h is = elim (in_cases y ys x h) [
  | inl e ↦ let here : f y ≡ true = sym (ap f e) ∙ is in rw here refl
  | inr more ↦ let rest = any_of f ys x more is in (elim (f y) as (λ b. (b || list_any f ys) ≡ true) [ true ↦ refl | false ↦ rest ])
]

kept : (f : Move → Bool) (ms : List Move) (m : Move) → Contains ms m → f m ≡ true → Contains (filter f ms) m
kept f [] m h is = absurd (omega (arith, h.1))
kept f (n ∷ ns) m h is = elim (in_cases n ns m h) [
  | inl e ↦ let here : f n ≡ true = sym (ap f e) ∙ is in rw here (subst (Contains (n ∷ filter f ns)) (sym e) (in_front n (filter f ns)))
  | inr more ↦ let rest = kept f ns m more is in (elim (f n) as (λ b.
      Contains (cond b (n ∷ filter f ns) (filter f ns)) m) [ true ↦ in_back n (filter f ns) m rest | false ↦ rest ])
]

pub named_read : LegalRise → NamedRead
unfolding named
named_read rise p words = (
  λ m. (
    (λ c. (
      All-contains (Contains (legal_moves p)) _ m (All-filter (λ x. list_any (λ word. names p word x) words)
          (Contains (legal_moves p)) (legal_moves p) (All-contains_itself (legal_moves p))) c,
      any_member (λ word. names p word m) words (All-contains (λ x. list_any (λ word. names p word x) words ≡ true) _ m
          (filter_passes (λ x. list_any (λ word. names p word x) words) (legal_moves p)) c),
    )),
    (λ h. kept (λ x. list_any (λ word. names p word x) words) (legal_moves p) m h.0 (any_of (λ word. names p word m) words h.1.0 h.1.1 h.1.2)),
  ),
  rising_kept (λ x. list_any (λ word. names p word x) words) (legal_moves p) (rise p),
)

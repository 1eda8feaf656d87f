-- The one move of a list that has one.
use Rattle.std.proofs.Common.{◌≡◌, ◌∙◌, ℕ, ◌+◌, ◌<◌, ◌≤◌, Bool, true, false, List, [], ◌∷◌, ◌++◌, Option, Some, None}
use Rattle.std.proofs.Common.{filter, take, drop, get_or, length, refl, sym, ap, take-append-drop, append-nil}
use Rattle.std.specs.Option.{is_some}
use Rattle.std.proofs.lemmas.List.{drop_more, take_all, take_more}
use Rattle.std.proofs.lemmas.List.Elements.{filter-append}
use Rattle.chess_board.specs.Moves.{Move}
use Rattle.mate_tree.specs.Tries.{sole}

abbrev pub listed : Option Move → List Move
listed None = []
listed (Some m) = m ∷ []

pub sole_listed : (found : Option Move) → sole (listed found) ≡ found
sole_listed None = refl
sole_listed (Some m) = refl

module _ (f : Move → Bool) (xs : List Move) where
  filter_more : (i : ℕ) (d : Move) → i < length xs → filter f (take (i + 1) xs) ≡ filter f (take i xs) ++ filter f (get_or xs i d ∷ [])
  filter_more i d here = ap (filter f) (take_more xs i d here) ∙ filter-append f (take i xs) (get_or xs i d ∷ [])

  pub first_found : (i : ℕ) (d : Move) (found : Option Move) → i < length xs → d ≡ get_or xs i d → is_some found ≡ false
      → filter f (take i xs) ≡ listed found → f d ≡ true
      → filter f (take (i + 1) xs) ≡ listed (Some d)
  first_found i d None here at none before refutes = filter_more i d here ∙ rw (before, ← at, refutes) refl
  first_found i d (Some m) here at none before refutes = cc

  pub none_found : (i : ℕ) (d : Move) (found : Option Move) → i < length xs → d ≡ get_or xs i d → filter f (take i xs) ≡ listed found → f d ≡ false
      → filter f (take (i + 1) xs) ≡ listed found
  none_found i d found here at before fails = filter_more i d here ∙ rw (← at, fails, append-nil (filter f (take i xs))) before

  pub two_found : (i : ℕ) (d : Move) (found : Option Move) → i < length xs → d ≡ get_or xs i d → is_some found ≡ true
      → filter f (take i xs) ≡ listed found → f d ≡ true
      → sole (filter f xs) ≡ None
  two_found i d None here at some before refutes = cc
  two_found i d (Some m) here at some before refutes =
      let rest : drop i xs ≡ d ∷ drop (i + 1) xs = drop_more xs i d here ∙ ap (λ x. x ∷ drop (i + 1) xs) (sym at) in
      let split : filter f xs ≡ filter f (take i xs) ++ filter f (d ∷ drop (i + 1) xs) =
      ap (filter f) (sym (take-append-drop i xs) ∙ ap (λ ys. take i xs ++ ys) rest) ∙ filter-append f (take i xs) (d ∷ drop (i + 1) xs) in
      ap sole split ∙ rw (before, refutes) refl

  pub all_found : (i : ℕ) (found : Option Move) → length xs ≤ i → filter f (take i xs) ≡ listed found → found ≡ sole (filter f xs)
  all_found i found past before = sym (sole_listed found) ∙ ap sole (sym before ∙ ap (filter f) (take_all i xs past))

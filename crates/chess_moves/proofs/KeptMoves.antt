-- A list that grows by those of the moves to come that pass a test.
use Rattle.std.proofs.Common.{◌≡◌, Bool, true, false, List, [], ◌∷◌, ◌++◌, filter, refl, sym, ap, ◌∙◌, append-nil, append_assoc}
use Rattle.std.specs.List.{list_all}
use Rattle.std.proofs.lemmas.Bool.{and_parts}
use Rattle.chess_board.specs.Moves.{Move}

pub filter_first : (f : Move → Bool) (m : Move) (left rest : List Move) → left ≡ m ∷ rest → f m ≡ true → filter f left ≡ m ∷ filter f rest
filter_first f m left rest step passes =
    let here : filter f (m ∷ rest) ≡ m ∷ filter f rest = rw passes refl in
    ap (filter f) step ∙ here

pub filter_kept : (f : Move → Bool) (m : Move) (left rest list more all : List Move) → left ≡ m ∷ rest → f m ≡ true → more ≡ list ++ m ∷ []
    → list ++ filter f left ≡ all → more ++ filter f rest ≡ all
filter_kept f m left rest list more all step passes pushed so_far =
    ap (λ ms. ms ++ filter f rest) pushed ∙ append_assoc list (m ∷ []) (filter f rest)
    ∙ sym (ap (λ ms. list ++ ms) (filter_first f m left rest step passes)) ∙ so_far

pub filter_lost : (f : Move → Bool) (m : Move) (left rest list all : List Move) → left ≡ m ∷ rest → f m ≡ false
    → list ++ filter f left ≡ all → list ++ filter f rest ≡ all
filter_lost f m left rest list all step fails so_far =
    let here : filter f (m ∷ rest) ≡ filter f rest = rw fails refl in
    sym (ap (λ ms. list ++ ms) (ap (filter f) step ∙ here)) ∙ so_far

pub filter_none : (f : Move → Bool) (left list all : List Move) → left ≡ [] → list ++ filter f left ≡ all → list ≡ all
filter_none f left list all none so_far = sym (append-nil list) ∙ sym (ap (λ ms. list ++ filter f ms) none) ∙ so_far

pub all_first : (f : Move → Bool) (m : Move) (left rest : List Move) → left ≡ m ∷ rest → list_all f left ≡ true → f m ≡ true
all_first f m left rest step all = (and_parts (f m) (list_all f rest) (sym (ap (list_all f) step) ∙ all)).0

pub all_others : (f : Move → Bool) (m : Move) (left rest : List Move) → left ≡ m ∷ rest → list_all f left ≡ true → list_all f rest ≡ true
all_others f m left rest step all = (and_parts (f m) (list_all f rest) (sym (ap (list_all f) step) ∙ all)).1

-- What a loop has appended, and one piece more.
use Rattle.std.proofs.Common.{◌≡◌, ◌∙◌, ◌+◌, ◌-◌, ◌<◌, ◌≤◌, ℕ, false, arith, drop, List, [], ◌∷◌, ◌++◌, Option, None, Some, flat_map, get_or, length, map, option_map, take, append-nil, append_assoc, sym, ap}
use Rattle.std.proofs.lemmas.List.{flat_map_more, map-append, take_more, take_rest}
use Rattle.chess_views.specs.Lines.{line}
use Rattle.fault_explanations.specs.declared.explanations.Explanation.{Explanation}
use Rattle.fault_explanations.specs.Explained.{ExplainsEach, explanation_text, one_or_none}

pub mapped_more : {X Y : Type 0} (f : X → Y) (xs : List X) (i : ℕ) (d : X) → i < length xs
    → map f (take (i + 1) xs) ≡ map f (take i xs) ++ f (get_or xs i d) ∷ []
mapped_more f xs i d inside = ap (map f) (take_more xs i d inside) ∙ map-append f (take i xs) (get_or xs i d ∷ [])

pub appended_more : {X A : Type 0} (f : X → List A) (first old new : List A) (xs more : List X) (x : X) → more ≡ xs ++ x ∷ []
    → old ≡ first ++ flat_map f xs → new ≡ old ++ f x → new ≡ first ++ flat_map f more
appended_more f first old new xs more x longer so_far adds =
    adds ∙ ap (λ t. t ++ f x) so_far ∙ flat_map_more f first xs x ∙ ap (λ t. first ++ flat_map f t) (sym longer)

-- What is added where a search found one, and where it found none.
pub added_some : {X : Type 0} (f : X → Explanation) (old new : List X) (x : X) (o : Option X) (says : Option Explanation)
    → new ≡ old ++ x ∷ [] → o ≡ Some x → option_map f o ≡ says → map f new ≡ map f old ++ one_or_none says
added_some f old new x o says adds is found =
    ap (map f) adds ∙ map-append f old (x ∷ []) ∙ ap (λ s. map f old ++ one_or_none s) (sym (ap (option_map f) is) ∙ found)

pub added_none : {X : Type 0} (f : X → Explanation) (old new : List X) (o : Option X) (says : Option Explanation)
    → new ≡ old → o ≡ None → option_map f o ≡ says → map f new ≡ map f old ++ one_or_none says
added_none f old new o says same is found =
    ap (map f) same ∙ sym (append-nil (map f old)) ∙ ap (λ s. map f old ++ one_or_none s) (sym (ap (option_map f) is) ∙ found)

pub behind_byte : (old mid new more : List ℕ) (b : ℕ) → mid ≡ old ++ b ∷ [] → new ≡ mid ++ more → new ≡ old ++ (b ∷ more)
behind_byte old mid new more b first rest = rest ∙ ap (λ t. t ++ more) first ∙ append_assoc old (b ∷ []) more

abbrev each_behind : List Explanation → List ℕ
each_behind more = flat_map (λ next. line [] ++ explanation_text next) more

pub all_explained : {X : Type 0} (f : X → Explanation) (xs : List X) (d : X) (start first all : List ℕ) → 1 ≤ length xs → start ≡ []
    → first ≡ start ++ explanation_text (f (get_or xs 0 d)) → all ≡ first ++ each_behind (map f (take (length xs - 1) (drop 1 xs)))
    → ExplainsEach (map f xs) false all
all_explained f [] d start first all some begins then rest = absurd (omega (arith, some))
all_explained f (x ∷ xs) d start first all some begins then rest =
    rest ∙ ap (λ t. t ++ each_behind (map f (take (length (x ∷ xs) - 1) (drop 1 (x ∷ xs))))) (then ∙ ap (λ t. t ++ explanation_text (f x)) begins)
    ∙ ap (λ t. explanation_text (f x) ++ each_behind (map f t)) (take_rest (x ∷ xs) 1)

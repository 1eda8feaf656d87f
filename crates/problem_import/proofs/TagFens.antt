-- The tag FEN of a game, found in a line.
use Rattle.std.proofs.Common.{◌≡◌, ◌==◌, ◌⊎◌, inl, inr, eqb-true, Bool, true, false, if◌then◌else◌, ℕ, List, [], ◌∷◌, ◌++◌, take, drop, refl, sym, ap, ◌∙◌, subst}
use Rattle.std.proofs.Common.{append_assoc, take-append-drop}
use Rattle.std.proofs.lemmas.List.{append-nil}
use Rattle.std.proofs.lemmas.List.Elements.{Contains-append_left, Contains-append_right, Contains-push}
use Rattle.std.specs.Prelude.{Contains, codes}
use Rattle.chess_notation.specs.Words.{word_at}
use Rattle.move_words.specs.declared.languages.Letters.{Letters}
use Rattle.problem_import.specs.Sources.{IsNamed, behind_byte, value_from}
use Rattle.problem_import.specs.Sources.{IsFenOf, fen_read}
use Rattle.problem_import.specs.TagPairs.{EndsText, begins_with}

pub ends_drop : (text rest : List ℕ) (n : ℕ) → rest ≡ drop n text → EndsText rest text
ends_drop text rest n is = (take n text, sym (take-append-drop n text) ∙ ap (λ t. take n text ++ t) (sym is))

pub ends_none : (text : List ℕ) → EndsText [] text
ends_none text = (text, sym (append-nil text))

pub ends_ends : (a b c : List ℕ) → EndsText a b → EndsText b c → EndsText a c
ends_ends a b c (front, is) (other, same) = (other ++ front, same ∙ ap (λ t. other ++ t) is ∙ sym (append_assoc other front a))

pub ends_first : (b : ℕ) (rest text : List ℕ) → EndsText rest text → EndsText rest (b ∷ text)
ends_first b rest text (front, is) = (b ∷ front, ap (λ t. b ∷ t) is)

ends_if : (found : Bool) (b : ℕ) (bs more : List ℕ) → EndsText more bs → EndsText (if found then bs else more) (b ∷ bs)
ends_if true b bs more ends = (b ∷ [], refl)
ends_if false b bs more ends = ends_first b more bs ends

pub ends_behind : (byte : ℕ) (text : List ℕ) → EndsText (behind_byte byte text) text
ends_behind byte [] = ([], refl)
ends_behind byte (b ∷ bs) = ends_if (b == byte) b bs (behind_byte byte bs) (ends_behind byte bs)

pub fen_taken : (letters : Letters) (line rest more name value fen : List ℕ) → EndsText rest line → rest ≡ 91 ∷ more → name ≡ word_at more
    → IsNamed name (codes "FEN") → value ≡ value_from false (behind_byte 34 more) → fen ≡ fen_read letters value → IsFenOf letters line fen
fen_taken letters line rest more name value fen (front, is) opens named same from read =
    (value, (front, more, is ∙ ap (λ t. front ++ t) opens, subst (λ w. IsNamed w (codes "FEN")) named same, from), read)

-- A text that begins with a byte is that and what stands behind.
pub begun : (byte : ℕ) (text : List ℕ) → begins_with byte text ≡ true → text ≡ byte ∷ drop 1 text
begun byte [] is = let no : false ≡ true = is in cc
begun byte (b ∷ bs) is = ap (λ x. x ∷ bs) (eqb-true b byte is)

-- A byte with which a text begins stands in each text at whose end that stands.
pub brace_in : (line text : List ℕ) → EndsText text line → begins_with 123 text ≡ true → Contains line 123
brace_in line text (front, is) begins =
    subst (λ t. Contains t 123) (sym (is ∙ ap (λ t. front ++ t) (begun 123 text begins)))
    (Contains-append_right front (123 ∷ drop 1 text) 123 (Contains-append_left (123 ∷ []) (drop 1 text) 123 (Contains-push [] 123)))

-- The position behind a tag: that of before, or the tag's.
pub fen_next : {V : Type 0} (P : V → Type 0) (has had have : Bool) (first before after value : V) (Named : Type 0) → (Named → P value)
    → ((have ≡ had) × (after ≡ before)) ⊎ (Named × (after ≡ value)) → ((had ≡ has) × (before ≡ first)) ⊎ P before
    → ((have ≡ has) × (after ≡ first)) ⊎ P after
fen_next P has had have first before after value Named taken (inl (same, is)) (inl (was, one)) = inl (same ∙ was, is ∙ one)
fen_next P has had have first before after value Named taken (inl (same, is)) (inr of) = inr (subst P (sym is) of)
fen_next P has had have first before after value Named taken (inr (named, is)) known = inr (subst P (sym is) (taken named))

use Rattle.std.proofs.Common.{◌≡◌, ◌∙◌, ◌<◌, ◌+◌, ◌++◌, ℕ, List, [], ◌∷◌, Bor, length, get_or, take, map, ap}
use Rattle.std.proofs.lemmas.List.{map-append, map_more, take_all}
use Rattle.std.specs.String.{string_bytes}
use Rattle.command_words.proofs.hyphens.texts_of.Goals as goal

one_more_text : {S : Type 0} (bytes : S → List ℕ) (words : List S) (texts texts' : List (Bor (List ℕ))) (i : ℕ) (any : S) (text : Bor (List ℕ))
    → i < length words → map (λ s. s.now) texts ≡ map bytes (take i words) → texts' ≡ texts ++ text ∷ []
    → text.now ≡ bytes (get_or words i any) → map (λ s. s.now) texts' ≡ map bytes (take (i + 1) words)
one_more_text bytes words texts texts' i any text here so more it =
    rw (more, map_more bytes words i any here, map-append (λ (s : Bor (List ℕ)). s.now) texts (text ∷ []), so)
    (ap (λ t. map bytes (take i words) ++ t ∷ []) it)

pub loop-word-preserved : goal.loop-word-preserved
loop-word-preserved c =
    one_more_text string_bytes _ _ _ _ c.word-item.result _ c.loop-word-test.true c.loop-word.invariant c.in_ok-push.ensures.items
    (c.as_str.ensures.value ∙ ap string_bytes c.word-item.is)

pub returns : goal.returns
returns c = rw (take_all _ _ c.loop-word-test.false) at c.loop-word.invariant

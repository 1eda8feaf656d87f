-- Words with the `--lines` of a command joined to its name, and others.
use Rattle.std.proofs.Common.{◌≡◌, ◌∙◌, ◌++◌, ◌∷◌, ℕ, suc, None, Some, List, Bor, map, take, drop, sym, ap, ap₂, refl}
use Rattle.std.proofs.lemmas.List.{map-append, take-map, drop-map}
use Rattle.std.specs.List.{insert, remove}
use Rattle.clap.specs.Words.{Text}
use Rattle.command_words.specs.LineCommands.{joined, mark_of}

abbrev texts_of : List (Bor Text) → List Text
texts_of texts = map (λ s. s.now) texts

map_remove : (texts : List (Bor Text)) (n : ℕ) → texts_of (remove texts n) ≡ remove (texts_of texts) n
map_remove texts n =
    map-append (λ (s : Bor Text). s.now) (take n texts) (drop (suc n) texts)
    ∙ ap₂ (λ (a b : List Text). a ++ b) (sym (take-map (λ (s : Bor Text). s.now) n texts)) (sym (drop-map (λ (s : Bor Text). s.now) (suc n) texts))

map_insert : (texts : List (Bor Text)) (n : ℕ) (text : Bor Text) → texts_of (insert texts n text) ≡ insert (texts_of texts) n text.now
map_insert texts n text =
    map-append (λ (s : Bor Text). s.now) (take n texts) (text ∷ drop n texts)
    ∙ ap₂ (λ (a b : List Text). a ++ text.now ∷ b) (sym (take-map (λ (s : Bor Text). s.now) n texts))
    (sym (drop-map (λ (s : Bor Text). s.now) n texts))

pub joined_no : (texts : List (Bor Text)) → None ≡ mark_of (texts_of texts) → texts_of texts ≡ joined (texts_of texts)
unfolding joined
joined_no texts none = rw (← none) refl

pub joined_so : (texts : List (Bor Text)) (name : Bor Text) (n : ℕ) → Some (name.now, n) ≡ mark_of (texts_of texts)
    → texts_of (insert (remove (remove texts n) 1) 1 name) ≡ joined (texts_of texts)
unfolding joined
joined_so texts name n some =
    rw (← some) (map_insert (remove (remove texts n) 1) 1 name
    ∙ ap (λ (ws : List Text). insert ws 1 name.now) (map_remove (remove texts n) 1 ∙ ap (λ (ws : List Text). remove ws 1) (map_remove texts n)))

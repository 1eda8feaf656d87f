-- Words with an escape before a FEN, and without.
use Rattle.std.proofs.Common.{◌≡◌, ◌∙◌, ◌++◌, ◌∷◌, ℕ, None, Some, List, Bor, map, take, drop, codes, sym, ap, ap₂}
use Rattle.std.proofs.lemmas.List.{map-append, take-map, drop-map}
use Rattle.std.specs.List.{insert}
use Rattle.clap.specs.Words.{Text}
use Rattle.command_words.specs.Hyphens.{escape_at, escaped}

pub escaped_no : (texts : List (Bor Text)) (words : List Text) → map (λ s. s.now) texts ≡ words → None ≡ escape_at words
    → map (λ s. s.now) texts ≡ escaped words
unfolding escaped
escaped_no texts words same no_escape = rw (← no_escape) same

pub escaped_so : (texts : List (Bor Text)) (dashes : Bor Text) (words : List Text) (n : ℕ) → map (λ s. s.now) texts ≡ words → dashes.now ≡ codes "--"
    → Some n ≡ escape_at words → map (λ s. s.now) (insert texts n dashes) ≡ escaped words
unfolding escaped
escaped_so texts dashes words n same dash escape =
    rw (← escape)
    (map-append (λ (s : Bor Text). s.now) (take n texts) (dashes ∷ drop n texts)
    ∙ ap₂ (λ (a b : List Text). a ++ b) (sym (take-map (λ (s : Bor Text). s.now) n texts) ∙ ap (take n) same)
    (ap₂ (λ (a : Text) (b : List Text). a ∷ b) dash (sym (drop-map (λ (s : Bor Text). s.now) n texts) ∙ ap (drop n) same)))

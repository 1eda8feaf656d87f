-- The number of moves that a game asks, as far as its lines say it.
use Rattle.std.proofs.Common.{◌≡◌, ◌==◌, ◌⊎◌, inl, inr, ℕ, Bool, true, false, if◌then◌else◌, Some, List, ◌∷◌, ◌++◌, sym, ap, ◌∙◌}
use Rattle.std.proofs.Common.{append_assoc, arith, length, refl, subst}
use Rattle.std.proofs.lemmas.List.{length-map}
use Rattle.std.specs.Char.{to_ascii_lowercase}
use Rattle.std.specs.Prelude.{codes}
use Rattle.chess_notation.specs.Words.{word_at}
use Rattle.stipulations.specs.Stipulations.{both}
use Rattle.stipulations.specs.declared.asked.Asked.{Asked}
use Rattle.stipulations.specs.declared.asked.Asked.TheVariants.{Nothing, Moves, Two, Unknown}
use Rattle.problem_import.specs.Sources.{annotator, black, event, white}
use Rattle.problem_import.specs.Sources.{by_name, by_sign, stipulated}
use Rattle.problem_import.specs.Sources.{GameSays, HasComment, HasNames, HasTag, IsNamed, SaysMoves, TagAsks}
use Rattle.problem_import.specs.Sources.{before_byte, behind_byte, value_from}
use Rattle.problem_import.specs.declared.games.Game.{Game}
use Rattle.problem_import.specs.inside.KnownSources.{AsksMore, CommentSays, EndsOne, KeepsAsked, KeepsFen, TagSays}
use Rattle.problem_import.specs.TagPairs.{EndsText}

pub either_way : {A B C : Type 0} → (A → C) → (B → C) → A ⊎ B → C
either_way f g (inl a) = f a
either_way f g (inr b) = g b

pub asks_same : (Says : ℕ → Type 0) (old new : Game) → KeepsAsked old new → AsksMore Says old new
asks_same Says old new (one, other) = ((λ n is. inl (sym one ∙ is)), (λ n is. inl (sym other ∙ is)))

pub asks_then : (Says : ℕ → Type 0) (a b c : Game) → AsksMore Says a b → AsksMore Says b c → AsksMore Says a c
asks_then Says a b c (one, other) (more, others) = (
  (λ n is. either_way (one n) inr (more n is)),
  (λ n is. either_way (other n) inr (others n is)),
)

pub asks_for : (Says Tells : ℕ → Type 0) (old new : Game) → ((n : ℕ) → Says n → Tells n) → AsksMore Says old new → AsksMore Tells old new
asks_for Says Tells old new each (one, other) = (
  (λ n is. either_way inl (λ s. inr (each n s)) (one n is)),
  (λ n is. either_way inl (λ s. inr (each n s)) (other n is)),
)

moves_if : (same : Bool) (m k n : ℕ) → (if same then Moves m else Two) ≡ Moves n → Moves m ≡ Moves n
moves_if true m k n is = is
moves_if false m k n is = let no : Two ≡ Moves n = is in cc

-- Texts that ask so many together: one of them does.
pub both_moves : (a b : Asked) (n : ℕ) → both a b ≡ Moves n → (a ≡ Moves n) ⊎ (b ≡ Moves n)
both_moves Nothing b n is = inr is
both_moves (Moves m) Nothing n is = inl is
both_moves (Moves m) (Moves k) n is = inl (moves_if (m == k) m k n is)
both_moves (Moves m) Two n is = let no : Two ≡ Moves n = is in cc
both_moves (Moves m) Unknown n is = let no : Unknown ≡ Moves n = is in cc
both_moves Two Nothing n is = let no : Two ≡ Moves n = is in cc
both_moves Two (Moves k) n is = let no : Two ≡ Moves n = is in cc
both_moves Two Two n is = let no : Two ≡ Moves n = is in cc
both_moves Two Unknown n is = let no : Unknown ≡ Moves n = is in cc
both_moves Unknown b n is = let no : Unknown ≡ Moves n = is in cc

-- What a game asks and what a text does, as it is read.
pub asked_both : (by : List ℕ → Asked) (Says : ℕ → Type 0) (text : List ℕ) (old : Game) (more all : Asked) → all ≡ both old.asked more
    → more ≡ by text → ((n : ℕ) → by text ≡ Moves n → Says n)
    → ((n : ℕ) → all ≡ Moves n → (old.asked ≡ Moves n) ⊎ Says n)
    × ((n : ℕ) → old.stipulated ≡ Some (Moves n) → (old.stipulated ≡ Some (Moves n)) ⊎ Says n)
asked_both by Says text old more all is says each = (
  (λ n asks. either_way inl (λ it. inr (each n (sym says ∙ it))) (both_moves old.asked more n (sym is ∙ asks))),
  (λ n asks. inl asks),
)

-- ---- texts that stand at the end of others

pub comment_longer : (rest text comment : List ℕ) → EndsText rest text → HasComment rest comment → HasComment text comment
comment_longer rest text comment (before, whole) (front, more, is, up) =
    (before ++ front, more, whole ∙ ap (λ t. before ++ t) is ∙ sym (append_assoc before front more), up)

tag_longer : (IsName : List ℕ → Type 0) (rest text value : List ℕ) → EndsText rest text → HasTag IsName rest value → HasTag IsName text value
tag_longer IsName rest text value (before, whole) (front, pair, is, named, from) =
    (before ++ front, pair, whole ∙ ap (λ t. before ++ t) is ∙ sym (append_assoc before front (91 ∷ pair)), named, from)

pub says_longer : (rest text : List ℕ) (n : ℕ) → EndsText rest text → SaysMoves rest n → SaysMoves text n
says_longer rest text n ends (value, inl tag) = (value, inl (tag_longer (λ name. TagAsks name value n) rest text value ends tag))
says_longer rest text n ends (value, inr (has, says)) = (value, inr (comment_longer rest text value ends has, says))

-- A comment of a text that stands at the end of another says so many.
pub comment_says : (rest text : List ℕ) (n : ℕ) → EndsText rest text → CommentSays rest n → SaysMoves text n
comment_says rest text n (front, is) says = (before_byte 125 rest, inr ((front, rest, is, refl), says))

-- So a game asks what it did, or what such a comment says, or the whole text.
pub asks_on : (text rest : List ℕ) (a b c : Game) → EndsText rest text → AsksMore (SaysMoves text) a b → AsksMore (CommentSays rest) b c
    → AsksMore (SaysMoves text) a c
asks_on text rest a b c ends before more =
    asks_then (SaysMoves text) a b c before (asks_for (CommentSays rest) (SaysMoves text) b c (λ n. comment_says rest text n ends) more)

pub fen_then : (a b c : Game) → KeepsFen a b → KeepsFen b c → KeepsFen a c
fen_then a b c (one, same) (other, is) = (other ∙ one, is ∙ same)

pub said_at_end : (texts : List (List ℕ)) (rest : List ℕ) (n : ℕ) → EndsOne texts rest → SaysMoves rest n → GameSays texts n
said_at_end texts rest n (text, among, ends) says = (text, among, says_longer rest text n ends says)

-- ---- tags

other_name : (one other : List ℕ) (word : List ℕ) → (length one ≡ length other → ⊥) → IsNamed word one → IsNamed word other → ⊥
other_name one other word long is also =
    long (sym (length-map one to_ascii_lowercase) ∙ ap length (sym is ∙ also) ∙ length-map other to_ascii_lowercase)

-- Such tags aren't FEN.
names_no_fen : (name : List ℕ) → HasNames name → IsNamed name (codes "FEN") → ⊥
names_no_fen name (event is) fen = other_name (codes "Event") (codes "FEN") name (λ no. omega (arith, no)) is fen
names_no_fen name (white is) fen = other_name (codes "White") (codes "FEN") name (λ no. omega (arith, no)) is fen
names_no_fen name (black is) fen = other_name (codes "Black") (codes "FEN") name (λ no. omega (arith, no)) is fen
names_no_fen name (annotator is) fen = other_name (codes "Annotator") (codes "FEN") name (λ no. omega (arith, no)) is fen

asks_no_fen : (name value : List ℕ) (n : ℕ) → TagAsks name value n → IsNamed name (codes "FEN") → ⊥
asks_no_fen name value n (stipulated is says) fen = other_name (codes "Stipulation") (codes "FEN") name (λ no. omega (arith, no)) is fen
asks_no_fen name value n (by_sign is says) fen = other_name (codes "Black") (codes "FEN") name (λ no. omega (arith, no)) is fen
asks_no_fen name value n (by_name is says) fen = names_no_fen name is fen

-- A tag says so many, by its name and its value as it stands.
pub tag_says : (line rest more name value taken : List ℕ) (n : ℕ) → EndsText rest line → rest ≡ 91 ∷ more → name ≡ word_at more
    → value ≡ value_from false (behind_byte 34 more) → ((IsNamed name (codes "FEN") → ⊥) → taken ≡ value) → TagSays name taken n → SaysMoves line n
tag_says line rest more name value taken n (front, is) opens named from same says = (
  value,
  inl (
    front,
    more,
    is ∙ ap (λ t. front ++ t) opens,
    subst (λ word. TagAsks word value n) named (subst (λ v. TagAsks name v n) (same (asks_no_fen name taken n says)) says),
    from,
  ),
)

-- The words of a board and the men that they show.
use Rattle.std.proofs.Common.{◌≡◌, ℕ, zero, suc, ◌+◌, ◌<◌, ◌≤◌, ltb, eqb, not, Bool, true, false, cond, ◌&&◌}
use Rattle.std.proofs.Common.{◌||◌, ◌^◌, List, [], ◌∷◌, Option, None, Some, is_some, length, get_or, set}
use Rattle.std.proofs.Common.{replicate, length-set, count_by, refl, sym, ap, subst, ◌∙◌, arith}
use Rattle.std.proofs.lemmas.Bool.{lt-ltb, eqb-true}
use Rattle.std.specs.Prelude.{slice_index}
use denote.Enum.Declared.{tag_of}
use Rattle.chess_board.specs.contracts.men.Colour.{the_type as colour_type}
use Rattle.chess_board.specs.contracts.men.Kind.{the_type as kind_type}
use Rattle.std.proofs.lemmas.List.{ext_get_or, length-replicate, get_or-replicate}
use Rattle.std.proofs.lemmas.Nat.Bits.{bit_at-zero}
use Rattle.square_sets.specs.Members.{has}
use Rattle.chess_board.specs.declared.men.Man.{Man}
use Rattle.chess_board.specs.declared.men.Colour.{Colour}
use Rattle.chess_board.specs.declared.men.Colour.TheVariants.{White, Black}
use Rattle.chess_board.specs.declared.men.Kind.{Kind}
use Rattle.chess_board.specs.declared.men.Kind.TheVariants.{Pawn, Knight, Bishop, Rook, Queen, King}
use Rattle.chess_board.specs.declared.boards.Board.TheInside.{Inside}
use Rattle.chess_board.specs.Positions.{man_at}
use Rattle.std.specs.Int.RustNames.{bit_and, bit_or}
use Rattle.chess_board.specs.Men.{man_of, is_colour, is_kind, is_of, is_man}
use Rattle.chess_board.specs.inside.KindTests.{is_king_kind, is_king_of}
use Rattle.chess_board.specs.Sets.{IsSetOf}
use Rattle.chess_board.specs.inside.Boards.{is_of_kind, colour_words, kind_words, words_of, word_of, kind_by}
use Rattle.chess_board.specs.inside.Boards.{place_by, place_at, listed, men_of, AreWordsOf, AreTheirWords}
use Rattle.chess_board.proofs.Counting.{count_by_none}
use Rattle.chess_board.proofs.MenSets.{IsSetOf-word_of, word_of-IsSetOf, word_of-set, word_of-fits}
use Rattle.chess_board.proofs.MenSets.{IsChanged-without, IsSetOf-bit_and, IsSetOf-bit_or}

length-listed : {X : Type 0} (f : ℕ → X) (i n : ℕ) → length (listed f i n) ≡ n
unfolding listed
length-listed f i zero = refl
length-listed f i (suc n) = ap suc (length-listed f (i + 1) n)

get_or-listed : {X : Type 0} (f : ℕ → X) (i n k : ℕ) (d : X) → k < n → get_or (listed f i n) k d ≡ f (i + k)
unfolding listed
get_or-listed f i zero k d inside = absurd (omega arith)
get_or-listed f i (suc n) zero d inside = ap f (omega arith)
get_or-listed f i (suc n) (suc k) d inside = get_or-listed f (i + 1) n k d (omega arith) ∙ ap f (omega arith)

-- what stands on a square, told by the tests of the words
by_tests : Option Man → Option Man
by_tests place =
    place_by (is_of White place) (is_of Black place)
    (kind_by (is_of_kind Pawn place) (is_of_kind Knight place) (is_of_kind Bishop place) (is_of_kind Rook place) (is_of_kind Queen place))

by_colour : (colour : Colour) (k : Kind) → by_tests (man_of colour k) ≡ man_of colour k
unfolding by_tests
by_colour White Pawn = refl
by_colour White Knight = refl
by_colour White Bishop = refl
by_colour White Rook = refl
by_colour White Queen = refl
by_colour White King = refl
by_colour Black Pawn = refl
by_colour Black Knight = refl
by_colour Black Bishop = refl
by_colour Black Rook = refl
by_colour Black Queen = refl
by_colour Black King = refl

by_tests-place : (place : Option Man) → by_tests place ≡ place
unfolding by_tests
by_tests-place None = refl
by_tests-place (Some man) = by_colour man.colour man.kind

-- words of men are those of the board
words_are : (men : List (Option Man)) (b : Inside) → AreWordsOf men b → words_of men ≡ b
words_are men b h = λ i. record { by_colour = h.colours i; by_kind = h.kinds i }

-- the words of men, read at a square
pub place_at-AreWordsOf : (men : List (Option Man)) (b : Inside) (square : ℕ) → AreWordsOf men b → square < 64
    → place_at b square ≡ man_at men square
unfolding by_tests
place_at-AreWordsOf men b square h inside =
    subst (λ w. place_at w square ≡ man_at men square) (words_are men b h)
    (let set = λ (test : Option Man → Bool). IsSetOf-word_of test men (word_of test men) h.squares refl square inside in
    rw (
      set (is_of White),
      set (is_of Black),
      set (is_of_kind Pawn),
      set (is_of_kind Knight),
      set (is_of_kind Bishop),
      set (is_of_kind Rook),
      set (is_of_kind Queen),
    ) (by_tests-place (man_at men square)))

pub men_of-AreWordsOf : (men : List (Option Man)) (b : Inside) → AreWordsOf men b → men_of b ≡ men
unfolding men_of
men_of-AreWordsOf men b h =
    ext_get_or None (listed (place_at b) 0 64) men (length-listed (place_at b) 0 64 ∙ sym h.squares)
    (λ k inside.
    let l : k < 64 = omega (arith, length-listed (place_at b) 0 64) in
    get_or-listed (place_at b) 0 64 k None l ∙ ap (place_at b) (omega arith) ∙ place_at-AreWordsOf men b k h l)

-- words of some men are the words of the men that they show
pub AreTheirWords-AreWordsOf : (men : List (Option Man)) (b : Inside) → AreWordsOf men b → AreTheirWords b
AreTheirWords-AreWordsOf men b h = subst (λ m. AreWordsOf m b) (sym (men_of-AreWordsOf men b h)) h

-- The words of a board are those of the men that contracts see.
pub AreWordsOf-shown : (men : List (Option Man)) (b : Inside) → men_of b ≡ men → AreTheirWords b → AreWordsOf men b
AreWordsOf-shown men b shown h = subst (λ m. AreWordsOf m b) shown h

-- the sets of all men, and of a side's men of one kind
occupied_test : (place : Option Man) → (is_of White place || is_of Black place) ≡ is_some place
occupied_test None = refl
occupied_test (Some man) = by_one man.colour
  where
    by_one : (colour : Colour) → (is_colour White colour || is_colour Black colour) ≡ true
    by_one White = refl
    by_one Black = refl

pub IsSetOf-occupied : (men : List (Option Man)) (white black : ℕ) → IsSetOf white (is_of White) men → IsSetOf black (is_of Black) men
    → IsSetOf (bit_or white black) is_some men
IsSetOf-occupied men white black = IsSetOf-bit_or white black (is_of White) (is_of Black) is_some men occupied_test

-- the set of a side, and that of a kind, by its number
pub IsSetOf-side : (men : List (Option Man)) (b : Inside) (colour : Colour) → AreWordsOf men b
    → IsSetOf (slice_index b.by_colour (tag_of colour_type colour)) (is_of colour) men
IsSetOf-side men b colour h = subst (λ w. IsSetOf (slice_index w.by_colour (tag_of colour_type colour)) (is_of colour) men)
    (words_are men b h) (own colour)
  where
    own : (c : Colour) → IsSetOf (slice_index (colour_words men) (tag_of colour_type c)) (is_of c) men
    own White = IsSetOf-word_of (is_of White) men (word_of (is_of White) men) h.squares refl
    own Black = IsSetOf-word_of (is_of Black) men (word_of (is_of Black) men) h.squares refl

pub IsSetOf-kind : (men : List (Option Man)) (b : Inside) (k : Kind) → AreWordsOf men b
    → IsSetOf (slice_index b.by_kind (tag_of kind_type k)) (is_of_kind k) men
IsSetOf-kind men b k h = subst (λ w. IsSetOf (slice_index w.by_kind (tag_of kind_type k)) (is_of_kind k) men) (words_are men b h) (own k)
  where
    set : (x : Kind) → IsSetOf (word_of (is_of_kind x) men) (is_of_kind x) men
    set x = IsSetOf-word_of (is_of_kind x) men (word_of (is_of_kind x) men) h.squares refl

    own : (x : Kind) → IsSetOf (slice_index (kind_words men) (tag_of kind_type x)) (is_of_kind x) men
    own Pawn = set Pawn
    own Knight = set Knight
    own Bishop = set Bishop
    own Rook = set Rook
    own Queen = set Queen
    own King = set King

man_test : (colour : Colour) (asked : Kind) (place : Option Man) → (is_of colour place && is_of_kind asked place) ≡ is_man colour asked place
man_test colour asked None = refl
man_test colour asked (Some man) = refl

pub IsSetOf-is_man : (men : List (Option Man)) (side kinds : ℕ) (colour : Colour) (asked : Kind) → IsSetOf side (is_of colour) men
    → IsSetOf kinds (is_of_kind asked) men → IsSetOf (bit_and side kinds) (is_man colour asked) men
IsSetOf-is_man men side kinds colour asked =
    IsSetOf-bit_and side kinds (is_of colour) (is_of_kind asked) (is_man colour asked) men (man_test colour asked)

-- the man on a square
pub man_at-free : (men : List (Option Man)) (taken square : ℕ) → IsSetOf taken is_some men → square < 64 → has taken square ≡ false
    → man_at men square ≡ None
man_at-free men taken square is inside free = nobody (man_at men square) (sym (is square inside) ∙ free)
  where
    nobody : (place : Option Man) → is_some place ≡ false → place ≡ None
    nobody None e = refl
    nobody (Some man) e = cc

-- a man is told by the tests of its colour and its kind
pub man_at-taken : (men : List (Option Man)) (square : ℕ) (colour : Colour) (k : Kind) → is_some (man_at men square) ≡ true
    → colour ≡ cond (is_of White (man_at men square)) White Black
    → k ≡ kind_by (is_of_kind Pawn (man_at men square)) (is_of_kind Knight (man_at men square)) (is_of_kind Bishop (man_at men square))
    (is_of_kind Rook (man_at men square)) (is_of_kind Queen (man_at men square))
    → man_at men square ≡ man_of colour k
man_at-taken men square colour k taken of_colour of_kind =
    told (man_at men square) taken ∙ sym (ap (λ x. man_of x k) of_colour
    ∙ ap (man_of (cond (is_of White (man_at men square)) White Black)) of_kind)
  where
    told : (place : Option Man) → is_some place ≡ true → place ≡ man_of (cond (is_of White place) White Black)
        (kind_by (is_of_kind Pawn place) (is_of_kind Knight place) (is_of_kind Bishop place) (is_of_kind Rook place) (is_of_kind Queen place))
    told None e = cc
    told (Some man) e = by_parts man.colour man.kind
      where
        by_parts : (c : Colour) (x : Kind) → man_of c x ≡ man_of (cond (is_colour White c) White Black)
            (kind_by (is_kind Pawn x) (is_kind Knight x) (is_kind Bishop x) (is_kind Rook x) (is_kind Queen x))
        by_parts White Pawn = refl
        by_parts White Knight = refl
        by_parts White Bishop = refl
        by_parts White Rook = refl
        by_parts White Queen = refl
        by_parts White King = refl
        by_parts Black Pawn = refl
        by_parts Black Knight = refl
        by_parts Black Bishop = refl
        by_parts Black Rook = refl
        by_parts Black Queen = refl
        by_parts Black King = refl

-- one square cleared
pub word_of-cleared : (test : Option Man → Bool) (men : List (Option Man)) (old new square at : ℕ) → test None ≡ false → length men ≡ 64 → square < 64
    → at ≡ square → word_of test men ≡ old → new < 2 ^ 64 → ((s : ℕ) → s < 64 → has new s ≡ (not (eqb s at) && has old s))
    → word_of test (set men square None) ≡ new
word_of-cleared test men old new square at fails long on here same small cleared =
    word_of-set test men old new square None long on same
    (let changed = IsChanged-without old new square at here small cleared in rw fails changed)

-- a man put on an empty square: the words of the tests that it passes have the square, and the others are as they were
module _ (men : List (Option Man)) (square at : ℕ) (man : Man) (long : length men ≡ 64) (on : square < 64) (here : at ≡ square)
    (free : man_at men square ≡ None) where
  pub word_with : (test : Option Man → Bool) (new : ℕ) → test (Some man) ≡ true → new < 2 ^ 64
      → ((s : ℕ) → s < 64 → has new s ≡ (eqb s at || has (word_of test men) s)) → word_of test (set men square (Some man)) ≡ new
  word_with test new passes small changed =
      word_of-set test men (word_of test men) new square (Some man) long on refl
      (small, (λ s inside. changed s inside ∙ rw (here, passes) (either (eqb s square) (has (word_of test men) s))))
    where
      either : (b c : Bool) → (b || c) ≡ cond b true c
      either true c = refl
      either false c = refl

  pub word_still : (test : Option Man → Bool) → test None ≡ false → test (Some man) ≡ false
      → word_of test (set men square (Some man)) ≡ word_of test men
  word_still test none fails =
      word_of-set test men (word_of test men) (word_of test men) square (Some man) long on refl (
        word_of-fits test men long,
        (λ s inside. (elim (eqb s square) as (λ b. eqb s square ≡ b
            → has (word_of test men) s ≡ cond b (test (Some man)) (has (word_of test men) s)) [
              | true ↦ λ e.
                  let it = eqb-true s square e in
                  rw it (IsSetOf-word_of test men (word_of test men) long refl square on ∙ rw (free, fails) none)
              | false ↦ λ e. refl
            ]) refl),
      )

-- the words of the colours, and of the kinds, once a man is put on an empty square
module _ (men : List (Option Man)) (square at : ℕ) (long : length men ≡ 64) (on : square < 64)
    (here : at ≡ square) (free : man_at men square ≡ None) where
  colours_with : (c : Colour) (k : Kind) (new : ℕ) → new < 2 ^ 64
      → ((s : ℕ) → s < 64 → has new s ≡ (eqb s at || has (slice_index (colour_words men) (tag_of colour_type c)) s))
      → colour_words (set men square (man_of c k)) ≡ set (colour_words men) (tag_of colour_type c) new
  colours_with White k new small changed = λ i.
      word_with men square at (record { colour = White; kind = k }) long on here free (is_of White) new refl small changed i
      ∷ word_still men square at (record { colour = White; kind = k }) long on here free (is_of Black) refl refl i
      ∷ []
  colours_with Black k new small changed = λ i.
      word_still men square at (record { colour = Black; kind = k }) long on here free (is_of White) refl refl i
      ∷ word_with men square at (record { colour = Black; kind = k }) long on here free (is_of Black) new refl small changed i
      ∷ []

  kinds_with : (c : Colour) (k : Kind) (new : ℕ) → new < 2 ^ 64
      → ((s : ℕ) → s < 64 → has new s ≡ (eqb s at || has (slice_index (kind_words men) (tag_of kind_type k)) s))
      → kind_words (set men square (man_of c k)) ≡ set (kind_words men) (tag_of kind_type k) new
  kinds_with c Pawn new small changed = λ i.
      word_with men square at (record { colour = c; kind = Pawn }) long on here free (is_of_kind Pawn) new refl small changed i
      ∷ word_still men square at (record { colour = c; kind = Pawn }) long on here free (is_of_kind Knight) refl refl i
      ∷ word_still men square at (record { colour = c; kind = Pawn }) long on here free (is_of_kind Bishop) refl refl i
      ∷ word_still men square at (record { colour = c; kind = Pawn }) long on here free (is_of_kind Rook) refl refl i
      ∷ word_still men square at (record { colour = c; kind = Pawn }) long on here free (is_of_kind Queen) refl refl i
      ∷ word_still men square at (record { colour = c; kind = Pawn }) long on here free (is_of_kind King) refl refl i
      ∷ []
  kinds_with c Knight new small changed = λ i.
      word_still men square at (record { colour = c; kind = Knight }) long on here free (is_of_kind Pawn) refl refl i
      ∷ word_with men square at (record { colour = c; kind = Knight }) long on here free (is_of_kind Knight) new refl small changed i
      ∷ word_still men square at (record { colour = c; kind = Knight }) long on here free (is_of_kind Bishop) refl refl i
      ∷ word_still men square at (record { colour = c; kind = Knight }) long on here free (is_of_kind Rook) refl refl i
      ∷ word_still men square at (record { colour = c; kind = Knight }) long on here free (is_of_kind Queen) refl refl i
      ∷ word_still men square at (record { colour = c; kind = Knight }) long on here free (is_of_kind King) refl refl i
      ∷ []
  kinds_with c Bishop new small changed = λ i.
      word_still men square at (record { colour = c; kind = Bishop }) long on here free (is_of_kind Pawn) refl refl i
      ∷ word_still men square at (record { colour = c; kind = Bishop }) long on here free (is_of_kind Knight) refl refl i
      ∷ word_with men square at (record { colour = c; kind = Bishop }) long on here free (is_of_kind Bishop) new refl small changed i
      ∷ word_still men square at (record { colour = c; kind = Bishop }) long on here free (is_of_kind Rook) refl refl i
      ∷ word_still men square at (record { colour = c; kind = Bishop }) long on here free (is_of_kind Queen) refl refl i
      ∷ word_still men square at (record { colour = c; kind = Bishop }) long on here free (is_of_kind King) refl refl i
      ∷ []
  kinds_with c Rook new small changed = λ i.
      word_still men square at (record { colour = c; kind = Rook }) long on here free (is_of_kind Pawn) refl refl i
      ∷ word_still men square at (record { colour = c; kind = Rook }) long on here free (is_of_kind Knight) refl refl i
      ∷ word_still men square at (record { colour = c; kind = Rook }) long on here free (is_of_kind Bishop) refl refl i
      ∷ word_with men square at (record { colour = c; kind = Rook }) long on here free (is_of_kind Rook) new refl small changed i
      ∷ word_still men square at (record { colour = c; kind = Rook }) long on here free (is_of_kind Queen) refl refl i
      ∷ word_still men square at (record { colour = c; kind = Rook }) long on here free (is_of_kind King) refl refl i
      ∷ []
  kinds_with c Queen new small changed = λ i.
      word_still men square at (record { colour = c; kind = Queen }) long on here free (is_of_kind Pawn) refl refl i
      ∷ word_still men square at (record { colour = c; kind = Queen }) long on here free (is_of_kind Knight) refl refl i
      ∷ word_still men square at (record { colour = c; kind = Queen }) long on here free (is_of_kind Bishop) refl refl i
      ∷ word_still men square at (record { colour = c; kind = Queen }) long on here free (is_of_kind Rook) refl refl i
      ∷ word_with men square at (record { colour = c; kind = Queen }) long on here free (is_of_kind Queen) new refl small changed i
      ∷ word_still men square at (record { colour = c; kind = Queen }) long on here free (is_of_kind King) refl refl i
      ∷ []
  kinds_with c King new small changed = λ i.
      word_still men square at (record { colour = c; kind = King }) long on here free (is_of_kind Pawn) refl refl i
      ∷ word_still men square at (record { colour = c; kind = King }) long on here free (is_of_kind Knight) refl refl i
      ∷ word_still men square at (record { colour = c; kind = King }) long on here free (is_of_kind Bishop) refl refl i
      ∷ word_still men square at (record { colour = c; kind = King }) long on here free (is_of_kind Rook) refl refl i
      ∷ word_still men square at (record { colour = c; kind = King }) long on here free (is_of_kind Queen) refl refl i
      ∷ word_with men square at (record { colour = c; kind = King }) long on here free (is_of_kind King) new refl small changed i
      ∷ []

pub AreWordsOf-with : (men : List (Option Man)) (b : Inside) (square at : ℕ) (man : Man) (colour_word kind_word : ℕ) → AreWordsOf men b → square < 64
    → at ≡ square → man_at men square ≡ None → colour_word < 2 ^ 64
    → ((s : ℕ) → s < 64 → has colour_word s ≡ (eqb s at || has (slice_index b.by_colour (tag_of colour_type man.colour)) s)) → kind_word < 2 ^ 64
    → ((s : ℕ) → s < 64 → has kind_word s ≡ (eqb s at || has (slice_index b.by_kind (tag_of kind_type man.kind)) s))
    → AreWordsOf (set men square (Some man)) (record {
      by_colour = set b.by_colour (tag_of colour_type man.colour) colour_word;
      by_kind = set b.by_kind (tag_of kind_type man.kind) kind_word;
    })
AreWordsOf-with men b square at man colour_word kind_word h on here free colour_fits of_colour kind_fits of_kind =
    let c = man.colour in
    let k = man.kind in record {
      squares = length-set men square (Some man) ∙ h.squares;
      colours =
          colours_with men square at h.squares on here free c k colour_word colour_fits
          (subst (λ (w : List ℕ). (s : ℕ) → s < 64
          → has colour_word s ≡ (eqb s at || has (slice_index w (tag_of colour_type c)) s)) (sym h.colours) of_colour)
          ∙ ap (λ (w : List ℕ). set w (tag_of colour_type c) colour_word) h.colours;
      kinds =
          kinds_with men square at h.squares on here free c k kind_word kind_fits
          (subst (λ (w : List ℕ). (s : ℕ) → s < 64
          → has kind_word s ≡ (eqb s at || has (slice_index w (tag_of kind_type k)) s)) (sym h.kinds) of_kind)
          ∙ ap (λ (w : List ℕ). set w (tag_of kind_type k) kind_word) h.kinds;
    }

-- no man at all
abbrev pub no_words : Inside
no_words = record { by_colour = 0 ∷ 0 ∷ []; by_kind = 0 ∷ 0 ∷ 0 ∷ 0 ∷ 0 ∷ 0 ∷ [] }

word_of-empty : (test : Option Man → Bool) → test None ≡ false → word_of test (replicate 64 None) ≡ 0
word_of-empty test fails =
    word_of-IsSetOf test (replicate 64 None) 0 (length-replicate {A = Option Man} 64 None) (omega arith)
    (λ s inside.
    let bit = bit_at-zero s in
    let place : man_at (replicate 64 None) s ≡ None = get_or-replicate 64 s None None inside in
    rw (bit, place) (sym fails))

pub AreWordsOf-empty : AreWordsOf (replicate 64 None) no_words
AreWordsOf-empty = record {
  squares = length-replicate {A = Option Man} 64 None;
  colours = λ i. word_of-empty (is_of White) refl i ∷ word_of-empty (is_of Black) refl i ∷ [];
  kinds = λ i.
      word_of-empty (is_of_kind Pawn) refl i ∷ word_of-empty (is_of_kind Knight) refl i ∷ word_of-empty (is_of_kind Bishop) refl i
      ∷ word_of-empty (is_of_kind Rook) refl i ∷ word_of-empty (is_of_kind Queen) refl i ∷ word_of-empty (is_of_kind King) refl i ∷ [];
}

-- the square of the one king
king_place : (colour : Colour) (place : Option Man) → is_man colour King place ≡ true → place ≡ man_of colour King
king_place colour None e = cc
king_place colour (Some man) e = by_man colour man.colour man.kind e
  where
    by_man : (asked colour : Colour) (k : Kind) → (is_colour asked colour && is_king_kind k) ≡ true → man_of colour k ≡ man_of asked King
    by_man White White King e = refl
    by_man Black Black King e = refl
    by_man White Black k e = cc
    by_man Black White k e = cc
    by_man White White Pawn e = cc
    by_man White White Knight e = cc
    by_man White White Bishop e = cc
    by_man White White Rook e = cc
    by_man White White Queen e = cc
    by_man Black Black Pawn e = cc
    by_man Black Black Knight e = cc
    by_man Black Black Bishop e = cc
    by_man Black Black Rook e = cc
    by_man Black Black Queen e = cc

pub some_king : (men : List (Option Man)) (kings : ℕ) (colour : Colour) → length men ≡ 64 → IsSetOf kings (is_man colour King) men
    → count_by (is_king_of colour) men ≡ 1 → 0 < kings
some_king men zero colour long is one =
    let none : count_by (is_king_of colour) men ≡ 0 =
    count_by_none (is_king_of colour) men None
    (λ k inside. let bit = bit_at-zero k in king_test (man_at men k) ∙ sym (is k (omega arith)) ∙ rw bit) in
    absurd (omega arith)
  where
    king_test : (place : Option Man) → is_king_of colour place ≡ is_man colour King place
    king_test None = refl
    king_test (Some man) = refl
some_king men (suc kings) colour long is one = omega arith

pub king_there : (men : List (Option Man)) (kings : ℕ) (colour : Colour) (s : ℕ) → IsSetOf kings (is_man colour King) men → s < 64
    → has kings s ≡ true → man_at men s ≡ man_of colour King
king_there men kings colour s is on there = king_place colour (man_at men s) (sym (is s on) ∙ there)

-- a board filled square by square up to n
pub same_men-filled : (v w : List (Option Man)) (n : ℕ) → 64 ≤ n → length v ≡ 64 → length w ≡ 64
    → ((k : ℕ) → k < 64 → man_at v k ≡ cond (ltb k n) (man_at w k) None) → v ≡ w
same_men-filled v w n all long wide filled =
    ext_get_or None v w (long ∙ sym wide)
    (λ k inside.
    let l : k < 64 = omega arith in
    filled k l ∙ ap (λ t. cond t (man_at w k) None) (lt-ltb k n (omega arith)))

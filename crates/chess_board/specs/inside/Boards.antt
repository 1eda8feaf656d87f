-- Not for believing: a board of men in eight words: each is the set of the squares on which the men of one colour, or of one kind, stand.
use Rattle.std.specs.Prelude.{◌≡◌, ℕ, zero, suc, ◌+◌, ◌*◌, List, [], ◌∷◌, length, Option, Some, None, Bool, false, if◌then◌else◌, slice_index}
use Rattle.square_sets.specs.Members.{has}
use Rattle.chess_board.specs.declared.men.Man.{Man}
use Rattle.chess_board.specs.declared.men.Colour.TheVariants.{White, Black}
use Rattle.chess_board.specs.declared.men.Kind.{Kind}
use Rattle.chess_board.specs.declared.men.Kind.TheVariants.{Pawn, Knight, Bishop, Rook, Queen, King}
use Rattle.chess_board.specs.declared.boards.Board.TheInside.{Inside}
use Rattle.chess_board.specs.Men.{man_of, is_kind, is_of}

-- Whether a man of this kind stands there, of either colour.
abbrev pub is_of_kind : Kind → Option Man → Bool
is_of_kind asked None = false
is_of_kind asked (Some man) = is_kind asked man.kind

-- the word whose bit of each square says whether what stands there passes the test
unfoldable pub word_of : (Option Man → Bool) → List (Option Man) → ℕ
word_of test [] = 0
word_of test (place ∷ places) = (if test place then 1 else 0) + 2 * word_of test places

-- the kind of a man, by whether it is of each kind but the last
abbrev pub kind_by : Bool → Bool → Bool → Bool → Bool → Kind
kind_by pawn knight bishop rook queen =
    if pawn then Pawn else (if knight then Knight else (if bishop then Bishop else (if rook then Rook else (if queen then Queen else King))))

-- what stands on a square, by whether a man of each colour does, and by its kind
abbrev pub place_by : Bool → Bool → Kind → Option Man
place_by white black kind = if white then man_of White kind else (if black then man_of Black kind else None)

-- the words of the men of each colour
abbrev pub colour_words : List (Option Man) → List ℕ
colour_words men = word_of (is_of White) men ∷ word_of (is_of Black) men ∷ []

-- the words of the men of each kind
abbrev pub kind_words : List (Option Man) → List ℕ
kind_words men =
    word_of (is_of_kind Pawn) men ∷ word_of (is_of_kind Knight) men ∷ word_of (is_of_kind Bishop) men ∷ word_of (is_of_kind Rook) men
    ∷ word_of (is_of_kind Queen) men ∷ word_of (is_of_kind King) men ∷ []

-- what stands on a square, by the words
abbrev pub place_at : Inside → ℕ → Option Man
place_at b square =
    place_by (has (slice_index b.by_colour 0) square) (has (slice_index b.by_colour 1) square)
    (kind_by (has (slice_index b.by_kind 0) square) (has (slice_index b.by_kind 1) square) (has (slice_index b.by_kind 2) square)
    (has (slice_index b.by_kind 3) square) (has (slice_index b.by_kind 4) square))

-- f at n numbers from i on
unfoldable pub listed : {X : Type 0} → (ℕ → X) → ℕ → ℕ → List X
listed f i zero = []
listed f i (suc n) = f i ∷ listed f (i + 1) n

-- the men on the 64 squares, by the words
unfoldable pub men_of : Inside → List (Option Man)
men_of b = listed (place_at b) 0 64

-- The words are those of these men.
pub record AreWordsOf (men : List (Option Man)) (b : Inside) : Type 0 where
  pub squares : length men ≡ 64
  pub colours : colour_words men ≡ b.by_colour
  pub kinds : kind_words men ≡ b.by_kind

-- Words that show the men they were made of: what every `Board` keeps.
abbrev pub AreTheirWords : Inside → Type 0
AreTheirWords b = AreWordsOf (men_of b) b

abbrev pub words_of : List (Option Man) → Inside
words_of men = record { by_colour = colour_words men; by_kind = kind_words men }

pub words_of-men_of : (b : Inside) → AreTheirWords b → words_of (men_of b) ≡ b
words_of-men_of b h = λ i. record { by_colour = h.colours i; by_kind = h.kinds i }

-- What words claim as a problem's key, and which operands of `bm` are a line of play (own to this project).
use Rattle.std.specs.Prelude.{ℕ, ◌==◌, nat_le, List, [], ◌∷◌, codes, drop, Bool, false, not, ◌&&◌, ◌||◌, Option, Some, None, if◌then◌else◌}
use Rattle.std.specs.Char.{is_ascii_alphabetic, is_ascii_digit, is_ascii_uppercase}
use Rattle.std.specs.List.{list_any}
use Rattle.std.specs.Str.{bytes_eq, str_eq_ignore_ascii_case}
use Rattle.chess_board.specs.Characters.{char}
use Rattle.chess_notation.specs.Words.{after_spaces, word_at}
use Rattle.problem_import.specs.Numbers.{parts_of}
use Rattle.problem_import.specs.Sources.{before_byte}

-- the first bytes of such a kind, and what stands behind these
abbrev pub front_of : (ℕ → Bool) → List ℕ → List ℕ
front_of holds [] = []
front_of holds (b ∷ bs) = if holds b then b ∷ front_of holds bs else []

abbrev pub behind_front : (ℕ → Bool) → List ℕ → List ℕ
behind_front holds [] = []
behind_front holds (b ∷ bs) = if holds b then behind_front holds bs else b ∷ bs

abbrev pub begins_with : (ℕ → Bool) → List ℕ → Bool
begins_with holds [] = false
begins_with holds (b ∷ bs) = holds b

abbrev pub is_dot : ℕ → Bool
is_dot b = b == char "."

-- ---- the numbers of moves

abbrev pub number_of : List ℕ → List ℕ
number_of word = front_of is_ascii_digit word

-- The word begins with the number of a move that isn't the first: `2.`, `2...`, `2.Qxf3#`.
unfoldable pub is_later : List ℕ → Bool
is_later word = begins_with is_dot (behind_front is_ascii_digit word)
    && (begins_with is_ascii_digit word && not (bytes_eq (number_of word) (codes "1")))

-- Operands are a line of play where one of them is numbered so.
abbrev pub is_play : List ℕ → Bool
is_play operands = list_any is_later (parts_of (char " ") operands)

-- `1.`, `1...`
abbrev pub begins_first : List ℕ → Bool
begins_first text = bytes_eq (number_of text) (codes "1") && begins_with is_dot (behind_front is_ascii_digit text)

-- what stands behind that number and its dots
abbrev pub behind_first : List ℕ → List ℕ
behind_first text = if begins_first text then behind_front is_dot (behind_front is_ascii_digit text) else text

-- `1.` of the side to move, and not `1...`
abbrev pub begins_play : List ℕ → Bool
begins_play text = begins_first text && not (begins_with is_dot (drop 1 (behind_front is_ascii_digit text)))

-- ---- moves

abbrev pub is_file : ℕ → Bool
is_file b = nat_le (char "a") b && nat_le b (char "h")

abbrev pub is_rank : ℕ → Bool
is_rank b = nat_le (char "1") b && nat_le b (char "8")

-- small letters of men
abbrev pub is_small : ℕ → Bool
is_small b = (b == char "n") || ((b == char "q") || (b == char "r"))

-- for a capture and between two squares, for what a pawn becomes, check and mate
abbrev pub is_sign : ℕ → Bool
is_sign b = (b == char "x") || ((b == char ":") || ((b == char "-") || ((b == char "=") || ((b == char "+") || (b == char "#")))))

-- the bytes of moves, as people write them
abbrev pub is_move_byte : ℕ → Bool
is_move_byte b = is_ascii_uppercase b || (is_ascii_digit b || (is_file b || (is_small b || is_sign b)))

abbrev pub has_square : List ℕ → Bool
has_square [] = false
has_square (b ∷ bs) = (is_file b && begins_with is_rank bs) || has_square bs

-- `0-0`, `O-O-O`
abbrev pub is_castling : List ℕ → Bool
is_castling (a ∷ b ∷ bs) = ((a == char "0") || (a == char "O")) && (b == char "-")
is_castling _ = false

-- A word of a move: castling, or a letter and behind it a square.
abbrev pub is_move : List ℕ → Bool
is_move word = is_castling word || (begins_with is_ascii_alphabetic word && has_square word)

-- how far the word may be a move
abbrev pub move_front : List ℕ → List ℕ
move_front word = front_of is_move_byte word

-- ---- claims

-- words for a key and a solution: in English, German, French, Spanish, Italian, Dutch, Polish and Russian
abbrev pub key_words : List (List ℕ)
key_words =
    codes "key" ∷ codes "keys" ∷ codes "solution" ∷ codes "sol" ∷ codes "losung" ∷ codes "loesung" ∷ codes "schlussel" ∷ codes "cle"
    ∷ codes "clef" ∷ codes "clave" ∷ codes "solucion" ∷ codes "chiave" ∷ codes "soluzione" ∷ codes "sleutel" ∷ codes "oplossing"
    ∷ codes "klucz" ∷ codes "rozwiazanie" ∷ codes "kliuch" ∷ codes "klyuch" ∷ codes "reshenie" ∷ []

-- in any case of letters
unfoldable pub is_key_word : List ℕ → Bool
is_key_word word = list_any (λ other. str_eq_ignore_ascii_case word other) key_words

abbrev pub is_stop : ℕ → Bool
is_stop b = (b == char ":") || (b == char ".")

abbrev pub behind_stop : List ℕ → List ℕ
behind_stop [] = []
behind_stop (b ∷ bs) = if is_stop b then bs else b ∷ bs

-- what stands behind a word for a key, with or without a stop
abbrev pub behind_key : List ℕ → List ℕ
behind_key text = after_spaces (behind_stop (after_spaces (behind_front is_ascii_alphabetic text)))

-- what stands behind the number of the first move, if it is there; `1...` is Black's move, and so nothing is told where White is to move
abbrev pub of_mover : (is_blacks : Bool) → List ℕ → List ℕ
of_mover is_blacks text = if begins_first text && not (begins_play text || is_blacks) then [] else behind_first text

-- what stands behind a word for a key, or behind the number of the first move; else nothing
abbrev pub announced : (is_blacks : Bool) → List ℕ → List ℕ
announced is_blacks text = if is_key_word (front_of is_ascii_alphabetic text) then of_mover is_blacks (behind_key text)
    else (if begins_play text then behind_first text else [])

-- the word that words tell of as a key, by its marks
unfoldable pub told_word : (is_blacks : Bool) → List ℕ → List ℕ
told_word is_blacks words = word_at (announced is_blacks (after_spaces words))

-- Words tell of a solution where that begins as a move.
abbrev pub is_solution : (is_blacks : Bool) → List ℕ → Bool
is_solution is_blacks words = is_move (move_front (told_word is_blacks words))

-- marked as a try
abbrev pub is_try : List ℕ → Bool
is_try word = list_any (λ b. b == char "?") word

-- marked as a key
abbrev pub is_praised : List ℕ → Bool
is_praised word = list_any (λ b. b == char "!") word

-- The words say that a key follows.
unfoldable pub is_announced : List ℕ → Bool
is_announced words = is_key_word (front_of is_ascii_alphabetic (after_spaces words))

-- What words claim as a problem's key: that move without its marks of praise, where they say so or it has one, unless it is a try.
unfoldable pub claimed : (is_blacks : Bool) → List ℕ → Option (List ℕ)
claimed is_blacks words =
    if is_solution is_blacks words && (not (is_try (told_word is_blacks words)) && (is_announced words || is_praised (told_word is_blacks words)))
    then Some (before_byte (char "!") (told_word is_blacks words)) else None

-- What is wrong with the ranks of a placement.
use Rattle.std.specs.Prelude.{ℕ, ◌+◌, ◌-◌, ◌*◌, ◌==◌, nat_lt, Bool, false, not, ◌&&◌, ◌||◌, if◌then◌else◌, List, [], ◌∷◌, ◌++◌, codes}
use Rattle.std.specs.Prelude.{Option, None, Some, decimal, flat_map, length, is_some}
use Rattle.chess_board.specs.Characters.{char}
use Rattle.chess_board.specs.Fields.{square_text}
use Rattle.fen_explanations.specs.Placements.{is_run, letter_at, man_named, rank_in, squares_in, standing}
use Rattle.fen_explanations.specs.Sentences.{each_below, plural, rank_name, sentence, together, told_if}

-- there are not eight ranks
abbrev pub count_told : ℕ → List ℕ
count_told ranks = told_if (not (ranks == 8)) (codes "there are " ∷ decimal ranks ∷ codes " ranks, not 8" ∷ [])

-- a rank as it is called: by its number where there are eight, else by what stands there
abbrev pub numbered : ℕ → List ℕ
numbered rank = codes "rank " ++ rank_name rank

abbrev pub quoted : List ℕ → List ℕ
quoted text = codes "\"" ++ text ++ codes "\""

-- a rank has not eight squares
abbrev pub width_told : List ℕ → ℕ → List ℕ
width_told called squares =
    if squares == 8 then [] else together (called ∷ []) ++ sentence (codes " has " ∷ decimal squares ∷ codes " square" ∷ plural squares ∷ [])

abbrev pub begins_with_run : List ℕ → Bool
begins_with_run [] = false
begins_with_run (b ∷ bs) = is_run b

-- Two digits stand side by side somewhere.
unfoldable pub has_runs_together : List ℕ → Bool
has_runs_together [] = false
has_runs_together (b ∷ bs) = (is_run b && begins_with_run bs) || has_runs_together bs

abbrev pub runs_told : List ℕ → List ℕ → List ℕ
runs_told called text = told_if (has_runs_together text) (codes "two digits stand side by side on " ∷ called ∷ [])

-- what a letter of German or Polish diagrams stands for
unfoldable pub hint : ℕ → List ℕ
hint b =
    if b == char "S" then codes ": knights are N" else (if b == char "L" then codes ": bishops are B"
    else (if b == char "T" then codes ": rooks are R" else (if b == char "D" then codes ": queens are Q"
    else (if b == char "s" then codes ": knights are n" else (if b == char "l" then codes ": bishops are b"
    else (if b == char "t" then codes ": rooks are r" else (if b == char "d" then codes ": queens are q" else [])))))))

-- a byte as it is shown: itself where it is visible ASCII
unfoldable pub shown_byte : ℕ → ℕ
shown_byte b = if nat_lt (char " ") b && nat_lt b 127 then b else char "?"

-- No man has the letter.
abbrev pub is_no_man : ℕ → Bool
is_no_man b = not (is_some (man_named b))

-- where it stands: `at` a square, or `on` a rank
abbrev pub no_man_told : List ℕ → List ℕ → ℕ → List ℕ
no_man_told is_at place b = together (codes "\"" ∷ (shown_byte b ∷ []) ∷ codes "\" " ∷ [])
    ++ together (is_at ∷ codes " " ∷ place ∷ []) ++ sentence (codes " is no man" ∷ hint b ∷ [])

-- What stands there is no man's letter.
unfoldable pub letter_told : List ℕ → List ℕ → Option ℕ → List ℕ
letter_told is_at place None = []
letter_told is_at place (Some b) = if is_no_man b then no_man_told is_at place b else []

-- the same of each square of a rank
abbrev pub letters_told : ℕ → List ℕ → List ℕ
letters_told rank text = each_below 8 (λ file. letter_told (codes "at") (square_text (8 * rank + file)) (letter_at text file))

-- the same of each byte of a rank whose squares aren't known
abbrev pub strangers_told : List ℕ → List ℕ → List ℕ
strangers_told called text = flat_map (λ b. letter_told (codes "on") called (standing b)) text

-- of all letters of a rank: by their squares where it has eight
unfoldable pub men_of_rank_told : ℕ → List ℕ → List ℕ
men_of_rank_told rank text = if squares_in text == 8 then letters_told rank text else strangers_told (numbered rank) text

-- all that is wrong with a rank of eight
unfoldable pub rank_told : ℕ → List ℕ → List ℕ
rank_told rank text = width_told (numbered rank) (squares_in text) ++ runs_told (numbered rank) text ++ men_of_rank_told rank text

-- all that is wrong with a rank of more or fewer, which has no number
unfoldable pub quoted_rank_told : List ℕ → List ℕ
quoted_rank_told text = width_told (quoted text) (squares_in text) ++ runs_told (quoted text) text ++ strangers_told (quoted text) text

-- what is wrong with each rank, from the eighth down
unfoldable pub each_rank_told : List (List ℕ) → List ℕ
each_rank_told ranks =
    if length ranks == 8 then each_below 8 (λ n. rank_told (7 - n) (rank_in ranks (7 - n))) else flat_map quoted_rank_told ranks

-- the number of ranks, and each of them
unfoldable pub ranks_told : List (List ℕ) → List ℕ
ranks_told ranks = count_told (length ranks) ++ each_rank_told ranks

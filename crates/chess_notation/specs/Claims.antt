-- What a line claims of its keys in `bm` (PGN Specification, section 16.2.5). Each operand claims a move, read as those of `am` are, or
-- `#N`, a mate in N moves. That `#N` may stand there is own to this project.
use Rattle.std.specs.Prelude.{◌≡◌, ◌≢◌, ◌⊎◌, ℕ, ◌==◌, nat_le, nat_lt, List, [], ◌∷◌, length, map, replicate, drop}
use Rattle.std.specs.Prelude.{codes, Contains, Bool, false, not, ◌&&◌, ◌||◌, Option, Some, None, if◌then◌else◌}
use Rattle.std.specs.List.{list_all}
use Rattle.std.specs.Option.{option_map_or}
use Rattle.chess_board.specs.Characters.{char}
use Rattle.chess_board.specs.Fields.{digits_value}
use Rattle.chess_board.specs.Positions.{Setup}
use Rattle.chess_problems.specs.Problems.{bound_of, max_bound}
use Rattle.chess_notation.specs.declared.claims.ClaimFault.{ClaimFault}
use Rattle.chess_notation.specs.declared.claims.ClaimFault.TheVariants.{BadBound, BoundTooLarge, NoSuchMove}
use Rattle.chess_notation.specs.Words.{word_at, behind, words_in}
use Rattle.chess_notation.specs.Segments.{inside_after}
use Rattle.chess_notation.specs.Operations.{Operand, Operation, operand_text}
use Rattle.chess_notation.specs.Operations.Operand.{Word, Text}
use Rattle.chess_notation.specs.Opcodes.{same_text}
use Rattle.chess_notation.specs.AvoidMoves.{is_name}
use Rattle.chess_notation.specs.RecordFields.{is_number, cut_of}

abbrev pub claim_fault_name : ClaimFault → List ℕ
claim_fault_name BadBound = codes "BadBound"
claim_fault_name BoundTooLarge = codes "BoundTooLarge"
claim_fault_name NoSuchMove = codes "NoSuchMove"

abbrev pub is_keys_segment : List ℕ → Bool
is_keys_segment segment = same_text (codes "bm") (word_at segment)

-- what stands behind `bm`, or nothing
unfoldable pub keys_text_in : List (List ℕ) → List ℕ
keys_text_in [] = []
keys_text_in (segment ∷ segments) = if is_keys_segment segment then behind segment else keys_text_in segments

-- a byte of a string, its quotation marks too, becomes a quotation mark
abbrev pub shut_byte : Bool → ℕ → ℕ
shut_byte inside b = if inside || (b == char "\"") then char "\"" else b

-- So a string becomes one word, which names no move and no number.
abbrev pub shut_from : Bool → List ℕ → List ℕ
shut_from inside [] = []
shut_from inside (b ∷ bs) = shut_byte inside b ∷ shut_from (inside_after inside b) bs

unfoldable pub claims_text : List ℕ → List ℕ
claims_text line = shut_from false (keys_text_in (cut_of line).ended)

-- the operands of `bm`, a string as so many quotation marks
unfoldable pub claim_words : List ℕ → List (List ℕ)
claim_words line = words_in (claims_text line)

-- an operand as a word: a string as one of so many quotation marks
abbrev pub operand_word : Operand → List ℕ
operand_word (Word word) = word
operand_word (Text text) = operand_text (Text (replicate (length text) (char "\"")))

abbrev pub bm_of : List Operand → Operation
bm_of operands = record { opcode = codes "bm"; operands = operands }

-- These words are the operands of `bm`; there is none where there is no `bm`.
abbrev pub AreOperandsOfKeys : List Operation → List (List ℕ) → Type 0
AreOperandsOfKeys operations words = (((operation : Operation) → Contains operations operation → operation.opcode ≢ codes "bm") × (words ≡ []))
    ⊎ ((operands : List Operand) × Contains operations (bm_of operands) × (words ≡ map operand_word operands))

-- `#` and digits
abbrev pub is_length : List ℕ → Bool
is_length [] = false
is_length (b ∷ bs) = (b == char "#") && is_number bs

abbrev pub length_value : List ℕ → ℕ
length_value word = digits_value (drop 1 word)

-- the first length that is claimed, where it is a bound, or else the default
abbrev pub length_claimed : List (List ℕ) → ℕ → ℕ
length_claimed [] default = default
length_claimed (word ∷ words) default = if is_length word then option_map_or (λ bound. bound)
    (bound_of (length_value word)) default else length_claimed words default

abbrev pub is_some_if_length : List ℕ → Bool
is_some_if_length word = not (is_length word) || nat_lt 0 (length_value word)

abbrev pub is_small_if_length : List ℕ → Bool
is_small_if_length word = not (is_length word) || nat_le (length_value word) max_bound

-- A length, or the name of a legal move.
abbrev pub is_claim : Setup → List ℕ → Bool
is_claim p word = is_length word || is_name p word

-- the first fault of the claims, over all of them: a length of 0, one above the greatest bound, what is neither a length nor a legal move
abbrev pub claims_fault : Setup → List (List ℕ) → Option ClaimFault
claims_fault p words =
    if not (list_all is_some_if_length words) then Some BadBound
    else (if not (list_all is_small_if_length words) then Some BoundTooLarge
    else (if not (list_all (is_claim p) words) then Some NoSuchMove else None))

-- What is told of a FEN or a record.
use Rattle.std.specs.Prelude.{◌≡◌, ℕ, nat_lt, Bool, true, false, ◌&&◌, if◌then◌else◌, List, [], ◌∷◌, ◌++◌, codes, Option, None, Some}
use Rattle.std.specs.Borrow.{Bor}
use Rattle.chess_board.specs.Characters.{char}
use Rattle.chess_board.specs.Faults.{fault_name}
use Rattle.chess_board.specs.Fens.{FenValue, Fields, IsFault, Spells}
use Rattle.chess_board.specs.Fields.{times}
use Rattle.chess_board.specs.Men.{other_side}
use Rattle.chess_board.specs.Soundness.{IsSound}
use Rattle.chess_board.specs.declared.faults.FenFault.{FenFault}
use Rattle.chess_board.specs.declared.men.Colour.{Colour}
use Rattle.chess_board.specs.declared.men.Colour.TheVariants.{White, Black}
use Rattle.chess_notation.specs.EpdFaults.{IsFaultOf, epd_fault_name}
use Rattle.chess_notation.specs.Operations.{is_digit}
use Rattle.chess_notation.specs.RecordFields.{behind_fields, line_fields}
use Rattle.chess_notation.specs.Records.{Reads, RecordValue}
use Rattle.chess_notation.specs.Words.{behind, is_blank, is_empty_text, word_at}
use Rattle.chess_notation.specs.declared.epd_faults.EpdFault.{EpdFault}
use Rattle.chess_notation.specs.declared.epd_faults.EpdFault.TheVariants.{Fen}
use Rattle.fault_explanations.specs.Explained.{AreOfKnown, code_sentence}
use Rattle.fault_explanations.specs.declared.explanations.Explanation.{Explanation}
use Rattle.fen_explanations.specs.Blanks.{blanks_told, spaced}
use Rattle.fen_explanations.specs.Checks.{checks_told}
use Rattle.fen_explanations.specs.Fields.{castling_told, counter_told, no_target_told, side_field_told, side_said, target_told}
use Rattle.fen_explanations.specs.Men.{men_told}
use Rattle.fen_explanations.specs.Placements.{men_in, ranks_of}
use Rattle.fen_explanations.specs.Ranks.{ranks_told}
use Rattle.fen_explanations.specs.Sentences.{sentence, told_if}
use Rattle.fen_explanations.specs.Warnings.{side_warned}

-- Who attacks a king is told where nothing is wrong with the ranks.
unfoldable pub checks_if : List (List ℕ) → Bool → Colour → List ℕ
checks_if ranks is_clean side = if is_clean then checks_told (men_in ranks) (other_side side) else []

-- what depends on the side to move
unfoldable pub moving_told : List (List ℕ) → Bool → Option Colour → List ℕ → List ℕ
moving_told ranks is_clean None target = no_target_told target
moving_told ranks is_clean (Some side) target = target_told ranks is_clean side target ++ checks_if ranks is_clean side

-- what is wrong beside the ranks
unfoldable pub rest_told : List (List ℕ) → Bool → Fields → List ℕ
rest_told ranks is_clean f =
    men_told f.placement ranks ++ side_field_told f.side ++ castling_told ranks is_clean f.castling
    ++ moving_told ranks is_clean (side_said f.side) f.target

-- what is wrong with four fields
unfoldable pub fields_told : Fields → List ℕ
fields_told f = ranks_told (ranks_of f.placement) ++ rest_told (ranks_of f.placement) (is_empty_text (ranks_told (ranks_of f.placement))) f

-- what is wrong with two counters
unfoldable pub counters_told : List ℕ → List ℕ
counters_told text = counter_told (word_at text) (codes "halfmove clock") ++ counter_told (word_at (behind text)) (codes "fullmove number")

-- More than five spaces stand in a FEN.
abbrev pub spaces_told : List ℕ → List ℕ
spaces_told text = told_if (nat_lt 5 (times (char " ") text)) (codes "a space is too many: one stands between each two fields" ∷ [])

-- what is wrong with a FEN; its fields are those that it has with a space for each blank
unfoldable pub fen_told : List ℕ → List ℕ
fen_told text = fields_told (line_fields (spaced text)) ++ counters_told (behind_fields (spaced text)) ++ spaces_told text ++ blanks_told text

-- A sentence stands in for what isn't told.
unfoldable pub unless_told : List ℕ → List ℕ → List ℕ
unless_told [] sentence = sentence
unless_told (b ∷ bs) sentence = b ∷ bs

-- what is wrong with the fields of a record, and with its blanks
unfoldable pub line_told : List ℕ → List ℕ
line_told line = fields_told (line_fields (spaced line)) ++ blanks_told line

-- what is wrong with a record: with its fields, or what the code of its fault says
unfoldable pub record_told : List ℕ → EpdFault → (List ℕ → List ℕ) → List ℕ
record_told line (Fen fault) says = unless_told (line_told line) (says (fault_name fault))
record_told line fault says = line_told line ++ says (epd_fault_name fault)

-- A record needs no counters, and a FEN does.
abbrev pub uncounted_told : List ℕ
uncounted_told = sentence (codes "it has no counters, and look, moves and perft refuse it: for these add \" 0 1\"" ∷ [])
    ++ sentence (codes "as a record nothing is wrong with it" ∷ [])

abbrev pub right_told : Bool → List ℕ
right_told is_uncounted = if is_uncounted then uncounted_told else sentence (codes "nothing is wrong with it" ∷ [])

-- what is told where nothing is wrong: what can't come about by play, and where counters are missing
unfoldable pub sound_told : List ℕ → List ℕ → List ℕ
sound_told placement behind = side_warned placement White ++ side_warned placement Black ++ right_told (is_blank behind)

abbrev pub text_told : List ℕ → List ℕ
text_told text = sound_told (word_at text) (behind_fields text)

abbrev pub begins_with_digit : List ℕ → Bool
begins_with_digit [] = false
begins_with_digit (b ∷ bs) = is_digit b

-- A FEN has six words at most, and its fifth begins with a digit, as no opcode does.
unfoldable pub is_fen : List ℕ → Bool
is_fen text = begins_with_digit (word_at (behind_fields text)) && is_blank (behind (behind (behind_fields text)))

-- Something is wrong with a FEN exactly where it spells no sound position. Which explanations of codes there are is the table's to say.
abbrev pub TellsFen : List ℕ → Bool → List ℕ → Type 0
TellsFen text false shown = ((f : FenValue) × Spells text f × IsSound f.position) × (shown ≡ text_told text)
TellsFen text true shown = ((f : FenValue) → Spells text f → ¬ (IsSound f.position))
    × ((fault : FenFault) × (groups : List (Bor (List Explanation))) × AreOfKnown groups × IsFault text fault
    × (shown ≡ unless_told (fen_told text) (code_sentence groups (fault_name fault))))

-- the bound of a record that says none
abbrev pub default_bound : ℕ
default_bound = 3

-- Something is wrong with a record exactly where the line says none.
abbrev pub TellsRecord : List ℕ → Bool → List ℕ → Type 0
TellsRecord line false shown = ((r : RecordValue) × Reads line default_bound r) × (shown ≡ text_told line)
TellsRecord line true shown = (fault : EpdFault) × (groups : List (Bor (List Explanation))) × AreOfKnown groups
    × IsFaultOf line fault × (shown ≡ record_told line fault (code_sentence groups))

-- What is told of a text, and whether something is wrong with it.
abbrev pub TellsBy : Bool → List ℕ → Bool → List ℕ → Type 0
TellsBy true text faulty shown = TellsFen text faulty shown
TellsBy false text faulty shown = TellsRecord text faulty shown

unfoldable pub Tells : List ℕ → Bool → List ℕ → Type 0
Tells text faulty shown = TellsBy (is_fen (spaced text)) text faulty shown

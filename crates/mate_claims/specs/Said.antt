-- What comes of a record's claims (own to this project): the moves that `bm` names, and where it names none the first of the line of play.
use Rattle.std.specs.Prelude.{ℕ, ◌==◌, List, [], ◌∷◌, ◌++◌, Option, Some, None, codes, if◌then◌else◌}
use Rattle.chess_board.specs.Positions.{Setup}
use Rattle.chess_board.specs.Moves.{Move}
use Rattle.chess_problems.specs.declared.outcomes.Outcome.{Outcome}
use Rattle.chess_notation.specs.declared.claims.ClaimFault.{ClaimFault}
use Rattle.chess_notation.specs.declared.claims.ClaimFault.TheVariants.{NoSuchMove}
use Rattle.chess_notation.specs.SanText.{san_text}
use Rattle.chess_notation.specs.MoveReading.{move_named}
use Rattle.chess_notation.specs.AvoidMoves.{named}
use Rattle.chess_notation.specs.Claims.{claim_words, claims_text, length_claimed, claims_fault, claim_fault_name}
use Rattle.chess_notation.specs.Records.{RecordValue}
use Rattle.mate_claims.specs.declared.bound_sources.BoundSource.{BoundSource}
use Rattle.mate_claims.specs.declared.claim_verdicts.ClaimVerdict.{ClaimVerdict}
use Rattle.mate_claims.specs.ClaimVerdicts.{claim_verdict, verdict_name}
use Rattle.mate_claims.specs.PlayWords.{play_word}
use Rattle.mate_claims.specs.Rows.{listed}

pub record Said : Type 0 where
  pub word : List ℕ  -- the verdict, or the name of what is amiss
  pub claims : List ℕ  -- as the row has them, each word behind a space
  pub verdict : Option ClaimVerdict

-- of these moves, whose text is this
abbrev pub judged : BoundSource → ℕ → Outcome → List Move → List ℕ → Said
judged source asked outcome moves text = record {
  word = verdict_name (claim_verdict source asked moves outcome);
  claims = text;
  verdict = Some (claim_verdict source asked moves outcome);
}

-- of claims of which nothing can be said, for a reason of this name
abbrev pub unread : List ℕ → List ℕ → Said
unread name text = record { word = name; claims = text; verdict = None }

-- A claim of the line of play is marked as such.
abbrev pub marked : List ℕ → List ℕ
marked text = codes " pv " ++ text

-- by the first word of the line of play, which names this legal move, or none
abbrev pub said_of_play : BoundSource → RecordValue → Outcome → List ℕ → Option Move → Said
said_of_play source r outcome word (Some m) = judged source r.bound outcome (m ∷ []) (marked (san_text r.position m))
said_of_play source r outcome word None = unread (claim_fault_name NoSuchMove) (marked word)

-- the first word of the line of play, where `bm` claims no move
abbrev pub play_claimed : List Move → List ℕ → List ℕ
play_claimed [] line = play_word line
play_claimed (m ∷ ms) line = []

-- by the moves that `bm` claims, and that word, if there is one
abbrev pub said_of_moves : BoundSource → RecordValue → Outcome → List Move → List ℕ → Said
said_of_moves source r outcome moves [] = judged source r.bound outcome moves (listed r.position moves)
said_of_moves source r outcome moves (b ∷ bs) = said_of_play source r outcome (b ∷ bs) (move_named r.position (b ∷ bs))

-- Why nothing can be said of `bm`: its first fault, or that the first length that is claimed isn't the one asked for.
abbrev pub refusal_of : Option ClaimFault → (asked claimed : ℕ) → Option (List ℕ)
refusal_of (Some fault) asked claimed = Some (claim_fault_name fault)
refusal_of None asked claimed = if claimed == asked then None else Some (codes "TwoLengths")

abbrev pub claims_refusal : Setup → ℕ → List (List ℕ) → Option (List ℕ)
claims_refusal p asked words = refusal_of (claims_fault p words) asked (length_claimed words asked)

abbrev pub said_unless : Option (List ℕ) → List ℕ → Said → Said
said_unless (Some name) text said = unread name text
said_unless None text said = said

-- of what this text of `bm` and the line claim
abbrev pub said_by : BoundSource → (line text : List ℕ) (words : List (List ℕ)) → RecordValue → Outcome → Said
said_by source line text words r outcome = said_unless (claims_refusal r.position r.bound words) text
    (said_of_moves source r outcome (named r.position words) (play_claimed (named r.position words) line))

unfoldable pub said_of : BoundSource → List ℕ → RecordValue → Outcome → Said
said_of source line r outcome = said_by source line (claims_text line) (claim_words line) r outcome

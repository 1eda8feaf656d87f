-- What `look`, `moves` and `perft` show of lines of positions.
use Rattle.std.specs.Prelude.{ℕ, Bool, List, Option}
use Rattle.byte_streams.specs.declared.stops.Stop.{Stop}
use Rattle.text_lines.specs.Replies.{IsReply, IsReplyToFirst}
use Rattle.position_lines.specs.PositionReplies.{IsPositionReply}
use Rattle.command_words.specs.declared.request.LineView.{LineView}
use Rattle.command_words.specs.declared.request.LineView.TheVariants as asks
use Rattle.plain_commands.specs.declared.fen_commands.FenCommand.{FenCommand}
use Rattle.plain_commands.specs.declared.fen_commands.FenCommand.TheVariants.{Look, Board, MovesLine, Perft}
use Rattle.plain_commands.specs.FenCommands.{shown_text}
use Rattle.file_answers.specs.FileAnswers.{Answers, StopsAnswering}

-- the command over a FEN whose text answers a line
abbrev pub command_of : LineView → FenCommand
command_of asks.Look = Look
command_of (asks.Board side) = Board side
command_of asks.Moves = MovesLine
command_of (asks.Perft depth) = Perft depth

-- What lines of positions are answered, whatever their file is called. No lines of them are passed over.
abbrev pub position_replies : FenCommand → ℕ → List ℕ → List ℕ → List ℕ → ℕ → Type 0
position_replies command from name input text refusals = IsReply (IsPositionReply (shown_text command)) input text refusals

abbrev pub first_position_replies : FenCommand → ℕ → List ℕ → List ℕ → List ℕ → Type 0
first_position_replies command from name input text = IsReplyToFirst (IsPositionReply (shown_text command)) input text

-- The replies to what the names hold, and whether a line of it is refused.
abbrev pub ShowsLines : (List ℕ → Option (List ℕ)) → FenCommand → List (List ℕ) → Bool → List ℕ → Type 0
ShowsLines holds command names refused gained = Answers holds (position_replies command) 1 names refused gained

-- What the output gained where that stops.
abbrev pub StopsLines : (List ℕ → Option (List ℕ)) → (List ℕ → Type 0) → FenCommand → List (List ℕ) → Stop → (old new : Option (List ℕ)) → Type 0
StopsLines holds refuses command names stop old new =
    StopsAnswering holds refuses (position_replies command) (first_position_replies command) 1 names stop old new

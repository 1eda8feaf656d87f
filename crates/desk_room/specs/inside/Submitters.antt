-- Not for believing: what a submitter has done, and what its report says. No contract of a public call rests on it.
use Rattle.std.specs.Prelude.{◌≡◌, ℕ, ◌+◌, List, [], ◌∷◌, ◌++◌, length, map, IfSome}
use Rattle.chess_notation.specs.Records.{RecordValue}
use Rattle.text_lines.specs.Lines.{lines_of}
use Rattle.mate_answers.specs.InputReplies.{answer_line, IsReply, IsReplyFrom}
use Rattle.text_lines.specs.declared.replies.Output.{Output}
use Rattle.room_ends.specs.Letters.{records}
use Rattle.desk_room.specs.Deliveries.{asked}
use Rattle.room_ends.specs.Windows.{letters_sent, collected, default_of, SameWindow}
use Rattle.room_ends.specs.declared.windows.Window.{Window}
use Rattle.desk_room.specs.declared.serving.submitters.Submitter.{Submitter}
use Rattle.desk_room.specs.declared.serving.window_thread.Report.{Report}

-- the answers to these records, each with what stands behind it
abbrev pub woven : List RecordValue → List (List ℕ) → List ℕ
woven [] pending = []
woven (r ∷ rs) [] = []
woven (r ∷ rs) (text ∷ texts) = (answer_line r ++ text) ++ woven rs texts

-- What a submitter has that handled these lines, the first of an input: the records sent, those that were answered, what is written, and
-- what stands behind the answers that are awaited. If those that were answered are the first of those sent, then what is written, with
-- the answers to the others in their places, is the reply to the lines.
pub record Progress (default : ℕ) (lines : List (List ℕ)) (sent got : List RecordValue) (text : List ℕ)
    (pending : List (List ℕ)) (refused : ℕ) : Type 0 where
  pub awaited : length got + length pending ≡ length sent
  pub replied : (rest : List RecordValue) → sent ≡ got ++ rest → IsReplyFrom default 1 lines (text ++ woven rest pending) refused

-- the same of a submitter
abbrev pub HasHandled : List (List ℕ) → Submitter → Type 0
HasHandled lines c = Progress (default_of c.window) lines (records (letters_sent c.window))
    (map asked (collected c.window)) c.text.items (map (λ text. text.items) c.pending_replies.items) c.refused

-- The submitter took answers, and nothing else.
pub record Collects (c d : Submitter) : Type 0 where
  pub window : SameWindow c.window d.window
  pub refused : d.refused ≡ c.refused
  pub handled : (lines : List (List ℕ)) → HasHandled lines c → HasHandled lines d

-- It handled the lines of an input up to where the rest begins, of which the next is the one of this number.
pub record IsAt (input rest : List ℕ) (number : ℕ) (c : Submitter) : Type 0 where
  pub lines : List (List ℕ)
  pub next : length lines + 1 ≡ number
  pub split : lines_of input ≡ lines ++ lines_of rest
  pub handled : HasHandled lines c

-- As much was collected as was sent; and if it answers what was sent, this is the reply to the input.
pub record IsReplyIf (w : Window) (input : List ℕ) (o : Output) : Type 0 where
  pub as_many : length (collected w) ≡ length (records (letters_sent w))
  pub reply : records (letters_sent w) ≡ map asked (collected w) → IsReply (default_of w) input o.text.items o.refused

-- The report is of this window.
pub record Reports (w : Window) (input : List ℕ) (r : Report) : Type 0 where
  pub window : SameWindow w r.window
  pub reply : IfSome r.reply (λ o. IsReplyIf r.window input o)

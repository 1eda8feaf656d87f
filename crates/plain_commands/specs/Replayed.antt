-- What `replay` shows.
use Rattle.std.specs.Prelude.{◌≡◌, ◌⊎◌, ℕ, Bool, List, [], Option, true, false, flat_map, length, map}
use Rattle.std.specs.Io.KnownBytes.{Keeps}
use Rattle.mate_desk.specs.History.{past}
use Rattle.mate_desk.specs.Headline.{AfterEachPrefix, DeliversInOrder, GivesNoticeOfWithdrawn, DeliversAllOnceDrained}
use Rattle.mate_desk.specs.Headline.{AcceptsNoneAfterClose, AnswersAreTrue}
use Rattle.mate_desk.specs.Refusals.{AreServed, IsRoom}
use Rattle.mate_desk.specs.Replies.{AreReplies}
use Rattle.mate_desk.specs.ReplyTexts.{reply_text}
use Rattle.mate_desk.specs.declared.steps_and_replies.Reply.{Reply}
use Rattle.mate_desk.specs.declared.steps_and_replies.Step.{Step}
use Rattle.byte_streams.specs.Inputs.{MayBe}
use Rattle.byte_streams.specs.declared.stops.Stop.{Stop}
use Rattle.byte_streams.specs.declared.stops.Stop.TheVariants.{NoMemory, Unreadable, Unwritable, NoReader}
use Rattle.desk_scripts.specs.Scripts.{IsFirstFault, IsScript, ScriptValue, step_value}
use Rattle.chess_views.specs.Lines.{line}
use Rattle.file_answers.specs.Writing.{GainsPart}

-- replies, each on a line of its own
unfoldable pub reply_lines : List Reply → List ℕ
reply_lines replies = flat_map (λ reply. line (reply_text reply)) replies

-- A script is run at a new desk: each step has a reply, which is fixed by what happened before it. After each of them what was delivered
-- is, in order and each once, for the first of what was accepted, with notices for what was withdrawn, and for all of it once the desk
-- is drained; nothing is accepted after close; and each answer is true.
pub record Runs (v : ScriptValue) (text : List ℕ) : Type 0 where
  pub steps : List Step
  pub replies : List Reply
  pub said : map step_value steps ≡ v.steps
  pub served : AreServed v.submitters
  pub room : IsRoom v.room
  pub each : length replies ≡ length steps
  pub fixed : AreReplies v.submitters v.room v.bound (past steps replies)
  pub in_order_and_each_once : AfterEachPrefix (DeliversInOrder v.bound) steps replies
  pub notices_for_the_withdrawn : AfterEachPrefix GivesNoticeOfWithdrawn steps replies
  pub all_once_drained : AfterEachPrefix (DeliversAllOnceDrained v.submitters) steps replies
  pub nothing_after_close : AcceptsNoneAfterClose (past steps replies)
  pub true_answers : AnswersAreTrue replies
  pub shown : text ≡ reply_lines replies

-- No desk can be opened with so many submitters, or so much room.
abbrev pub HasNoDesk : ScriptValue → Type 0
HasNoDesk v = ¬ (AreServed v.submitters × IsRoom v.room)

-- A script is run, and the replies are shown. One that is faulty, or opens no desk, is refused, and nothing is shown.
abbrev pub Replays : List ℕ → Bool → List ℕ → Type 0
Replays script false text = (v : ScriptValue) × IsScript script v × Runs v text
Replays script true text = (((number : ℕ) × IsFirstFault script number) ⊎ ((v : ScriptValue) × IsScript script v × HasNoDesk v)) × (text ≡ [])

-- the same of the script that a name holds
abbrev pub ReplaysFile : Option (List ℕ) → Bool → List ℕ → Type 0
ReplaysFile known refused text = (script : List ℕ) × MayBe known script × Replays script refused text

-- What the output gained where `replay` stops: nothing where memory gives out or where the script can't be read, and a first part of
-- the replies where a write breaks off.
abbrev pub StopsReplaying : Option (List ℕ) → Type 0 → Stop → (old new : Option (List ℕ)) → Type 0
StopsReplaying known refuses NoMemory old new = Keeps old new
StopsReplaying known refuses Unreadable old new = refuses × Keeps old new
StopsReplaying known refuses Unwritable old new = GainsPart (ReplaysFile known false) old new
StopsReplaying known refuses NoReader old new = GainsPart (ReplaysFile known false) old new

-- What a desk promises those who submit, whatever steps were made.
use Rattle.std.specs.Prelude.{◌≡◌, ℕ, Bool, true, false, List, [], ◌∷◌, length, take, slice_get, Some, Contains}
use Rattle.chess_board.specs.Moves.{Move}
use Rattle.chess_problems.specs.declared.outcomes.Outcome.{Outcome}
use Rattle.chess_notation.specs.Records.{RecordValue, Reads, problem_of}
use Rattle.mate_search.specs.Laws.{AreFirstMoves, IsTold}
use Rattle.mate_jobs.specs.Jobs.{AnswerValue}
use Rattle.mate_desk.specs.declared.steps_and_replies.Step.{Step}
use Rattle.mate_desk.specs.declared.steps_and_replies.Reply.{Reply}
use Rattle.mate_desk.specs.declared.steps_and_replies.Reply.TheVariants.{Answer}
use Rattle.mate_desk.specs.History.{History, past, Claim, Parcel, Answered, Noticed, accepted, delivered, withdrawn, closed, is_notice, is_ticket}
use Rattle.mate_desk.specs.Replies.{drained}

-- The answer to this record, or the notice of its ticket.
abbrev pub IsFor : ℕ → Claim → Parcel → Type 0
IsFor default claim (Answered answer) = Reads claim.line default answer.asked
IsFor default claim (Noticed t) = t ≡ claim.ticket

-- They are for the first of these records, in order and each once.
abbrev pub AreForFirst : ℕ → List Claim → List Parcel → Type 0
AreForFirst default claims [] = Unit {0}
AreForFirst default [] (parcel ∷ parcels) = ⊥
AreForFirst default (claim ∷ claims) (parcel ∷ parcels) = IsFor default claim parcel × AreForFirst default claims parcels

-- Each submitter's deliveries are, in order and each once, the answers to a prefix of its accepted records, or notices of them.
unfoldable pub DeliversInOrder : ℕ → History → Type 0
DeliversInOrder default h = (s : ℕ) → AreForFirst default (accepted h s) (delivered h s)

-- Among them a notice stands exactly in the place of a record that its submitter withdrew.
unfoldable pub GivesNoticeOfWithdrawn : History → Type 0
GivesNoticeOfWithdrawn h = (s j : ℕ) (parcel : Parcel) → slice_get (delivered h s) j ≡ Some parcel → is_notice parcel ≡ withdrawn h s j

-- They are for all of its accepted records once the desk is drained.
unfoldable pub DeliversAllOnceDrained : ℕ → History → Type 0
DeliversAllOnceDrained n h = drained n h ≡ true → (s : ℕ) → length (delivered h s) ≡ length (accepted h s)

-- Nothing was accepted after close.
unfoldable pub AcceptsNoneAfterClose : History → Type 0
AcceptsNoneAfterClose [] = Unit {0}
AcceptsNoneAfterClose (e ∷ h) = (closed h ≡ true → is_ticket e.reply ≡ false) × AcceptsNoneAfterClose h

-- It holds after each prefix of these steps and their replies.
unfoldable pub AfterEachPrefix : (History → Type 0) → List Step → List Reply → Type 0
AfterEachPrefix P steps replies = (k : ℕ) → P (past (take k steps) (take k replies))

-- The attacker may begin with the legal moves that are not to be avoided. Told is the least number of moves, at most the bound that
-- the record asks for, within which one of these forces mate, with exactly the keys among them and the line of play; or that none
-- does within the bound.
unfoldable pub IsTrueOf : RecordValue → Outcome → Type 0
IsTrueOf asked outcome = (first : List Move) × AreFirstMoves (problem_of asked) first × IsTold first asked.position asked.bound outcome

-- What each answer among the replies tells is true of the record that was asked.
abbrev pub AnswersAreTrue : List Reply → Type 0
AnswersAreTrue replies = (answer : AnswerValue) → Contains replies (Answer answer) → IsTrueOf answer.asked answer.outcome

-- The reply is an answer that tells this outcome, and it is true of the record that was asked.
abbrev pub AnswersTruly : Reply → Outcome → Type 0
AnswersTruly (Answer answer) outcome = (outcome ≡ answer.outcome) × IsTrueOf answer.asked outcome
AnswersTruly _ outcome = ⊥

abbrev pub is_answer : Reply → Bool
is_answer (Answer answer) = true
is_answer _ = false

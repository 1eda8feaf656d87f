-- How replies print (own to this project).
use Rattle.std.specs.Prelude.{ℕ, List, ◌++◌, codes, decimal, true, false}
use Rattle.chess_notation.specs.Records.{problem_of}
use Rattle.chess_notation.specs.Answers.{answer_text}
use Rattle.chess_notation.specs.EpdFaults.{epd_fault_name}
use Rattle.mate_search.specs.inside.Truth.{truth}
use Rattle.mate_desk.specs.Refusals.{submit_refusal_name, withdraw_refusal_name}
use Rattle.mate_desk.specs.declared.steps_and_replies.Reply.{Reply}
use Rattle.mate_desk.specs.declared.steps_and_replies.Reply.TheVariants.{Ticket, Refused, BadRecord, Job, Nothing, Done}
use Rattle.mate_desk.specs.declared.steps_and_replies.Reply.TheVariants.{NoJob, Back, Answer, Notice, Empty, NoSuchSubmitter}
use Rattle.mate_desk.specs.declared.steps_and_replies.Reply.TheVariants.{Withdrawn, NotWithdrawn, Drained, Closed}

-- An answer prints as the record with what is true of its problem, a refusal as the word `refused` and its name.
unfoldable pub reply_text : Reply → List ℕ
reply_text (Ticket t) = codes "ticket " ++ decimal t
reply_text (Refused refusal) = codes "refused " ++ submit_refusal_name refusal
reply_text (BadRecord fault) = codes "refused " ++ epd_fault_name fault
reply_text (Job t) = codes "job " ++ decimal t
reply_text Nothing = codes "nothing"
reply_text (Done t) = codes "done " ++ decimal t
reply_text NoJob = codes "no job"
reply_text (Back t) = codes "back " ++ decimal t
reply_text (Answer answer) = answer_text answer.asked (truth (problem_of answer.asked))
reply_text (Notice t) = codes "notice " ++ decimal t
reply_text Empty = codes "none"
reply_text NoSuchSubmitter = codes "refused NoSuchSubmitter"
reply_text Withdrawn = codes "withdrawn"
reply_text (NotWithdrawn refusal) = codes "refused " ++ withdraw_refusal_name refusal
reply_text (Drained true) = codes "drained yes"
reply_text (Drained false) = codes "drained no"
reply_text Closed = codes "closed"

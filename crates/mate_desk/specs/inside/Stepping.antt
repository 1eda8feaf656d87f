-- Not for believing: how what is collected is handed on, and how many answers there can be. No contract of a public call rests on it.
use Rattle.std.specs.Prelude.{ℕ, Bool, true, false, count_by, Option, None, Some}
use Rattle.mate_desk.specs.Content.{Content, EntryValue, entries, is_finished}
use Rattle.mate_desk.specs.declared.steps_and_replies.Step.{Step}
use Rattle.mate_desk.specs.declared.steps_and_replies.Step.TheVariants as step
use Rattle.mate_jobs.specs.declared.deliveries.Delivery.{Delivery}
use Rattle.mate_jobs.specs.declared.deliveries.Delivery.TheVariants as delivery
use Rattle.mate_desk.specs.declared.steps_and_replies.Reply.{Reply}
use Rattle.mate_desk.specs.declared.steps_and_replies.Reply.TheVariants as reply

abbrev pub delivery_reply : Delivery → Reply
delivery_reply (delivery.Answer answer) = reply.Answer answer
delivery_reply (delivery.Notice t asked) = reply.Notice t

abbrev pub found_reply : Option Delivery → Reply
found_reply None = reply.Empty
found_reply (Some given) = delivery_reply given

abbrev pub collects : Step → Bool
collects (step.Collect s) = true
collects _ = false

abbrev pub finishes : Step → Bool
finishes (step.Finish i) = true
finishes _ = false

-- how many answers a reply is
abbrev pub answers : Reply → ℕ
answers (reply.Answer answer) = 1
answers _ = 0

abbrev pub is_done : EntryValue → Bool
is_done e = is_finished e.phase

-- how many of the pending records are finished
abbrev pub count_done : Content → ℕ
count_done c = count_by is_done (entries c)

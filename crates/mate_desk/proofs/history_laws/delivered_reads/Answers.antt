use Rattle.std.proofs.Common.{refl, ap, ◌∙◌, ◌++◌, ◌∷◌}
use Rattle.mate_desk.specs.declared.steps_and_replies.Step.TheVariants as step
use Rattle.mate_desk.specs.declared.steps_and_replies.Reply.TheVariants as reply
use Rattle.mate_desk.specs.History.{delivered, Answered, Noticed}
use Rattle.mate_desk.proofs.HistoryReadings.{AddsParcel, find_added, read_added, parcels_grow, parcels_added}
use Rattle.mate_desk.proofs.history_laws.delivered_reads.Goals as goal

pub returns : goal.returns
returns c h s k = (
  λ answer. (
    λ g. (let a = find_added (λ h. delivered h s) (AddsParcel s) refl (parcels_grow s) h k (Answered answer) g in
        (a.2, (a.0, a.3 ∙ ap (λ e. a.0 ++ e ∷ a.2) a.4), a.5)),
    λ a. read_added (λ h. delivered h s) (AddsParcel s) (parcels_grow s) (parcels_added s) h k (Answered answer)
        (a.1.0, record { step = step.Collect s; reply = reply.Answer answer }, a.0, a.1.1, refl, a.2),
  ),
  λ t. (
    λ g. (let a = find_added (λ h. delivered h s) (AddsParcel s) refl (parcels_grow s) h k (Noticed t) g in
        (a.2, (a.0, a.3 ∙ ap (λ e. a.0 ++ e ∷ a.2) a.4), a.5)),
    λ a. read_added (λ h. delivered h s) (AddsParcel s) (parcels_grow s)
        (parcels_added s) h k (Noticed t) (a.1.0, record { step = step.Collect s; reply = reply.Notice t }, a.0, a.1.1, refl, a.2),
  ),
)

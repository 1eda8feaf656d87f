use Rattle.std.proofs.Common.{refl, ap, ◌∙◌, ◌++◌, ◌∷◌}
use Rattle.mate_desk.specs.declared.steps_and_replies.Step.TheVariants as step
use Rattle.mate_desk.specs.declared.steps_and_replies.Reply.TheVariants as reply
use Rattle.mate_desk.specs.History.{accepted}
use Rattle.mate_desk.proofs.HistoryReadings.{AddsClaim, find_added, read_added, claims_grow, claims_added}
use Rattle.mate_desk.proofs.history_laws.accepted_reads.Goals as goal

pub returns : goal.returns
returns c h s k claim = (
  λ g. (let a = find_added (λ h. accepted h s) (AddsClaim s) refl (claims_grow s) h k claim g in
      (a.2, a.4.0, (a.0, a.3 ∙ ap (λ e. a.0 ++ e ∷ a.2) a.4.1), a.4.2, a.5)),
  λ a. read_added (λ h. accepted h s) (AddsClaim s) (claims_grow s) (claims_added s) h k claim
      (a.2.0, record { step = step.Submit s a.1; reply = reply.Ticket claim.ticket }, a.0, a.2.1, (a.1, refl, a.3), a.4),
)

use Rattle.std.proofs.Common.{◌≡◌, ◌++◌, ◌∷◌, [], refl, subst, List, ℕ}
use mathlib.Core.List.{IsPrefix}
use Rattle.mate_answers.specs.InputReplies.{answer_line}
use Rattle.mate_jobs.specs.declared.deliveries.Delivery.{Delivery}
use Rattle.mate_jobs.specs.declared.deliveries.Delivery.TheVariants.{Answer}
use Rattle.room_ends.specs.Windows.{deliveries_known}
use Rattle.desk_room.proofs.Collecting.{collects_one}
use Rattle.desk_room.proofs.serving.submitters.Submitter.take_answer.Goals as goal

pub returns-clause-collects : goal.returns-clause-collects
returns-clause-collects c =
    let text : c.write_answer.new.text.items ≡ c.args.self.now.text.items ++ (answer_line c.in-Answer.answer.asked ++ c.in-Some.replies.items) =
    subst (λ (l : List ℕ). c.write_answer.new.text.items ≡ c.args.self.now.text.items ++ (answer_line c.in-Answer.answer.asked ++ l))
    c.as_slice.ensures.value c.in_ok-write_answer.ensures in
    let first : IsPrefix (Answer c.in-Answer.answer ∷ []) (deliveries_known c.args.self.now.window) =
    subst (λ (d : Delivery). IsPrefix (d ∷ []) (deliveries_known c.args.self.now.window)) c.in-Answer.is c.first_known.ensures in
    collects_one c.args.self.now _ c.in-Answer.answer c.in-Some.replies c.collect_seen.ensures.letters.window c.collect_seen.ensures.letters.sent
    (c.collect_seen.ensures.collected (Answer c.in-Answer.answer) first) c.in-Some.ensures.items text refl

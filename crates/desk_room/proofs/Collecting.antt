-- A submitter that takes answers and nothing else, and what that leaves of what it handled.
use Rattle.std.proofs.Common.{◌≡◌, ℕ, List, [], ◌∷◌, ◌++◌, Vec, Global, map, refl, ap, ◌∙◌, subst}
use Rattle.std.proofs.lemmas.List.{map-append}
use Rattle.chess_notation.specs.Records.{RecordValue}
use Rattle.mate_answers.specs.InputReplies.{answer_line}
use Rattle.mate_jobs.specs.Jobs.{AnswerValue}
use Rattle.mate_jobs.specs.declared.deliveries.Delivery.TheVariants.{Answer}
use Rattle.room_ends.specs.Letters.{records}
use Rattle.desk_room.specs.Deliveries.{asked}
use Rattle.room_ends.specs.Windows.{letters_sent, collected, default_of, SameWindow}
use Rattle.desk_room.specs.inside.Submitters.{Collects, Progress}
use Rattle.desk_room.specs.declared.serving.submitters.Submitter.{Submitter}
use Rattle.room_ends.specs.declared.windows.Window.{Window}
use Rattle.desk_room.proofs.Progress.{progress_answer}
use Rattle.desk_room.proofs.RingEnds.{same_window}

pub window_then : (u v w : Window) → SameWindow u v → SameWindow v w → SameWindow u w
window_then u v w a b = (
  ((b.0.0.0 ∙ a.0.0.0, b.0.0.1 ∙ a.0.0.1, b.0.0.2 ∙ a.0.0.2, b.0.0.3 ∙ a.0.0.3), b.0.1 ∙ a.0.1),
  ((b.1.0.0 ∙ a.1.0.0, b.1.0.1 ∙ a.1.0.1, b.1.0.2 ∙ a.1.0.2, b.1.0.3 ∙ a.1.0.3), b.1.1 ∙ a.1.1),
  b.2 ∙ a.2,
  b.3 ∙ a.3,
)

pub collects_same : (c : Submitter) → Collects c c
collects_same c = record { window = same_window c.window; refused = refl; handled = λ lines handled. handled }

pub collects_then : (c d e : Submitter) → Collects c d → Collects d e → Collects c e
collects_then c d e a b = record {
  window = window_then c.window d.window e.window a.window b.window;
  refused = b.refused ∙ a.refused;
  handled = λ lines handled. b.handled lines (a.handled lines handled);
}

-- The same parts, under other names.
pub moved : (default other : ℕ) (lines : List (List ℕ)) (sent posted got had : List RecordValue) (text all : List ℕ)
    (pending after : List (List ℕ)) (refused many : ℕ)
    → other ≡ default → posted ≡ sent → had ≡ got → all ≡ text → after ≡ pending → many ≡ refused
    → Progress default lines sent got text pending refused → Progress other lines posted had all after many
moved default other lines sent posted got had text all pending after refused many a b c d e f progress = rw (a, b, c, d, e, f) progress

pub collects_one : (c d : Submitter) (a : AnswerValue) (replies : Vec ℕ Global)
    → SameWindow c.window d.window → letters_sent d.window ≡ letters_sent c.window → collected d.window ≡ collected c.window ++ Answer a ∷ []
    → c.pending_replies.items ≡ replies ∷ d.pending_replies.items
    → d.text.items ≡ c.text.items ++ (answer_line a.asked ++ replies.items) → d.refused ≡ c.refused → Collects c d
collects_one c d a replies window sent got is text refused = record {
  window = window;
  refused = refused;
  handled = λ lines old.
      let items : List (Vec ℕ Global) → List (List ℕ) = map (λ t. t.items) in
      let before : Progress (default_of c.window) lines (records (letters_sent c.window))
      (map asked (collected c.window)) c.text.items (replies.items ∷ items d.pending_replies.items) c.refused =
      subst (λ l. Progress (default_of c.window) lines (records (letters_sent c.window))
      (map asked (collected c.window)) c.text.items l c.refused) (ap items is) old in
      moved (default_of c.window) (default_of d.window) lines (records (letters_sent c.window)) (records (letters_sent d.window))
      (map asked (collected c.window) ++ a.asked ∷ [])
      (map asked (collected d.window)) (c.text.items ++ (answer_line a.asked ++ replies.items)) d.text.items
      (items d.pending_replies.items) (items d.pending_replies.items) c.refused d.refused
      window.3 (ap records sent) (ap (map asked) got ∙ map-append asked (collected c.window) (Answer a ∷ [])) text refl refused
      (progress_answer (default_of c.window) c.refused lines (records (letters_sent c.window))
      (map asked (collected c.window)) a.asked c.text.items replies.items (items d.pending_replies.items) before);
}

-- Nothing went by the window.
pub collects_none : (c d : Submitter) → SameWindow c.window d.window → letters_sent d.window ≡ letters_sent c.window
    → collected d.window ≡ collected c.window
    → d.text ≡ c.text → d.pending_replies ≡ c.pending_replies → d.refused ≡ c.refused → Collects c d
collects_none c d window sent got text pending refused = record {
  window = window;
  refused = refused;
  handled = λ lines old.
      let items : List (Vec ℕ Global) → List (List ℕ) = map (λ t. t.items) in
      moved (default_of c.window) (default_of d.window) lines (records (letters_sent c.window)) (records (letters_sent d.window))
      (map asked (collected c.window)) (map asked (collected d.window))
      c.text.items d.text.items (items c.pending_replies.items) (items d.pending_replies.items) c.refused d.refused
      window.3 (ap records sent) (ap (map asked) got) (ap (λ t. t.items) text) (ap (λ b. items b.items) pending) refused old;
}

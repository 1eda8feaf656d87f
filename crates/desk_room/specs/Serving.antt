-- What inputs are served, and what a bench gives back (own to this project).
use Rattle.std.specs.Prelude.{ℕ, Bool, List, [], ◌∷◌, true, false}
use Rattle.mate_answers.specs.InputReplies.{IsReply}
use Rattle.mate_jobs.specs.Jobs.{Task}
use Rattle.room_ends.specs.declared.letters.Back.{Back}
use Rattle.room_ends.specs.declared.letters.Back.TheVariants.{Solved, Returned}
use Rattle.text_lines.specs.declared.replies.Output.{Output}

-- Each output is the reply to the input of its place, with the number of its refusals.
abbrev pub AreReplies : ℕ → List (List ℕ) → List Output → Type 0
AreReplies default [] [] = Unit {0}
AreReplies default (input ∷ inputs) (o ∷ os) = IsReply default input o.text.items o.refused × AreReplies default inputs os
AreReplies default _ _ = ⊥

-- What a bench gives back of a job: it is solved exactly where the gate lets it pass.
abbrev pub back_of : Bool → Task → Back
back_of true job = Solved job
back_of false job = Returned job

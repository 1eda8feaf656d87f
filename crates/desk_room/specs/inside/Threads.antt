-- Not for believing: what the threads of windows and benches begin with and bring back. No contract of a public call rests on it.
use Rattle.std.specs.Prelude.{◌≡◌, ℕ, ◌+◌, ◌≤◌, Bool, List, [], ◌∷◌, ◌++◌, length, map, All, IfSome}
use Rattle.mate_answers.specs.InputReplies.{IsReply}
use Rattle.mate_jobs.specs.Jobs.{Task}
use Rattle.text_lines.specs.declared.replies.Output.{Output}
use Rattle.room_ends.specs.Benches.{got, given}
use Rattle.room_ends.specs.Windows.{letters_sent, collected, default_of}
use Rattle.desk_room.specs.Keepers.{IsOf}
use Rattle.desk_room.specs.Serving.{back_of}
use Rattle.desk_room.specs.inside.Submitters.{IsReplyIf, Reports}
use Rattle.desk_room.specs.declared.keepers.Keeper.{Keeper}
use Rattle.room_ends.specs.declared.benches.Bench.{Bench}
use Rattle.room_ends.specs.declared.deque_rule.Order.{Order}
use Rattle.room_ends.specs.declared.deque_rule.Order.TheVariants.{Solve}
use Rattle.room_ends.specs.declared.windows.Window.{Window}
use Rattle.desk_room.specs.declared.serving.window_thread.Report.{Report}

-- A window by which nothing went yet.
abbrev pub IsFreshWindow : Window → Type 0
IsFreshWindow w = (letters_sent w ≡ []) × (collected w ≡ [])

abbrev pub AllFresh : List Window → Type 0
AllFresh [] = Unit {0}
AllFresh (w ∷ ws) = IsFreshWindow w × AllFresh ws

-- a report for each window, in order
abbrev pub AllReport : List Window → List (List ℕ) → List Report → Type 0
AllReport [] [] [] = Unit {0}
AllReport (w ∷ ws) (input ∷ inputs) (r ∷ rs) = Reports w input r × AllReport ws inputs rs
AllReport _ _ _ = ⊥

-- Their windows are of the keeper's room.
abbrev pub AllOf : Keeper → List Report → Type 0
AllOf k [] = Unit {0}
AllOf k (r ∷ rs) = IsOf r.window k × AllOf k rs

-- Whatever input the report is of, this is the reply to it.
pub record IsSettled (r : Report) (o : Output) : Type 0 where
  pub reply : (input : List ℕ) → IfSome r.reply (λ p. IsReplyIf r.window input p) → IsReply (default_of r.window) input o.text.items o.refused

abbrev pub AllSettled : List Report → List Output → Type 0
AllSettled [] [] = Unit {0}
AllSettled (r ∷ rs) (o ∷ os) = IsSettled r o × AllSettled rs os
AllSettled _ _ = ⊥

-- What a bench did: it got these jobs, in order, and gave each back as the gate may have answered, solved exactly where it let the job
-- pass. Of the orders that it got last it gave nothing back.
pub record Heeds (answers : ℕ → Bool → Type 0) (old new : Bench) (last : List Order) : Type 0 where
  pub asked : List (Task × Bool)
  pub may_come : All (λ a. answers a.0.ticket a.1) asked
  pub orders : got new ≡ got old ++ (map (λ a. Solve a.0) asked ++ last)
  pub backs : given new ≡ given old ++ map (λ a. back_of a.1 a.0) asked

-- That is one order at most: a stop, or a job that it had when all were told to stop.
abbrev pub HeedsAll : (ℕ → Bool → Type 0) → Bench → Bench → Type 0
HeedsAll answers old new = (last : List Order) × (length last ≤ 1) × Heeds answers old new last

-- These benches, numbered from this number on: each heeds the gate, which knows it by its number.
abbrev pub AllHeed : (ℕ → ℕ → Bool → Type 0) → ℕ → List Bench → List Bench → Type 0
AllHeed answers n [] [] = Unit {0}
AllHeed answers n (b ∷ bs) (c ∷ cs) = HeedsAll (answers n) b c × AllHeed answers (n + 1) bs cs
AllHeed answers n _ _ = ⊥

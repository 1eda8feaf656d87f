-- An entry and the job that it is given out as.
use Rattle.std.proofs.Common.{◌≡◌, true, refl}
use Rattle.chess_board.specs.Soundness.{IsSound}
use Rattle.mate_jobs.specs.Jobs.{Task}
use Rattle.chess_problems.specs.SameProblems.{SameProblemReads}
use Rattle.chess_notation.specs.Records.{problem_of}
use Rattle.mate_desk.specs.Content.{EntryValue, has_task}
use Rattle.mate_desk.proofs.Tests.{and_holds, same_number}

-- An entry is the job of its own ticket and problem.
pub own_task : SameProblemReads → (e : EntryValue) (task : Task) → IsSound e.asked.position
    → task ≡ record { ticket = e.ticket; problem = problem_of e.asked } → has_task task e ≡ true
own_task law e task sound is = rw is (and_holds _ _ (same_number e.ticket) ((law (problem_of e.asked) (problem_of e.asked) sound sound).1 refl))

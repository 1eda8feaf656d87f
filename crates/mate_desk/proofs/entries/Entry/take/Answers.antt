use Rattle.std.proofs.Common.{◌≡◌, ◌∙◌, subst, ap}
use Rattle.chess_board.specs.Soundness.{IsSound}
use Rattle.chess_problems.specs.Problems.{ProblemValue}
use Rattle.mate_jobs.specs.Jobs.{Task}
use Rattle.chess_notation.specs.Records.{problem_of}
use Rattle.mate_desk.specs.Content.{EntryValue}
use Rattle.mate_desk.proofs.Tasks.{own_task}
use Rattle.mate_desk.proofs.entries.Entry.take.Goals as goal

pub returns-clause-task : goal.returns-clause-task
returns-clause-task c =
    let same : c.problem-problem.result ≡ problem_of c.args.self.now.asked =
    c.problem-problem.ensures ∙ ap (λ (e : EntryValue). problem_of e.asked) c.self.view_is in
    let sound : IsSound c.args.self.now.asked.position =
    subst (λ (p : ProblemValue). IsSound p.position) (c.problem.view_is ∙ same) c.side.ensures.sound in
    let task : EntryValue → ProblemValue → Task = λ e p. record { ticket = e.ticket; problem = p } in
    let made : c.new.result ≡ task c.args.self.now c.problem-problem.result =
    c.new.ensures ∙ ap (λ (e : EntryValue). task e c.problem-problem.result) c.self.view_is in
    own_task c.same_problem_reads.ensures c.args.self.now c.new.result sound (made ∙ ap (task c.args.self.now) same)

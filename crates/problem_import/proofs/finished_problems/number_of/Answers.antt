use Rattle.problem_import.proofs.finished_problems.number_of.Goals as goal

pub returns-in-Nothing : goal.returns-in-Nothing
returns-in-Nothing c = λ line one. rw c.in-Nothing.is (c.number_unsaid.ensures line one)

pub returns-in-Moves : goal.returns-in-Moves
returns-in-Moves c = λ line one. c.in-Moves.is

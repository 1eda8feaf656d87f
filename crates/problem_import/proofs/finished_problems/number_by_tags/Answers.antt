use Rattle.problem_import.proofs.Sources.{game_said, game_unsaid}
use Rattle.problem_import.proofs.finished_problems.number_by_tags.Goals as goal

pub returns-in-Moves : goal.returns-in-Moves
returns-in-Moves c = λ letters given lines own texts has_moves made up game has says.
    game_said letters given lines own texts has_moves made c.in-Moves.moves up game has (says c.in-Moves.moves c.in-Moves.is)

pub returns-in-Nothing : goal.returns-in-Nothing
returns-in-Nothing c = λ letters given lines own texts has_moves made up game has says.
    game_unsaid letters given lines own texts has_moves made up game has

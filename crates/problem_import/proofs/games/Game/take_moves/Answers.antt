use Rattle.problem_import.specs.Sources.{SaysMoves}
use Rattle.problem_import.proofs.GameNumbers.{asks_same, asks_then}
use Rattle.problem_import.proofs.games.Game.take_moves.Goals as goal

pub returns-clause-asks : goal.returns-clause-asks
returns-clause-asks c =
    asks_then (SaysMoves c.args.line.now) c.args.self.now c.find_move-found.new.self c.take_word.new.self c.find_move-found.ensures.asks
    (asks_same (SaysMoves c.args.line.now) c.find_move-found.new.self c.take_word.new.self c.in_ok-take_word.ensures.asks)

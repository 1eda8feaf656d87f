use Rattle.problem_import.proofs.OwnFindings.{own_of_game}
use Rattle.problem_import.proofs.KnownNumbers.{asked_of_game}
use Rattle.problem_import.proofs.Imports.{where_none}
use Rattle.problem_import.proofs.Sources.{fen_moved, game_asks}
use Rattle.problem_import.proofs.finished_problems.found_game.Goals as goal

pub returns-clause-own : goal.returns-clause-own
returns-clause-own c = λ line. (
  own_of_game c.of.result.form line c.in_ok-text.text.items c.of.ensures,
  asked_of_game c.of.result.form line _ c.of.ensures,
)

pub returns-clause-from : goal.returns-clause-from
returns-clause-from c = λ letters lines own up (texts, has_moves, game, of, tags) given.
    c.number_by_tags-number.ensures letters given lines own texts has_moves c.in_ok-text.text.items up game
    (fen_moved letters texts c.args.game.now.fen.items c.in_ok-text.text.items c.in_ok-text.ensures
    (of.fen (where_none _ c.first_fault.result c.in_default.not-Some c.first_fault.ensures)))
    (game_asks letters texts c.args.game.now c.asks.result c.asks.ensures of)

use Rattle.std.proofs.Common.{inl, refl, subst}
use Rattle.problem_import.specs.inside.KnownSources.{IsMoved}
use Rattle.problem_import.proofs.Sources.{game_moved, moved_open, open_next}
use Rattle.problem_import.proofs.reading.Reading.take_moves.Goals as goal

pub returns-in_default-clause-from : goal.returns-in_default-clause-from
returns-in_default-clause-from c = λ letters lines moved before.
    (moved_open letters lines c.args.line.now c.args.self.now.open c.in_default.not-Game moved, before)

pub returns-then-not-game-clause-from : goal.returns-then-not-game-clause-from
returns-then-not-game-clause-from c = λ letters lines moved before. (
  game_moved letters lines c.args.line.now c.in-Game.game c.take_moves.new.self c.in_ok-take_moves.ensures.fen c.in_ok-take_moves.ensures.asks
      c.in_ok-take_moves.ensures.begun c.in_ok-take_moves.ensures.comment (subst (IsMoved letters lines c.args.line.now) c.in-Game.is moved),
  before,
)

pub returns-clause-from : goal.returns-clause-from
returns-clause-from c = λ letters lines moved before.
    let of = game_moved letters lines c.args.line.now c.in-Game.game c.take_moves.new.self c.in_ok-take_moves.ensures.fen
    c.in_ok-take_moves.ensures.asks c.in_ok-take_moves.ensures.begun c.in_ok-take_moves.ensures.comment (subst (IsMoved letters lines c.args.line.now) c.in-Game.is moved) in
    (open_next letters lines _ _ c.finish.ensures.next tt, c.in_ok-finish.ensures.from letters lines lines (inl refl) of before)

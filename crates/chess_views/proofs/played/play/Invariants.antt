use Rattle.std.proofs.Common.{◌≡◌, ◌+◌, map, drop}
use Rattle.chess_views.specs.Played.{played, played_from}
use Rattle.chess_views.proofs.played.play.Given as goal

abbrev pub invariant-loop-index : goal.invariant-loop-index
invariant-loop-index l = played_from (l.index + 1) l.reached (map (λ s. s.now) (drop l.index l.words)) ≡ played l.fen (map (λ s. s.now) l.words)

use Rattle.std.proofs.Common.{◌≡◌, ◌≤◌, ◌*◌, take}
use Rattle.fen_explanations.specs.Placements.{squares_in}
use Rattle.fen_explanations.proofs.placements.squares_in.Given as goal

abbrev pub invariant-loop-byte : goal.invariant-loop-byte
invariant-loop-byte l = (l.squares ≡ squares_in (take l.byte-index l.rank)) × (l.squares ≤ 8 * l.byte-index)

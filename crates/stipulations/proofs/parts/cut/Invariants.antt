use Rattle.std.proofs.Common.{◌≡◌, ◌++◌, take, drop}
use Rattle.chess_board.specs.Characters.{char}
use Rattle.stipulations.specs.inside.Cuts.{part_after, part_front}
use Rattle.stipulations.proofs.parts.cut.Given as goal

abbrev pub invariant-loop-index : goal.invariant-loop-index
invariant-loop-index l = record {
  front : take l.index l.text ++ part_front l.before (drop l.index l.text) ≡ part_front (char " ") l.text;
  after : part_after l.before (drop l.index l.text) ≡ part_after (char " ") l.text;
}

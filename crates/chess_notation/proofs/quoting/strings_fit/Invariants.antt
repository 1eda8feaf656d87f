use Rattle.std.proofs.Common.{◌≡◌, drop}
use Rattle.chess_notation.specs.Quoting.{fits_from, strings_fit}
use Rattle.chess_notation.proofs.quoting.strings_fit.Given as goal

abbrev pub invariant-loop-byte : goal.invariant-loop-byte
invariant-loop-byte l = fits_from l.mode (drop l.byte-index l.segment) ≡ strings_fit l.segment

use Rattle.std.proofs.Common.{◌≡◌, [], true, length}
use Rattle.std.specs.List.{list_all}
use Rattle.chess_notation.specs.Segments.{segments_of}
use Rattle.chess_notation.specs.Operations.{is_printable}
use Rattle.chess_notation.specs.EpdFaults.{has_opcode}
use Rattle.chess_notation.specs.inside.RecordReading.{inserted, kept}
use Rattle.chess_notation.proofs.operations.operations_of.Given as goal

abbrev pub invariant-loop-segment : goal.invariant-loop-segment
invariant-loop-segment l = record {
  kept_so_far : inserted l.operations.items (kept (segments_of l.rest).ended) ≡ inserted [] (kept (segments_of l.text).ended);
  opcodes : list_all has_opcode (segments_of l.rest).ended ≡ true;
  printable : list_all is_printable l.rest ≡ true;
}

abbrev pub decreases-loop-segment : goal.decreases-loop-segment
decreases-loop-segment l = length l.rest

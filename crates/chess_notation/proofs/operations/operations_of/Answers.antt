use Rattle.std.proofs.Common.{◌≢◌, [], Result, Ok, Err, OnErr, subst, ◌∙◌}
use Rattle.chess_notation.specs.Operations.{is_printable}
use Rattle.chess_notation.specs.EpdFaults.{has_opcode}
use Rattle.chess_notation.proofs.SegmentSteps.{kept_more, some_kept, all_behind_segment, all_in_segment}
use Rattle.chess_notation.specs.inside.RecordReading.{rest_of}
use Rattle.chess_notation.proofs.operations.operations_of.Goals as goal

pub loop-segment-preserved : goal.loop-segment-preserved
loop-segment-preserved c = record {
  kept_so_far = kept_more c.loop-segment.operations.items c.add_segment.new.operations.items c.loop-segment.rest.now
      c.in-Some.segment.now c.in-Some.back.now c.in-Some.ensures.cut c.in_ok-add_segment.ensures.ok
      ∙ c.loop-segment.invariant.kept_so_far;
  opcodes = all_behind_segment has_opcode c.loop-segment.rest.now c.in-Some.segment.now c.in-Some.back.now
      c.in-Some.ensures.cut c.loop-segment.invariant.opcodes;
  printable = (all_in_segment is_printable c.loop-segment.rest.now c.in-Some.segment.now c.in-Some.back.now
      c.in-Some.ensures.parts c.loop-segment.invariant.printable).1;
}

on_err : {A E P : Type 0} (r : Result A E) → P → OnErr r P
on_err (Ok x) p = tt
on_err (Err e) p = p

pub returns-in_err-add_segment-clause-err : goal.returns-in_err-add_segment-clause-err
unfolding rest_of
returns-in_err-add_segment-clause-err c =
    on_err c.from_residual.result (subst (λ es. es ≢ []) c.loop-segment.invariant.kept_so_far
    (some_kept c.loop-segment.operations.items c.loop-segment.rest.now c.in-Some.segment.now c.in-Some.back.now
    c.in-Some.ensures.cut c.in_err-add_segment.ensures.err))

use Rattle.chess_notation.specs.Operations.{is_printable}
use Rattle.chess_notation.proofs.WordSplits.{all_behind}
use Rattle.chess_notation.proofs.SegmentSteps.{all_in_word}
use Rattle.chess_notation.proofs.operations.operation_of.Goals as goal

pub operands_behind-requires : goal.operands_behind-requires
operands_behind-requires c = rw c.word_at.ensures.rest (all_behind is_printable c.args.segment.now c.requires.printable)

pub opcode_text-requires-clause-printable : goal.opcode_text-requires-clause-printable
opcode_text-requires-clause-printable c = rw c.word_at.ensures.word (all_in_word is_printable c.args.segment.now c.requires.printable)

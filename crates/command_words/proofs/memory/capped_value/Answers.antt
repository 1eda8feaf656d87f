use Rattle.std.proofs.Common.{arith, refl}
use Rattle.command_words.proofs.Capped.{value_more}
use Rattle.command_words.proofs.memory.capped_value.Goals as goal

pub loop-byte-preserved : goal.loop-byte-preserved
loop-byte-preserved c = record {
  value = value_more 33554433 c.args.digits.now c.loop-byte.value c.loop-byte.byte-index _
      c.min-value.result c.loop-byte-test.true refl (omega arith) c.loop-byte.invariant.value;
  small = omega arith;
}

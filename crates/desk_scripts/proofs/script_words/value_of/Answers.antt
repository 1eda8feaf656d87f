use Rattle.std.proofs.Common.{arith}
use Rattle.desk_scripts.proofs.Cuts.{below_nine}
use Rattle.desk_scripts.proofs.script_words.value_of.Goals as goal

pub overflow_mul-value : goal.overflow_mul-value
overflow_mul-value c = omega (arith, below_nine _ _ _ c.loop-digit.invariant.small c.loop-digit-test.true c.requires.few)

pub overflow_add-value : goal.overflow_add-value
overflow_add-value c = omega (arith, c.from.ensures, below_nine _ _ _ c.loop-digit.invariant.small c.loop-digit-test.true c.requires.few)

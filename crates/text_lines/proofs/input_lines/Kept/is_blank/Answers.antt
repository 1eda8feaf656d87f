use Rattle.text_lines.proofs.KeptLines.{blank_cr, blank_not, blank_space}
use Rattle.text_lines.proofs.input_lines.Kept.is_blank.Goals as goal

pub returns-then-self-eq32 : goal.returns-then-self-eq32
returns-then-self-eq32 c = λ line is. blank_space c.args.self.now line is c.if-self.true c.if-self-eq32.true

pub returns-else-self-eq32 : goal.returns-else-self-eq32
returns-else-self-eq32 c = λ line is. blank_cr c.args.self.now line is c.if-self.true c.if-self-eq32.false

pub returns-else-self : goal.returns-else-self
returns-else-self c = λ line is. blank_not c.args.self.now line is c.if-self.false

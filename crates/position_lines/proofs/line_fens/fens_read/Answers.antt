use Rattle.position_lines.proofs.FenLines.{fens_read}
use Rattle.position_lines.proofs.line_fens.fens_read.Goals as goal

pub returns : goal.returns
returns c = fens_read

use Rattle.std.proofs.Common.{rules}
use Rattle.text_lines.proofs.KeptLines.{kept_more}
use Rattle.text_lines.proofs.input_lines.Kept.keep.Goals as goal

pub returns : goal.returns
returns c = λ before is.
    kept_more c.args.self.now c.look_at.new.self before c.args.piece.now c.split_at.result.0.now c.min.result c.split_at.ensures.front (search rules)
    (search rules) c.look_at.ensures.spaces c.look_at.ensures.last is

-- The replies to all lines are those to the first of them.
use Rattle.std.proofs.Common.{◌-◌, ℕ, List, drop, length, subst, sym}
use Rattle.std.proofs.Math.Seq.{take-length}
use Rattle.text_lines.specs.Lines.{lines_of}
use Rattle.text_lines.specs.Replies.{IsReplyFrom, LineReplies}
use Rattle.text_lines.specs.LinesFrom.{IsReplyOn, IsReplyToFirstOn}

pub first_of_all : (R : LineReplies) (from : ℕ) (input text : List ℕ) (n : ℕ) → IsReplyOn R from input text n → IsReplyToFirstOn R from input text
unfolding IsReplyOn IsReplyToFirstOn
first_of_all R from input text n replies =
    (length (lines_of input), n, subst (λ lines. IsReplyFrom R from (drop (from - 1) lines) text n) (sym (take-length (lines_of input))) replies)

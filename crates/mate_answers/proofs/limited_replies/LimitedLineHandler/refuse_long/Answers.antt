use Rattle.std.proofs.Common.{ℕ, List, ◌≡◌, ◌<◌, false, inr, length}
use Rattle.std.proofs.lemmas.Result.{IfOk-weaker}
use Rattle.chess_notation.specs.Records.{max_line}
use Rattle.chess_notation.specs.Words.{is_blank}
use Rattle.mate_answers.specs.InputReplies.{IsLineReply}
use Rattle.mate_answers.specs.LimitedReplies.{IsLateReply, IsLimitedReply, decided, in_time}
use Rattle.mate_answers.proofs.LineReplies.{long_refused}
use Rattle.mate_answers.proofs.limited_replies.LimitedLineHandler.refuse_long.Goals as goal

pub returns-clause-reply : goal.returns-clause-reply
returns-clause-reply g c =
    IfOk-weaker c.refusal.result
    (λ output. (line : List ℕ) → is_blank line ≡ false → max_line < length line
    → IsLineReply c.args.self.now.default c.args.number line output.text.items output.refused)
    (λ output. (line : List ℕ) → is_blank line ≡ false → max_line < length line
    → IsLimitedReply (g.T.Halt.may_stop c.args.self.now.limit.now)
    c.args.self.now.seconds c.args.self.now.default c.args.number line output.text.items output.refused)
    (λ output told line some long. decided output.text.items output.refused (told line some long))
    (long_refused c.args.self.now.default c.args.number (λ output. output.text.items)
    (λ output. output.refused) c.refusal.result c.refusal.ensures.text c.refusal.ensures.one)

pub returns-clause-marked : goal.returns-clause-marked
returns-clause-marked g c =
    IfOk-weaker c.refusal.result
    (λ output. (line : List ℕ) → is_blank line ≡ false → max_line < length line
    → IsLineReply c.args.self.now.default c.args.number line output.text.items output.refused)
    (λ output. (line : List ℕ) → is_blank line ≡ false → max_line < length line
    → IsLateReply (g.T.Halt.may_stop c.args.self.now.limit.now)
    c.args.self.now.seconds c.args.self.now.default c.args.number line output.text.items 0)
    (λ output told line some long. in_time output.text.items output.refused (told line some long))
    (long_refused c.args.self.now.default c.args.number (λ output. output.text.items)
    (λ output. output.refused) c.refusal.result c.refusal.ensures.text c.refusal.ensures.one)

pub returns-clause-behind : goal.returns-clause-behind
returns-clause-behind g c =
    IfOk-weaker c.refusal.result
    (λ output. (line : List ℕ) → is_blank line ≡ false → max_line < length line
    → IsLineReply c.args.self.now.default c.args.number line output.text.items output.refused)
    _ (λ output told line some long before. inr (told line some long))
    (long_refused c.args.self.now.default c.args.number (λ output. output.text.items)
    (λ output. output.refused) c.refusal.result c.refusal.ensures.text c.refusal.ensures.one)

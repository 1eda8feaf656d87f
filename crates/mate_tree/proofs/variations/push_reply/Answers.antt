use Rattle.std.proofs.Common.{◌≡◌, sym, ◌∙◌, rules}
use Rattle.chess_notation.specs.SanText.{san_text}
use Rattle.mate_tree.proofs.AddedLines.{text_as, text_more}
use Rattle.mate_tree.proofs.VariationsBelow.{word_is}
use Rattle.mate_tree.proofs.variations.push_reply.Goals as goal

pub returns-then-follows : goal.returns-then-follows
returns-then-follows g c =
    let word : c.as_bytes.result.now ≡ san_text c.args.position.now c.args.s = search rules in
    text_as (word_is c.args.position.now c.args.r c.args.s c.as_bytes.result.now (sym c.follows.ensures ∙ c.if-follows.true) word)
    (text_more c.push.ensures c.push-then-follows.ensures)

use Rattle.std.proofs.Common.{◌+◌, [], ◌∷◌, ap, ◌∙◌}
use Rattle.chess_moves.specs.Verdicts.{mating_moves}
use Rattle.mate_tree.specs.Lines.{attack_words}
use Rattle.mate_tree.specs.Variations.{mates_line}
use Rattle.mate_tree.proofs.AddedLines.{adds_as, adds_line, adds_none, text_as, text_more}
use Rattle.mate_tree.proofs.variations.write_mates_line.Goals as goal

pub returns-then-is_empty-clause-line : goal.returns-then-is_empty-clause-line
returns-then-is_empty-clause-line g c = adds_none c.args.writer.now

pub returns-clause-line : goal.returns-clause-line
returns-clause-line g c =
    let all = c.as_slice-moves.ensures.value ∙ c.mates-list.ensures.list ∙ ap mating_moves c.after-next.ensures in
    let answers = text_as (ap (λ p. attack_words (c.args.at.number + 1) p c.as_slice-moves.result.now) c.after-next.ensures) c.push_attacks.ensures in
    adds_as (ap (λ ms. mates_line c.args.at.number c.args.position.now c.args.replies.now c.args.r ms ∷ []) all)
    (adds_line c.begin.ensures
    (text_more (text_more (text_more c.push_spaces.ensures (text_more c.push_defence.ensures c.push_replies.ensures)) answers)
    c.push_dual.ensures) c.end.ensures)

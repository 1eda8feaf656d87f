use Rattle.std.proofs.Common.{◌&&◌, refl, ap, ◌∙◌}
use Rattle.std.proofs.lemmas.Bool.{and_from}
use Rattle.square_sets.specs.Members.{has}
use Rattle.chess_moves.specs.inside.Directions.{is_on_straight}
use Rattle.chess_moves.specs.inside.SliderLines.{is_open}
use Rattle.chess_moves.proofs.SetBits.{has_and}
use Rattle.chess_moves.proofs.SetParts.{part}
use Rattle.chess_moves.proofs.SliderSights.{grouped, straight_open}
use Rattle.chess_moves.proofs.slider_lines.straight_lines.Goals as goal

pub returns-clause-clear : goal.returns-clause-clear
returns-clause-clear c = λ a l.
    let k = c.args.square in
    let free = is_open (has c.args.occupied) k a in
    c.slider_lines.ensures.clear a l
    ∙ ap (λ x. x && free) (part c.args.sliders c.straights.result a (has c.args.sliders a) (is_on_straight k a) refl (c.straights.ensures a l))
    ∙ grouped (has c.args.sliders a) (is_on_straight k a) free
    ∙ ap (λ x. has c.args.sliders a && x) (straight_open (has c.args.occupied) k a)

pub returns-clause-blockers : goal.returns-clause-blockers
returns-clause-blockers c = λ a o l on there line alone.
    c.slider_lines.ensures.blockers a o l on
    (has_and c.args.sliders c.straights.result a
    ∙ and_from (has c.args.sliders a) (has c.straights.result a) there (c.straights.ensures a l ∙ line)) alone

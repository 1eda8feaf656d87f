use Rattle.std.proofs.Common.{refl, ◌∙◌, arith}
use Rattle.std.proofs.Math.Bool.{or-true}
use Rattle.square_sets.specs.Members.{has}
use Rattle.chess_moves.proofs.SetBits.{has_or}
use Rattle.chess_moves.proofs.SliderSights.{alone_lowest}
use Rattle.chess_moves.proofs.slider_lines.with_slider.Goals as goal

pub returns-then-without-eq0-clause-more : goal.returns-then-without-eq0-clause-more
returns-then-without-eq0-clause-more c = λ t l h. has_or c.args.lines.blockers c.args.taken t ∙ (rw h refl)

pub returns-then-without-eq0-clause-blockers : goal.returns-then-without-eq0-clause-blockers
returns-then-without-eq0-clause-blockers c = λ o l alone. has_or c.args.lines.blockers c.args.taken o ∙ (rw alone.there (or-true (has c.args.lines.blockers o)))

pub returns-else-without-eq0-clause-blockers : goal.returns-else-without-eq0-clause-blockers
returns-else-without-eq0-clause-blockers c = λ o l alone. absurd (c.if-without-eq0.false
    (alone_lowest c.args.taken c.lowest.result c.without.result o (omega arith) c.lowest.ensures c.without.ensures alone))

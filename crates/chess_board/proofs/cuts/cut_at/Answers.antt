use Rattle.chess_board.proofs.TextParts.{slice_split_whole, slice_split_cut}
use Rattle.chess_board.proofs.cuts.cut_at.Goals as goal

pub returns-in_err-at-clause-none : goal.returns-in_err-at-clause-none
returns-in_err-at-clause-none c = rw c.from_residual.ensures (slice_split_whole c.args.byte c.args.text.now c.in_err-at.ensures.none)

pub returns-clause-cut : goal.returns-clause-cut
returns-clause-cut c = slice_split_cut c.args.byte c.args.text.now c.in_ok-at.at c.in_ok-at.ensures.inside
    c.in_ok-at.ensures.before c.in_ok-at.ensures.here

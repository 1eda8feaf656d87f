use Rattle.square_sets.proofs.FirstSquares.{split_off, lowest_once}
use Rattle.square_sets.proofs.bit_scan.without_lowest.Goals as goal

pub returns : goal.returns
returns c = λ square is.
    split_off c.args.set square c.without.result is (rw (lowest_once c.args.set _ square c.lowest.ensures is) at c.without.ensures)

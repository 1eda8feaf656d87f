use Rattle.std.proofs.Common.{arith}
use Rattle.square_sets.proofs.FirstSquares.{lowest_of}
use Rattle.square_sets.proofs.bit_scan.lowest.Goals as goal

pub returns : goal.returns
returns c = lowest_of c.args.set (omega arith) c.ranges.set.fits

use Rattle.std.proofs.Common.{arith}
use Rattle.mate_search.proofs.OccupancySets.{rest_of}
use Rattle.mate_search.proofs.side_occupancy.SideOccupancy.of.Goals as goal

pub returns : goal.returns
returns c = record {
  white = c.men_of-white.ensures;
  black = rest_of c.args.position.now.men c.occupied.result c.men_of-white.result (omega arith) c.occupied.ensures c.men_of-white.ensures;
}

use Rattle.mate_search.proofs.OccupancySets.{men_of_kinds}
use Rattle.mate_search.proofs.side_occupancy.men_of.Goals as goal

pub returns : goal.returns
returns c = men_of_kinds c.args.position.now.men c.args.side c.men.result c.men-2.result c.men-3.result c.men-4.result c.men-5.result c.men-6.result
    c.men.ensures c.men-2.ensures c.men-3.ensures c.men-4.ensures c.men-5.ensures c.men-6.ensures

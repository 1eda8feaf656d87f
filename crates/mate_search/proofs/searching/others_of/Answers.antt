use Rattle.std.proofs.Common.{arith}
use Rattle.mate_search.proofs.Replies.{others_are}
use Rattle.mate_search.proofs.searching.others_of.Goals as goal

pub returns : goal.returns
returns c = others_are c.args.position.now.men c.side-side.result c.args.position.now.side c.men_of.result c.men.result
    c.side-side.ensures.side (omega arith) c.men_of.ensures c.men.ensures

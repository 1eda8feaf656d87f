use Rattle.std.proofs.Common.{sym, ap, ◌∙◌}
use Rattle.chess_board.specs.Men.{is_colour}
use Rattle.chess_board.specs.declared.men.Colour.TheVariants.{White, Black}
use Rattle.mate_search.proofs.OccupancySets.{squares_of, own_side, other_side}
use Rattle.mate_search.proofs.side_occupancy.SideOccupancy.after.Goals as goal

pub returns-in-White : goal.returns-in-White
returns-in-White c =
    let p = c.args.position.now in
    let m = c.args.m in
    let origin = c.wrapping_shl-origin.result in
    let target = c.wrapping_shl-target.result in
    let squares = squares_of m c.m.inside.origin c.m.inside.target c.m.inside.promotion origin target c.index.result c.index-2.result
    c.m.view_is c.m.invariant c.index.ensures.number c.index-2.ensures.number c.wrapping_shl-origin.ensures c.wrapping_shl-target.ensures in
    let side = sym c.side.ensures.side ∙ c.in-White.is in
    record {
      white = own_side p m origin target c.side.ensures.sound squares c.requires.plain c.requires.legal White c.args.self.white
          side c.requires.occupancy.white;
      black = other_side p m origin target c.side.ensures.sound squares c.requires.plain c.requires.legal Black c.args.self.black
          (ap (is_colour Black) side) c.requires.occupancy.black;
    }

pub returns-in-Black : goal.returns-in-Black
returns-in-Black c =
    let p = c.args.position.now in
    let m = c.args.m in
    let origin = c.wrapping_shl-origin.result in
    let target = c.wrapping_shl-target.result in
    let squares = squares_of m c.m.inside.origin c.m.inside.target c.m.inside.promotion origin target c.index.result c.index-2.result
    c.m.view_is c.m.invariant c.index.ensures.number c.index-2.ensures.number c.wrapping_shl-origin.ensures c.wrapping_shl-target.ensures in
    let side = sym c.side.ensures.side ∙ c.in-Black.is in
    record {
      white = other_side p m origin target c.side.ensures.sound squares c.requires.plain c.requires.legal White c.args.self.white
          (ap (is_colour White) side) c.requires.occupancy.white;
      black = own_side p m origin target c.side.ensures.sound squares c.requires.plain c.requires.legal Black c.args.self.black
          side c.requires.occupancy.black;
    }

use Rattle.std.proofs.Common.{◌∙◌, ◌++◌, ap, arith}
use Rattle.chess_board.specs.Fields.{castling_text, side_text, target_text}
use Rattle.chess_board.specs.Fens.{position_text}
use Rattle.chess_board.specs.Placement.{placement_text}
use Rattle.chess_board.proofs.TextRoom.{field_more, len_more, len_none, length-encode_ascii}
use Rattle.chess_board.proofs.positions.Position.text.Goals as goal

pub push-requires : goal.push-requires
push-requires c =
    omega (arith, len_none c.new-text.result c.new-text.ensures, c.push_placement.ensures.short, length-encode_ascii 32 (omega arith))

pub push_side-requires : goal.push_side-requires
push_side-requires c =
    let none = len_none c.new-text.result c.new-text.ensures in
    let space = len_more c.push_placement.new.text c.push.new.self 32 (c.push.ensures.ascii (omega arith)) in
    omega (arith, none, c.push_placement.ensures.short, space)

pub push-requires-2 : goal.push-requires-2
push-requires-2 c =
    let none = len_none c.new-text.result c.new-text.ensures in
    let space = len_more c.push_placement.new.text c.push.new.self 32 (c.push.ensures.ascii (omega arith)) in
    omega (arith, none, c.push_placement.ensures.short, space, c.push_side.ensures.short, length-encode_ascii 32 (omega arith))

pub push_castling-requires : goal.push_castling-requires
push_castling-requires c =
    let none = len_none c.new-text.result c.new-text.ensures in
    let space = len_more c.push_placement.new.text c.push.new.self 32 (c.push.ensures.ascii (omega arith)) in
    let space_2 = len_more c.push_side.new.text c.push-2.new.self 32 (c.push-2.ensures.ascii (omega arith)) in
    omega (arith, none, c.push_placement.ensures.short, space, c.push_side.ensures.short, space_2)

pub push-requires-3 : goal.push-requires-3
push-requires-3 c =
    let none = len_none c.new-text.result c.new-text.ensures in
    let space = len_more c.push_placement.new.text c.push.new.self 32 (c.push.ensures.ascii (omega arith)) in
    let space_2 = len_more c.push_side.new.text c.push-2.new.self 32 (c.push-2.ensures.ascii (omega arith)) in
    omega (
      arith,
      none,
      c.push_placement.ensures.short,
      space,
      c.push_side.ensures.short,
      space_2,
      c.push_castling.ensures.short,
      length-encode_ascii 32 (omega arith),
    )

pub push_target-requires : goal.push_target-requires
push_target-requires c =
    let none = len_none c.new-text.result c.new-text.ensures in
    let space = len_more c.push_placement.new.text c.push.new.self 32 (c.push.ensures.ascii (omega arith)) in
    let space_2 = len_more c.push_side.new.text c.push-2.new.self 32 (c.push-2.ensures.ascii (omega arith)) in
    let space_3 = len_more c.push_castling.new.text c.push-3.new.self 32 (c.push-3.ensures.ascii (omega arith)) in
    omega (arith, none, c.push_placement.ensures.short, space, c.push_side.ensures.short, space_2, c.push_castling.ensures.short, space_3)

pub returns-clause-text : goal.returns-clause-text
unfolding position_text
returns-clause-text c =
    let placement = c.push_placement.ensures.text ∙ ap (λ t. t ++ placement_text c.places.result) c.new-text.ensures
    ∙ ap placement_text (c.places.ensures ∙ c.board.ensures) in
    let side = field_more _ _ _ _ _ _ placement (ap side_text c.side.ensures.side) (c.push.ensures.ascii (omega arith)) c.push_side.ensures.text in
    let castling = field_more _ _ _ _ _ _ side (ap castling_text c.rights.ensures) (c.push-2.ensures.ascii (omega arith)) c.push_castling.ensures.text in
    field_more _ _ _ _ _ _ castling (ap target_text c.ep_target.ensures.target) (c.push-3.ensures.ascii (omega arith)) c.push_target.ensures

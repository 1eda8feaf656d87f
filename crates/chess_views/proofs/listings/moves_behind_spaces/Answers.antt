use Rattle.std.proofs.Common.{◌∙◌, ◌∷◌, [], refl}
use Rattle.chess_board.specs.Characters.{char}
use Rattle.chess_board.specs.Moves.{Move}
use Rattle.chess_notation.specs.SanText.{san_text}
use Rattle.chess_views.proofs.Pieces.{parts_two, pieces_all, pieces_more}
use Rattle.chess_views.proofs.listings.moves_behind_spaces.Goals as goal

pub loop-m-preserved : goal.loop-m-preserved
loop-m-preserved c =
    let text = c.loop-m.text.items in
    let named = c.as_bytes.ensures.value ∙ c.as_str.ensures.value ∙ c.san-name.ensures in
    let written = parts_two text _ _ (char " " ∷ []) _ (char " " ∷ []) _ refl named c.in_ok-push.ensures.items c.in_ok-extend_from_slice.ensures.items in
    pieces_more (λ (m : Move). char " " ∷ san_text c.args.position.now m) [] text _ c.as_slice-m-items.result.now c.loop-m.m-index _ c.m-item.result
    c.loop-m-test.true c.m-item.is c.loop-m.invariant written

pub returns : goal.returns
returns c =
    pieces_all (λ (m : Move). char " " ∷ san_text c.args.position.now m) [] _ c.as_slice-m-items.result.now _ c.loop-m.m-index c.loop-m-test.false
    (c.as_slice-m-items.ensures.value ∙ c.legal-moves.ensures) c.loop-m.invariant

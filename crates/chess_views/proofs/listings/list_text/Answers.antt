use Rattle.std.proofs.Common.{◌∙◌, [], ap}
use Rattle.chess_board.specs.Fens.{FenValue}
use Rattle.chess_moves.specs.inside.Listing.{legal_moves}
use Rattle.chess_views.specs.Listings.{list_text, move_line}
use Rattle.chess_views.proofs.Pieces.{pieces_all, pieces_more}
use Rattle.chess_views.proofs.listings.list_text.Goals as goal

pub loop-m-preserved : goal.loop-m-preserved
loop-m-preserved c =
    pieces_more _ [] _ _ c.as_slice-m-items.result.now c.loop-m.m-index _ c.m-item.result c.loop-m-test.true c.m-item.is c.loop-m.invariant
    c.in_ok-push_move.ensures

pub returns : goal.returns
unfolding list_text
returns c =
    pieces_all (move_line c.args.columns c.args.fen.now) [] _ c.as_slice-m-items.result.now _ c.loop-m.m-index c.loop-m-test.false
    (c.as_slice-m-items.ensures.value ∙ c.legal-moves.ensures ∙ ap (λ (v : FenValue). legal_moves v.position) c.fen.view_is) c.loop-m.invariant

use Rattle.std.proofs.Common.{◌∙◌, ap}
use Rattle.chess_board.specs.Fens.{FenValue, fen_text}
use Rattle.chess_notation.specs.SanText.{san_text}
use Rattle.chess_views.specs.Lines.{cell, line}
use Rattle.chess_views.proofs.Pieces.{parts_three, parts_two}
use Rattle.chess_views.proofs.listings.push_move.Goals as goal

pub returns-in_ok-push_line-in-SanFen : goal.returns-in_ok-push_line-in-SanFen
returns-in_ok-push_line-in-SanFen c =
    let name = c.as_str-in-SanFen.ensures.value ∙ c.san-name.ensures ∙ ap (λ (v : FenValue). san_text v.position c.args.m) c.fen.view_is in
    let fen = c.as_str-in-SanFen-2.ensures.value ∙ c.text.ensures.text ∙ ap fen_text c.after_fen.ensures in
    rw c.in-SanFen.is (parts_two c.args.text.now.items _ _ _ _ _ _ (ap cell name) (ap line fen) c.in_ok-push_cell-in-SanFen.ensures c.in_ok-push_line-in-SanFen.ensures)

pub returns-in_ok-push_line-in-SanCoordinatesFen : goal.returns-in_ok-push_line-in-SanCoordinatesFen
returns-in_ok-push_line-in-SanCoordinatesFen c =
    let name = c.as_str-in-SanCoordinatesFen.ensures.value ∙ c.san-name.ensures ∙ ap (λ (v : FenValue). san_text v.position c.args.m) c.fen.view_is in
    let coordinates = c.as_str-in-SanCoordinatesFen-2.ensures.value ∙ c.text-coordinates.ensures in
    let fen = c.as_str-in-SanCoordinatesFen-3.ensures.value ∙ c.text-in-SanCoordinatesFen.ensures.text ∙ ap fen_text c.after_fen-in-SanCoordinatesFen.ensures in
    rw c.in-SanCoordinatesFen.is (parts_three c.args.text.now.items _ _ _ _ _ _ _ _ _ (ap cell name) (ap cell coordinates) (ap line fen)
    c.in_ok-push_cell-in-SanCoordinatesFen.ensures c.in_ok-push_cell-in-SanCoordinatesFen-2.ensures c.in_ok-push_line-in-SanCoordinatesFen.ensures)

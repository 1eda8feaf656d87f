use Rattle.std.proofs.Common.{◌∙◌, ◌++◌, [], refl, ap, arith}
use Rattle.chess_views.specs.Boards.{board_text, files_line, rank_line}
use Rattle.chess_views.proofs.Pieces.{pieces_all, pieces_more}
use Rattle.chess_views.proofs.boards.board_text.Goals as goal

pub loop-rank-preserved : goal.loop-rank-preserved
loop-rank-preserved c =
    pieces_more _ [] _ _ c.ranks_from-rank-items.result c.loop-rank.rank-index _ 0 (omega arith) refl c.loop-rank.invariant c.in_ok-push_rank.ensures

pub returns : goal.returns
unfolding board_text
returns c =
    let ranks = pieces_all (rank_line c.args.from c.args.position.now.men) [] c.loop-rank.text.items c.ranks_from-rank-items.result _
    c.loop-rank.rank-index (omega arith) c.ranks_from-rank-items.ensures.ranks c.loop-rank.invariant in
    c.in_ok-push_files.ensures ∙ ap (λ t. t ++ files_line c.args.from) ranks

use Rattle.std.proofs.Common.{◌≡◌, ◌==◌, ◌&&◌, ◌||◌, true}
use Rattle.std.specs.List.{list_any}
use Rattle.chess_board.specs.Squares.{file_of, rank_of}
use Rattle.chess_moves.specs.inside.Listing.{legal_moves}
use Rattle.chess_notation.specs.Disambiguation.{is_rival}
use Rattle.chess_notation.proofs.disambiguation.rivals_of.Given as goal

-- what was found, or is to come, is what there is among all
abbrev pub invariant-loop-n : goal.invariant-loop-n
invariant-loop-n l =
    (l.m ≡ l.fn.m)
    × ((l.rivals.some || list_any (λ n. is_rival l.position l.man l.m n && true) l.n-iterator)
    ≡ list_any (λ n. is_rival l.position l.man l.m n && true) (legal_moves l.position))
    × ((l.rivals.on_file || list_any
    (λ n. is_rival l.position l.man l.m n && (file_of n.origin == file_of l.m.origin)) l.n-iterator)
    ≡ list_any (λ n. is_rival l.position l.man l.m n && (file_of n.origin == file_of l.m.origin)) (legal_moves l.position))
    × ((l.rivals.on_rank || list_any
    (λ n. is_rival l.position l.man l.m n && (rank_of n.origin == rank_of l.m.origin)) l.n-iterator)
    ≡ list_any (λ n. is_rival l.position l.man l.m n && (rank_of n.origin == rank_of l.m.origin)) (legal_moves l.position))

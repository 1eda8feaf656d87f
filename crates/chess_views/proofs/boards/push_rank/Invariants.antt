use Rattle.std.proofs.Common.{◌≡◌, ◌+◌, ◌*◌, ◌++◌, ◌∷◌, [], flat_map, take}
use Rattle.chess_board.specs.Characters.{char}
use Rattle.chess_board.specs.Positions.{man_at}
use Rattle.chess_views.specs.Boards.{place_letter}
use Rattle.chess_views.proofs.boards.push_rank.Given as goal

abbrev pub invariant-loop-file : goal.invariant-loop-file
invariant-loop-file l =
    l.text.items ≡ (l.fn.text.items ++ (char "1" + l.rank) ∷ char " " ∷ [])
    ++ flat_map (λ file. char " " ∷ place_letter (man_at l.position.men (8 * l.rank + file)) ∷ []) (take l.file-index l.file-items)

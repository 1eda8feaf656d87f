use Rattle.std.proofs.Common.{◌≡◌, ◌+◌, ◌++◌, ◌∷◌, [], codes, flat_map, take}
use Rattle.chess_board.specs.Characters.{char}
use Rattle.chess_views.proofs.boards.push_files.Given as goal

abbrev pub invariant-loop-file : goal.invariant-loop-file
invariant-loop-file l =
    l.text.items ≡ l.fn.text.items ++ codes "  " ++ flat_map (λ file. char " " ∷ (char "a" + file) ∷ []) (take l.file-index l.file-items)

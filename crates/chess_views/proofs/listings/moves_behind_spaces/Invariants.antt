use Rattle.std.proofs.Common.{◌≡◌, ◌∷◌, flat_map, take}
use Rattle.chess_board.specs.Characters.{char}
use Rattle.chess_notation.specs.SanText.{san_text}
use Rattle.chess_views.proofs.listings.moves_behind_spaces.Given as goal

abbrev pub invariant-loop-m : goal.invariant-loop-m
invariant-loop-m l = l.text.items ≡ flat_map (λ m. char " " ∷ san_text l.position m) (take l.m-index l.m-items)

-- What a man attacks, seen back from the square that it attacks.
use Rattle.std.proofs.Common.{◌≡◌, ℕ, ◌<◌, Bool, ◌∙◌}
use Rattle.chess_board.specs.declared.men.Colour.{Colour}
use Rattle.chess_board.specs.declared.men.Colour.TheVariants.{White, Black}
use Rattle.chess_board.specs.declared.men.Kind.{Kind}
use Rattle.chess_board.specs.declared.men.Kind.TheVariants.{Pawn, Knight, Bishop, Rook, Queen, King}
use Rattle.chess_board.specs.Men.{other_side}
use Rattle.chess_moves.specs.inside.Hits.{hits_as}
use Rattle.chess_moves.proofs.AttackSets.{slants_back, straight_back, slants_same, straight_same}
use Rattle.chess_moves.proofs.Geometry.{knight_back, king_back, capture_mirrored}

-- A man of the one colour attacks a from k where one of the other colour attacks k from a.
pub hits_back : (p q : ℕ → Bool) → ((s : ℕ) → s < 64 → p s ≡ q s) → (c : Colour) (asked : Kind) (k a : ℕ)
    → hits_as p (other_side c) asked k a ≡ hits_as q c asked a k
hits_back p q h White Pawn k a = capture_mirrored White a k
hits_back p q h Black Pawn k a = capture_mirrored Black a k
hits_back p q h c Knight k a = knight_back a k
hits_back p q h c Bishop k a = slants_same p q h k a ∙ slants_back q a k
hits_back p q h c Rook k a = straight_same p q h k a ∙ straight_back q a k
hits_back p q h c Queen k a = rw (slants_same p q h k a ∙ slants_back q a k, straight_same p q h k a ∙ straight_back q a k)
hits_back p q h c King k a = king_back a k

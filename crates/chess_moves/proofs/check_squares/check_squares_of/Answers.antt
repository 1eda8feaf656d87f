use Rattle.std.proofs.Common.{◌≡◌, ℕ, ◌<◌, Bool, ◌||◌, ap, ◌∙◌}
use Rattle.chess_board.specs.declared.men.Kind.{Kind}
use Rattle.chess_board.specs.declared.men.Kind.TheVariants.{Pawn, Knight, Bishop, Rook, Queen, King}
use Rattle.chess_board.specs.declared.men.Colour.{Colour}
use Rattle.chess_board.specs.Men.{other_side, man_of}
use Rattle.chess_board.specs.Positions.{man_at}
use Rattle.square_sets.specs.Members.{has}
use Rattle.chess_moves.specs.inside.Directions.{reaches_as_bishop, reaches_as_rook}
use Rattle.chess_moves.specs.inside.Leaps.{leaps, capture_of, capture_back}
use Rattle.chess_moves.specs.inside.Hits.{is_taken, hits_as}
use Rattle.chess_moves.specs.inside.CheckSquares.{squares_of}
use Rattle.chess_moves.specs.declared.check_squares.CheckSquares.{CheckSquares}
use Rattle.chess_moves.specs.declared.directions.Leap.TheVariants.{KnightLeap, KingStep}
use Rattle.chess_moves.proofs.Geometry.{knight_back, king_back, capture_mirrored}
use Rattle.chess_moves.proofs.AttackSets.{slants_back, straight_back, slants_same, straight_same}
use Rattle.chess_moves.proofs.SetBits.{has_or}
use Rattle.chess_moves.proofs.check_squares.check_squares_of.Goals as goal

-- one set for each kind
for_each_kind : (check_squares : CheckSquares) (taken : ℕ → Bool) (side : Colour) (a k : ℕ) → has check_squares.pawn a ≡ leaps (capture_of side) a k
    → has check_squares.knight a ≡ leaps KnightLeap a k → has check_squares.bishop a ≡ reaches_as_bishop taken a k
    → has check_squares.rook a ≡ reaches_as_rook taken a k
    → has check_squares.queen a ≡ (reaches_as_bishop taken a k || reaches_as_rook taken a k) → has check_squares.king a ≡ leaps KingStep a k
    → (asked : Kind) → has (squares_of check_squares asked) a ≡ hits_as taken side asked a k
for_each_kind check_squares taken side a k pawn knight bishop rook queen king Pawn = pawn
for_each_kind check_squares taken side a k pawn knight bishop rook queen king Knight = knight
for_each_kind check_squares taken side a k pawn knight bishop rook queen king Bishop = bishop
for_each_kind check_squares taken side a k pawn knight bishop rook queen king Rook = rook
for_each_kind check_squares taken side a k pawn knight bishop rook queen king Queen = queen
for_each_kind check_squares taken side a k pawn knight bishop rook queen king King = king

pub returns : goal.returns
returns c =
    let k : ℕ = c.index-king.result in
    let side : Colour = c.args.position.now.side in
    let occupied : ℕ = c.occupied-occupied.result in
    let taken : ℕ → Bool = λ s. is_taken c.args.position.now.men s in
    let bishop : (a : ℕ) → a < 64 → has c.bishop_attacks-bishop.result a ≡ reaches_as_bishop taken a k = λ a l.
    c.bishop_attacks-bishop.ensures a l ∙ slants_same (has occupied) taken c.occupied-occupied.ensures k a ∙ slants_back taken a k in
    let rook : (a : ℕ) → a < 64 → has c.rook_attacks-rook.result a ≡ reaches_as_rook taken a k = λ a l.
    c.rook_attacks-rook.ensures a l ∙ straight_same (has occupied) taken c.occupied-occupied.ensures k a ∙ straight_back taken a k in
    record {
      square = k;
      on_board = c.index-king.ensures.on_board;
      there = ap (man_at c.args.position.now.men) c.index-king.ensures.number ∙ c.king.ensures.king
          ∙ ap (λ colour. man_of colour King) (c.other-enemy.ensures ∙ ap other_side c.side-side.ensures.side);
      squares = λ asked a l. for_each_kind _ taken side a k
          (c.leap.ensures a l ∙ ap (λ leap. leaps leap k a) (c.capture_back.ensures ∙ ap capture_back c.side-side.ensures.side)
          ∙ capture_mirrored side a k)
          (c.leap-2.ensures a l ∙ knight_back a k) (bishop a l) (rook a l)
          (rw (has_or c.bishop_attacks-bishop.result c.rook_attacks-rook.result a, bishop a l, rook a l))
          (c.leap-3.ensures a l ∙ king_back a k) asked;
      sound = c.side-side.ensures.sound;
    }

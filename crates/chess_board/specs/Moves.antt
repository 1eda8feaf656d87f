-- What a move is, how it is written, and which of two moves comes first.
use Rattle.std.specs.Prelude.{ℕ, ◌+◌, ◌*◌, List, [], ◌∷◌, ◌++◌, Option, Some, None}
use Rattle.chess_board.specs.Characters.{small}
use Rattle.chess_board.specs.declared.men.Kind.{Kind}
use Rattle.chess_board.specs.declared.men.Kind.TheVariants.{Pawn, Knight, Bishop, Rook, Queen, King}
use Rattle.chess_board.specs.Placement.{kind_letter}
use Rattle.chess_board.specs.Fields.{square_text}

-- A man goes from one square to another, and a pawn that reaches the last rank becomes another man (FIDE Laws of Chess,
-- article 3.7). A castling move is the king's (article 3.8).
pub record Move : Type 0 where
  pub origin : ℕ
  pub target : ℕ
  pub promotion : Option Kind

-- where a promotion stands among those to one square: none, knight, bishop, rook, queen. No legal move makes a pawn or a king.
abbrev pub promotion_place : Option Kind → ℕ
promotion_place None = 0
promotion_place (Some Pawn) = 1
promotion_place (Some Knight) = 2
promotion_place (Some Bishop) = 3
promotion_place (Some Rook) = 4
promotion_place (Some Queen) = 5
promotion_place (Some King) = 6

-- Moves compare by origin, then target, then promotion: seven promotions to a target, and 64 targets to an origin.
abbrev pub move_place : Move → ℕ
move_place m = m.origin * 448 + (m.target * 7 + promotion_place m.promotion)

-- what the pawn becomes, by its small letter
abbrev pub promotion_text : Option Kind → List ℕ
promotion_text None = []
promotion_text (Some kind) = small (kind_letter kind) ∷ []

-- A move is written by its origin, its target and its promotion: e2e4, a7a8q.
abbrev pub move_text : Move → List ℕ
move_text m = square_text m.origin ++ square_text m.target ++ promotion_text m.promotion

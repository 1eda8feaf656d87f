-- Replies after which no move mates, and moves that leave one.
use Rattle.std.specs.Prelude.{◌≡◌, ℕ, ◌<◌, true, false}
use Rattle.square_sets.specs.Members.{has}
use Rattle.chess_board.specs.declared.men.Kind.{Kind}
use Rattle.chess_board.specs.declared.men.Kind.TheVariants.{Pawn, Knight, Bishop, Rook, Queen, King}
use Rattle.chess_board.specs.Legality.{is_legal}
use Rattle.chess_board.specs.MakeMove.{after_setup}
use Rattle.chess_board.specs.Moves.{Move}
use Rattle.chess_board.specs.Men.{is_man}
use Rattle.chess_board.specs.Positions.{Setup, man_at}
use Rattle.chess_moves.specs.declared.escape_guards.EscapeGuards.{EscapeGuards}
use Rattle.chess_moves.specs.Verdicts.{has_mating_move}

-- a legal move after which the other side has no move that mates
pub record Escape (p : Setup) : Type 0 where
  pub reply : Move
  pub origin : reply.origin < 64
  pub target : reply.target < 64
  pub legal : is_legal p reply ≡ true
  pub unmated : has_mating_move (after_setup p reply) ≡ false

-- A legal move of a man of this kind to any other square leaves an escape.
abbrev pub IsGuardedFrom : ℕ → Kind → Setup → Type 0
IsGuardedFrom squares asked p = (m : Move) → m.origin < 64 → m.target < 64 → is_legal p m ≡ true
    → is_man p.side asked (man_at p.men m.origin) ≡ true → has squares m.target ≡ false → Escape (after_setup p m)

-- For each kind the squares to which its men go, if a move of theirs is to leave no escape.
pub record AreGuardsOf (guards : EscapeGuards) (p : Setup) : Type 0 where
  pub pawn : IsGuardedFrom guards.pawn Pawn p
  pub knight : IsGuardedFrom guards.knight Knight p
  pub bishop : IsGuardedFrom guards.bishop Bishop p
  pub rook : IsGuardedFrom guards.rook Rook p
  pub queen : IsGuardedFrom guards.queen Queen p
  pub king : IsGuardedFrom guards.king King p

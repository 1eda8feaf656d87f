-- Forced mate, in moves of the attacker, over the rules alone.
use Rattle.std.specs.Prelude.{ℕ, zero, suc, Bool, false, ◌&&◌, ◌||◌, List}
use Rattle.std.specs.List.{list_any, list_all}
use Rattle.chess_board.specs.Positions.{Setup}
use Rattle.chess_board.specs.Moves.{Move}
use Rattle.chess_board.specs.MakeMove.{after_setup}
use Rattle.chess_moves.specs.inside.Listing.{legal_moves}
use Rattle.chess_moves.specs.Verdicts.{has_legal_move, is_mate}

-- The defender is to move and loses: it is mated (FIDE Laws of Chess, article 5.1.1), or it has a legal move and the attacker
-- wins after each. Stalemate (article 5.2.1) is no loss.
abbrev pub loses_by : (Setup → Bool) → Setup → Bool
loses_by wins q = is_mate q || (has_legal_move q && list_all (λ r. wins (after_setup q r)) (legal_moves q))

-- The attacker is to move and mates within n moves: one of its legal moves leaves the defender lost with n - 1 more. There is
-- no mate within 0.
unfoldable pub win : ℕ → Setup → Bool
win zero p = false
win (suc n) p = list_any (λ m. loses_by (win n) (after_setup p m)) (legal_moves p)

-- The defender is to move and lost: it is mated, or the attacker mates within k moves whatever the reply.
abbrev pub lost : ℕ → Setup → Bool
lost k q = loses_by (win k) q

-- This move of the attacker leaves the defender lost with k more.
abbrev pub leaves_lost : ℕ → Setup → Move → Bool
leaves_lost k p m = lost k (after_setup p m)

-- The attacker mates within n moves, the first of which is one of these.
unfoldable pub win_among : List Move → ℕ → Setup → Bool
win_among first zero p = false
win_among first (suc n) p = list_any (leaves_lost n p) first

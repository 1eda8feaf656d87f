-- The moves of the list are legal.
use Rattle.std.proofs.Common.{◌≡◌, Bool, true, false, cond, List, [], ◌∷◌, filter, refl}
use Rattle.std.specs.List.{All, list_all}
use Rattle.std.proofs.lemmas.List.Elements.{filter_passes}
use Rattle.chess_board.specs.Positions.{Setup}
use Rattle.chess_board.specs.Moves.{Move}
use Rattle.chess_board.specs.Legality.{is_legal}
use Rattle.chess_moves.specs.inside.Listing.{legal_moves, moves_below}

pub legal_each : (p : Setup) → All (λ m. is_legal p m ≡ true) (legal_moves p)
unfolding legal_moves
legal_each p = filter_passes (is_legal p) (moves_below 64)

pub all_legal : (p : Setup) → list_all (is_legal p) (legal_moves p) ≡ true
unfolding legal_moves
all_legal p = all_kept (is_legal p) (moves_below 64)
  where
    all_kept : (f : Move → Bool) (xs : List Move) → list_all f (filter f xs) ≡ true
    all_kept f [] = refl
    all_kept f (x ∷ xs) = (elim (f x) as (λ b. f x ≡ b → list_all f (cond b (x ∷ filter f xs) (filter f xs)) ≡ true) [
      | true ↦ λ e.
          rw e (all_kept f xs)
      | false ↦ λ e. all_kept f xs
    ]) refl

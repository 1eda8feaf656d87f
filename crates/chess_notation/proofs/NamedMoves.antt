-- The moves that words name rise in the order of moves.
use Rattle.std.proofs.Common.{ℕ, Bool, List, [], ◌∷◌, true, false, Some, None, filter, cond}
use Rattle.std.specs.List.{list_any}
use Rattle.std.specs.Option.{option_map_or}
use Rattle.chess_board.specs.Positions.{Setup}
use Rattle.chess_board.specs.Moves.{Move, move_place}
use Rattle.chess_moves.specs.inside.Listing.{legal_moves}
use Rattle.chess_moves.specs.Laws.{IsAbove, IsRising, LegalRise}
use Rattle.chess_notation.specs.Words.{words_in}
use Rattle.chess_notation.specs.AvoidMoves.{names, named}
use Rattle.chess_notation.specs.inside.RecordReading.{avoid_text_in, avoid_in}

-- They rise in the order of moves.
above_kept : (f : Move → Bool) (place : ℕ) (xs : List Move) → IsAbove place xs → IsAbove place (filter f xs)
above_kept f place [] h = tt
above_kept f place (x ∷ xs) h =
    let rest = above_kept f place xs h.1 in
    elim (f x) as (λ b. IsAbove place (cond b (x ∷ filter f xs) (filter f xs))) [ true ↦ (h.0, rest) | false ↦ rest ]

pub rising_kept : (f : Move → Bool) (xs : List Move) → IsRising xs → IsRising (filter f xs)
rising_kept f [] h = tt
rising_kept f (x ∷ xs) h =
    let rest = rising_kept f xs h.1 in
    elim (f x) as (λ b. IsRising (cond b (x ∷ filter f xs) (filter f xs))) [ true ↦ (above_kept f (move_place x) xs h.0, rest) | false ↦ rest ]

pub avoid_rises : LegalRise → (p : Setup) (segments : List (List ℕ)) → IsRising (avoid_in p segments)
unfolding avoid_in named
avoid_rises rise p segments = elim (avoid_text_in segments) as (λ text. IsRising (option_map_or (λ t. named p (words_in t)) text [])) [
  | None ↦ tt
  | Some text ↦ rising_kept (λ m. list_any (λ word. names p word m) (words_in text)) (legal_moves p) (rise p)
]

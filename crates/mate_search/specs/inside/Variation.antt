-- Not for believing: the keys of a mate and its principal variation, as they are computed. They come to `IsKey` and `IsPrincipalVariation`.
use Rattle.std.specs.Prelude.{ℕ, zero, suc, ◌-◌, not, List, [], ◌∷◌, filter, find, Option}
use Rattle.std.specs.Option.{option_map_or}
use Rattle.chess_board.specs.Positions.{Setup}
use Rattle.chess_board.specs.Moves.{Move}
use Rattle.chess_board.specs.MakeMove.{after_setup}
use Rattle.chess_moves.specs.inside.Listing.{legal_moves}
use Rattle.mate_search.specs.Wins.{win, leaves_lost}

-- The keys of a mate within n moves: of these first moves each that leaves the defender lost with n - 1 more, in their order.
abbrev pub keys : List Move → Setup → ℕ → List Move
keys first p n = filter (leaves_lost (n - 1) p) first

-- the first of the keys
abbrev pub least_key : List Move → Setup → ℕ → Option Move
least_key first p n = find (leaves_lost (n - 1) p) first

-- the longest defence: the first reply after which the attacker does not mate within j moves
abbrev pub longest_defence : Setup → ℕ → Option Move
longest_defence q j = find (λ r. not (win j (after_setup q r))) (legal_moves q)

-- the longest defence, with j + 1 moves left to the attacker, and the rest after it; nothing with no move left
abbrev pub defence : ℕ → (Setup → List Move) → Setup → List Move
defence zero rest q = []
defence (suc j) rest q = option_map_or (λ r. r ∷ rest (after_setup q r)) (longest_defence q j) []

-- The variation to a mate within n moves: the first of the keys, of the replies that last longest the first, and so on, with
-- every legal move to choose from after the first.
unfoldable pub variation : List Move → Setup → ℕ → List Move
variation first p zero = []
variation first p (suc n) = option_map_or (λ m. m ∷ defence n (λ s. variation (legal_moves s) s n) (after_setup p m)) (least_key first p (suc n)) []

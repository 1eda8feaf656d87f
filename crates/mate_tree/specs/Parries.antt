-- Which replies parry what is threatened (own to this project, as chess magazines print solutions).
use Rattle.std.specs.Prelude.{◌⊎◌, ℕ, ◌-◌, List, [], filter, Bool, ◌&&◌, not, Contains}
use Rattle.std.specs.List.{list_any}
use Rattle.std.specs.Option.{option_map_or}
use Rattle.chess_board.specs.Legality.{is_legal}
use Rattle.chess_board.specs.Positions.{Setup}
use Rattle.chess_board.specs.Moves.{Move}
use Rattle.chess_board.specs.MakeMove.{after_setup}
use Rattle.chess_moves.specs.inside.Listing.{legal_moves}
use Rattle.mate_search.specs.Wins.{leaves_lost}
use Rattle.mate_search.specs.PrincipalVariation.{IsKey}
use Rattle.mate_tree.specs.Passing.{passed}
use Rattle.mate_tree.specs.Continuations.{keys_of, soonest}

-- what is threatened with k moves left to the attacker: all that would mate soonest, were the defender to pass. There is none where it is in
-- check, or in zugzwang.
abbrev pub threats : ℕ → Setup → List Move
threats k q = option_map_or (λ p. keys_of (soonest k p)) (passed q) []

-- A threat still mates within k moves: it is legal, and leaves the defender lost with the others.
abbrev pub still_mates : ℕ → Setup → Move → Bool
still_mates k p t = is_legal p t && leaves_lost (k - 1) p t

-- One of these still mates.
abbrev pub is_met : ℕ → List Move → Setup → Bool
is_met k ts p = list_any (still_mates k p) ts

-- After the reply no threat still mates.
abbrev pub parries : ℕ → Setup → Move → Bool
parries k q r = not (is_met k (threats k q) (after_setup q r))

-- the replies that parry, in move order: all, where nothing is threatened
unfoldable pub parrying : ℕ → Setup → List Move
parrying k q = filter (parries k q) (legal_moves q)

-- No defence is missed: a reply parries exactly where it is legal, and no threat is a key of a mate within k moves after it. To each other
-- reply there is such a threat.
abbrev pub ParriesRead : Type 0
ParriesRead = (k : ℕ) (q : Setup) (r : Move) → Contains (legal_moves q) r →
    (Contains (parrying k q) r × ((t : Move) → Contains (threats k q) t → ¬ IsKey (legal_moves (after_setup q r)) (after_setup q r) k t))
    ⊎ ((¬ Contains (parrying k q) r) × ((t : Move) × Contains (threats k q) t × IsKey (legal_moves (after_setup q r)) (after_setup q r) k t))

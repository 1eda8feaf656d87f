-- The shares of the first moves, and their sum.
use Rattle.std.proofs.Common.{◌≡◌, ℕ, zero, suc, ◌-◌, ◌<◌, List, [], ◌∷◌, length, map, flat_map, sum_by, refl, arith}
use Rattle.std.proofs.lemmas.List.{length-append, length-map}
use Rattle.std.proofs.lemmas.List.Sums.{sum_by-cons}
use Rattle.chess_board.specs.MakeMove.{after_setup}
use Rattle.chess_board.specs.Moves.{Move}
use Rattle.chess_board.specs.Positions.{Setup}
use Rattle.chess_moves.specs.inside.Listing.{legal_moves}
use Rattle.chess_moves.specs.Plays.{plays}
use Rattle.chess_views.specs.Counts.{DivisionSums, count_behind, share_line, shares_text}

abbrev lines_from : Setup → ℕ → Move → List (List Move)
lines_from p d m = map (λ line. m ∷ line) (plays (after_setup p m) d)

sum_of : (p : Setup) (d : ℕ) (ms : List Move) → sum_by (count_behind p d) ms ≡ length (flat_map (lines_from p d) ms)
sum_of p d [] = refl
sum_of p d (m ∷ ms) =
    let first = sum_by-cons (count_behind p d) m ms in
    let rest = sum_of p d ms in
    let both = length-append (lines_from p d m) (flat_map (lines_from p d) ms) in
    let here = length-map (plays (after_setup p m) d) (λ line. m ∷ line) in
    omega (arith, first, rest, both, here)

pub division_sums : DivisionSums
unfolding plays
division_sums p d = sum_of p d (legal_moves p)

pub shares_of : (p : Setup) (d : ℕ) → 0 < d → shares_text p d ≡ flat_map (share_line p (d - 1)) (legal_moves p)
unfolding shares_text
shares_of p zero some = absurd (omega arith)
shares_of p (suc d) some = let e : suc d - 1 ≡ d = omega arith in rw e refl

pub shares_none : (p : Setup) (d : ℕ) → d ≡ 0 → shares_text p d ≡ []
unfolding shares_text
shares_none p d none = rw none refl

-- The line of no moves is one.
pub plays_none : (p : Setup) (d : ℕ) → d ≡ 0 → length (plays p d) ≡ 1
unfolding plays
plays_none p d none = rw none refl

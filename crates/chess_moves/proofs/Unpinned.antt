-- A man that opens no attack on its king where it goes need only answer the checks that there are.
use Rattle.std.proofs.Common.{◌≡◌, ℕ, ◌<◌, false, not, ◌&&◌, List, length, Option, None, Some, set, sym, ap, ◌∙◌, length-set}
use Rattle.chess_board.specs.declared.men.Colour.{Colour}
use Rattle.chess_board.specs.declared.men.Man.{Man}
use Rattle.chess_board.specs.Squares.{some_square}
use Rattle.chess_board.specs.Men.{is_colour}
use Rattle.chess_board.specs.Positions.{moved}
use Rattle.chess_moves.specs.inside.Hits.{hits_from, is_hit}
use Rattle.chess_moves.specs.inside.LegalityInfo.{gets_through}
use Rattle.chess_moves.proofs.AnyLemmas.{any_same}
use Rattle.chess_moves.proofs.Placed.{attacks_placed}

pub safe_unpinned : (men : List (Option Man)) (man : Man) (k o t : ℕ) (by : Colour)
    → length men ≡ 64 → t < 64 → is_colour by man.colour ≡ false
    → ((a : ℕ) → a < 64 → hits_from (set men o None) by a k ≡ hits_from men by a k)
    → not (some_square (λ a. hits_from men by a k && gets_through a k t)) ≡ not (is_hit (moved men o t man) k by)
unfolding is_hit
safe_unpinned men man k o t by len on own still =
    let gone : List (Option Man) = set men o None in
    let len1 : length gone ≡ 64 = simp length-set len in
    ap not (any_same (λ a. hits_from men by a k && gets_through a k t) (λ a. hits_from (set gone t (Some man)) by a k) 64
    (λ a l. ap (λ x. x && gets_through a k t) (sym (still a l))
    ∙ sym (attacks_placed gone t man by a k len1 on own)))

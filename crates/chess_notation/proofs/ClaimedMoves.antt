-- The moves that are claimed, found by their texts.
use Rattle.std.proofs.Common.{◌≡◌, ℕ, List, [], ◌∷◌, Bool, true, false, cond, filter, refl, Some, None}
use Rattle.std.specs.Prelude.{Contains}
use Rattle.std.specs.List.{list_any, list_all}
use Rattle.chess_board.specs.Positions.{Setup}
use Rattle.chess_board.specs.Moves.{Move}
use Rattle.chess_moves.specs.inside.Listing.{legal_moves}
use Rattle.chess_problems.specs.Outcomes.{AreLegal}
use Rattle.chess_notation.specs.declared.claims.ClaimFault.TheVariants.{NoSuchMove}
use Rattle.chess_notation.specs.AvoidMoves.{names, named}
use Rattle.chess_notation.specs.Claims.{is_claim, is_some_if_length, is_small_if_length, claims_fault}
use Rattle.chess_notation.proofs.Members.{in_front, in_back}

-- The fault of the claims where the first two tests pass, by the third.
pub fault_third : (p : Setup) (words : List (List ℕ)) → list_all is_some_if_length words ≡ true
    → list_all is_small_if_length words ≡ true → list_all (is_claim p) words ≡ false
    → claims_fault p words ≡ Some NoSuchMove
fault_third p words some small each = rw (some, small, each) refl

pub fault_none : (p : Setup) (words : List (List ℕ)) → list_all is_some_if_length words ≡ true
    → list_all is_small_if_length words ≡ true → list_all (is_claim p) words ≡ true
    → claims_fault p words ≡ None
fault_none p words some small each = rw (some, small, each) refl

-- Those of the legal moves that are named are legal.
legal_kept : (p : Setup) (f : Move → Bool) (ms : List Move) → AreLegal p ms → AreLegal p (filter f ms)
legal_kept p f [] h = tt
legal_kept p f (m ∷ ms) h =
    let rest = legal_kept p f ms h.1 in
    elim (f m) as (λ b. AreLegal p (cond b (m ∷ filter f ms) (filter f ms))) [ true ↦ (h.0, rest) | false ↦ rest ]

each_legal : (p : Setup) (ms : List Move) → ((m : Move) → Contains ms m → Contains (legal_moves p) m) → AreLegal p ms
each_legal p [] h = tt
each_legal p (m ∷ ms) h = (h m (in_front m ms), each_legal p ms (λ n inside. h n (in_back m ms n inside)))

pub named_legal : (p : Setup) (words : List (List ℕ)) → AreLegal p (named p words)
unfolding named
named_legal p words = legal_kept p (λ m. list_any (λ word. names p word m) words) (legal_moves p) (each_legal p (legal_moves p) (λ m inside. inside))

-- Each of the keys is legal.
use Rattle.std.proofs.Common.{◌≡◌, true, ℕ, zero, suc, ◌<◌, List, [], ◌∷◌, length, get_or, Contains, arith, subst, sym}
use Rattle.chess_board.specs.Positions.{Setup}
use Rattle.chess_board.specs.Moves.{Move}
use Rattle.chess_board.specs.Legality.{is_legal}
use Rattle.chess_moves.specs.inside.Listing.{legal_moves}
use Rattle.chess_moves.specs.Laws.{LegalListed}
use Rattle.chess_problems.specs.Outcomes.{AreLegal}

listed_at : (p : Setup) (keys : List Move) (i : ℕ) (d : Move) → i < length keys → AreLegal p keys → Contains (legal_moves p) (get_or keys i d)
listed_at p [] i d here legal = absurd (omega arith)
listed_at p (m ∷ ms) zero d here legal = legal.0
listed_at p (m ∷ ms) (suc i) d here legal = listed_at p ms i d (omega arith) legal.1

pub legal_at : LegalListed → (p : Setup) (keys : List Move) (i : ℕ) (m : Move) → i < length keys
    → m ≡ get_or keys i m → AreLegal p keys → is_legal p m ≡ true
legal_at listed p keys i m here at legal =
    (((listed p m).0) (subst (λ (n : Move). Contains (legal_moves p) n) (sym at) (listed_at p keys i m here legal))).2

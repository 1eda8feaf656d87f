-- Each of a list of legal moves is legal, and so is each legal move by itself.
use Rattle.std.proofs.Common.{◌≡◌, true, ℕ, zero, suc, ◌<◌, List, [], ◌∷◌, length, get_or, Contains, arith, subst, sym}
use Rattle.std.proofs.lemmas.List.Elements.{All-contains_itself}
use Rattle.chess_board.specs.Positions.{Setup}
use Rattle.chess_board.specs.Moves.{Move}
use Rattle.chess_board.specs.Legality.{is_legal}
use Rattle.chess_moves.specs.inside.Listing.{legal_moves}
use Rattle.chess_moves.specs.Laws.{LegalListed}
use Rattle.chess_problems.specs.Outcomes.{AreLegal}

listed_at : (p : Setup) (ms : List Move) (i : ℕ) (d : Move) → i < length ms → AreLegal p ms → Contains (legal_moves p) (get_or ms i d)
listed_at p [] i d here legal = absurd (omega arith)
listed_at p (m ∷ ms) zero d here legal = legal.0
listed_at p (m ∷ ms) (suc i) d here legal = listed_at p ms i d (omega arith) legal.1

pub legal_at : LegalListed → (p : Setup) (ms : List Move) (i : ℕ) (m : Move) → i < length ms → m ≡ get_or ms i m → AreLegal p ms → is_legal p m ≡ true
legal_at listed p ms i m here at legal =
    (((listed p m).0) (subst (λ (n : Move). Contains (legal_moves p) n) (sym at) (listed_at p ms i m here legal))).2

pub legal_item : LegalListed → (p : Setup) (ms : List Move) (i : ℕ) (m : Move) → i < length ms → m ≡ get_or ms i m
    → ms ≡ legal_moves p → is_legal p m ≡ true
legal_item listed p ms i m here at all =
    let own = subst (λ (n : Move). Contains ms n) (sym at) (All-contains_itself ms i m here) in
    ((listed p m).0 (subst (λ (ns : List Move). Contains ns m) all own)).2

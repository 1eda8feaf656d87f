-- The lines of play are exactly the lists of moves that are legal one after the other.
use Rattle.std.proofs.Common.{◌≡◌, ℕ, zero, suc, List, [], ◌∷◌, length, map, refl, sym, ap, arith, inl, inr}
use Rattle.std.specs.Prelude.{Contains}
use Rattle.std.specs.List.{flat_map}
use Rattle.std.proofs.lemmas.List.Elements.{Contains-append_left, Contains-append_right, Contains-append_cases}
use Rattle.chess_board.specs.Positions.{Setup}
use Rattle.chess_board.specs.Moves.{Move}
use Rattle.chess_board.specs.MakeMove.{after_setup}
use Rattle.chess_moves.specs.inside.Listing.{legal_moves}
use Rattle.chess_moves.specs.Plays.{plays}
use Rattle.chess_moves.specs.Laws.{IsLine, PlaysListed}
use Rattle.chess_moves.proofs.Listed.{legal_listed}

-- the lines that begin with this move
abbrev pub begun : Move → List (List Move) → List (List Move)
begun m lines = map (λ line. m ∷ line) lines

begun_has : (m : Move) (lines : List (List Move)) (line : List Move) → Contains lines line → Contains (begun m lines) (m ∷ line)
begun_has m [] line (k, on, e) = absurd (omega arith)
begun_has m (x ∷ xs) line (zero, on, e) = (0, omega arith, ap (λ (l : List Move). m ∷ l) e)
begun_has m (x ∷ xs) line (suc k, on, e) = Contains-append_right ((m ∷ x) ∷ []) (begun m xs) (m ∷ line) (begun_has m xs line (k, omega arith, e))

pub begun_in : (m : Move) (lines : List (List Move)) (line : List Move) → Contains (begun m lines) line
    → (rest : List Move) × Contains lines rest × (line ≡ m ∷ rest)
begun_in m [] line (k, on, e) = absurd (omega arith)
begun_in m (x ∷ xs) line (zero, on, e) = (x, (0, omega arith, refl), sym e)
begun_in m (x ∷ xs) line (suc k, on, e) =
    let r = begun_in m xs line (k, omega arith, e) in
    (r.0, Contains-append_right (x ∷ []) xs r.0 r.1, r.2)

module _ (f : Move → List (List Move)) where
  abbrev pub lines_of : List Move → List (List Move)
  lines_of ms = flat_map (λ m. begun m (f m)) ms

  lines_have : (ms : List Move) (m : Move) (line : List Move) → Contains ms m → Contains (f m) line → Contains (lines_of ms) (m ∷ line)
  lines_have [] m line (k, on, e) c = absurd (omega arith)
  lines_have (x ∷ xs) m line (zero, on, e) c = rw e (Contains-append_left (begun m (f m)) (lines_of xs) (m ∷ line) (begun_has m (f m) line c))
  lines_have (x ∷ xs) m line (suc k, on, e) c =
      Contains-append_right (begun x (f x)) (lines_of xs) (m ∷ line) (lines_have xs m line (k, omega arith, e) c)

  pub lines_in : (ms : List Move) (line : List Move) → Contains (lines_of ms) line
      → (m : Move) × (rest : List Move) × Contains ms m × Contains (f m) rest × (line ≡ m ∷ rest)
  lines_in [] line (k, on, e) = absurd (omega arith)
  lines_in (x ∷ xs) line c = elim (Contains-append_cases (begun x (f x)) (lines_of xs) line c) [
    | inl h ↦ let r = begun_in x (f x) line h in (x, r.0, (0, omega arith, refl), r.1, r.2)
    | inr h ↦ let r = lines_in xs line h in (r.0, r.1, Contains-append_right (x ∷ []) xs r.0 r.2, r.3, r.4)
  ]

plays_in : (d : ℕ) (p : Setup) (ms : List Move) → Contains (plays p d) ms → (length ms ≡ d) × IsLine p ms
unfolding plays
plays_in zero p ms (zero, on, e) = rw (sym e) (refl, tt)
plays_in zero p ms (suc k, on, e) = absurd (omega arith)
plays_in (suc d) p ms c =
    let r = lines_in (λ m. plays (after_setup p m) d) (legal_moves p) ms c in
    let rest = plays_in d (after_setup p r.0) r.1 r.3 in
    rw r.4 (ap suc rest.0, ((legal_listed p r.0).0 r.2, rest.1))

plays_have : (d : ℕ) (p : Setup) (ms : List Move) → length ms ≡ d → IsLine p ms → Contains (plays p d) ms
unfolding plays
plays_have zero p [] h line = (0, omega arith, refl)
plays_have zero p (m ∷ ms) h line = absurd (omega arith)
plays_have (suc d) p [] h line = absurd (omega arith)
plays_have (suc d) p (m ∷ ms) h line =
    lines_have (λ m. plays (after_setup p m) d) (legal_moves p) m ms ((legal_listed p m).1 line.0)
    (plays_have d (after_setup p m) ms (omega arith) line.1)

pub plays_listed : PlaysListed
plays_listed p d ms = (plays_in d p ms, λ h. plays_have d p ms h.0 h.1)

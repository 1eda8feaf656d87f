-- After a move no pawn stands on rank 1 or 8.
use Rattle.std.proofs.Common.{◌≡◌, ◌≢◌, ℕ, ◌+◌, ◌<◌, true, false, Option, Some, None, refl, ◌∙◌, inl, inr, arith}
use Rattle.std.proofs.lemmas.Bool.{eqb-true, eqb-false, lt-ltb, not-true}
use Rattle.chess_board.specs.declared.men.Colour.{Colour}
use Rattle.chess_board.specs.declared.men.Colour.TheVariants.{White, Black}
use Rattle.chess_board.specs.declared.men.Kind.{Kind}
use Rattle.chess_board.specs.declared.men.Kind.TheVariants.{Pawn, Knight, Bishop, Rook, Queen, King}
use Rattle.chess_board.specs.declared.men.Wing.{Wing}
use Rattle.chess_board.specs.declared.men.Wing.TheVariants.{KingSide, QueenSide}
use Rattle.chess_board.specs.declared.men.Man.{Man}
use Rattle.chess_board.specs.Moves.{Move}
use Rattle.chess_board.specs.Squares.{rank_of, crossed}
use Rattle.chess_board.specs.Positions.{Setup, man_at, moved, cleared}
use Rattle.chess_board.specs.Men.{man_of}
use Rattle.chess_board.specs.Attacks.{is_forward}
use Rattle.chess_board.specs.Soundness.{is_no_end_pawn, has_no_end_pawn}
use Rattle.chess_board.specs.PseudoLegal.{goes, promotes, suits}
use Rattle.chess_board.specs.MakeMove.{becomes, men_after}
use Rattle.chess_board.specs.Castling.{rook_home, rook}
use Rattle.chess_board.specs.EnPassant.{captured_pawn}
use Rattle.chess_board.proofs.Below.{all_yes, all_from}
use Rattle.chess_board.proofs.MenMoved.{length-moved, each_moved, each_cleared}
use Rattle.chess_board.proofs.Movers.{a_man, Mover, IsCastling, Shape, own_apart, empty_apart}
use Rattle.chess_board.proofs.PawnShapes.{pawn_steps, twice_parts}
use Rattle.chess_board.proofs.AfterCounts.{castling_apart, promoted_kind}

abbrev IsNoEndPawn : Option Man → ℕ → Type 0
IsNoEndPawn place s = is_no_end_pawn place s ≡ true

pawn_inside : (b : ℕ) → 0 < rank_of b → rank_of b < 7 → is_no_end_pawn (man_of White Pawn) b ≡ true
pawn_inside b low high = let x = lt-ltb 0 (rank_of b) low in let y = lt-ltb (rank_of b) 7 high in rw (x, y) refl

-- A pawn that goes forward and not to its last rank ends between rank 2 and rank 7.
forward_inside : (colour : Colour) (n a b : ℕ) → a < 64 → b < 64 → 0 < n → is_forward colour n a b ≡ true
    → promotes (a_man colour Pawn) b ≡ false → (0 < rank_of b) × (rank_of b < 7)
forward_inside White n a b a_on b_on some forward last =
    let r = eqb-true (rank_of b) (rank_of a + n) forward in
    let no : rank_of b ≢ 7 = eqb-false (rank_of b) 7 last in (omega arith, omega arith)
forward_inside Black n a b a_on b_on some forward last =
    let r = eqb-true (rank_of a) (rank_of b + n) forward in
    let no : rank_of b ≢ 0 = eqb-false (rank_of b) 0 last in (omega arith, omega arith)

-- The man that stands on the target afterwards is no pawn on an end rank.
new_inside : (p : Setup) (colour : Colour) (kind : Kind) (m : Move) → Mover p colour kind m
    → IsNoEndPawn (Some (becomes (a_man colour kind) m.promotion)) m.target
new_inside p colour kind m h = go kind m.promotion h.suit h.goes
  where
    pawn : promotes (a_man colour Pawn) m.target ≡ false → goes p colour Pawn m.origin m.target ≡ true
        → (0 < rank_of m.target) × (rank_of m.target < 7)
    pawn last goes = elim (pawn_steps p colour m.origin m.target goes) [
      | inl one ↦ forward_inside colour 1 m.origin m.target h.a_on h.b_on (omega arith) one last
      | inr two ↦ forward_inside colour 2 m.origin m.target h.a_on h.b_on (omega arith) ((twice_parts p.men colour m.origin m.target two).0) last
    ]

    go : (kind : Kind) (o : Option Kind) → suits (a_man colour kind) m.target o ≡ true
        → goes p colour kind m.origin m.target ≡ true → IsNoEndPawn (Some (becomes (a_man colour kind) o)) m.target
    go Pawn None suit goes = let i = pawn (not-true (promotes (a_man colour Pawn) m.target) suit) goes in pawn_inside m.target i.0 i.1
    go Knight None suit goes = refl
    go Bishop None suit goes = refl
    go Rook None suit goes = refl
    go Queen None suit goes = refl
    go King None suit goes = refl
    go other (Some Pawn) suit goes = let q = promoted_kind colour other m.target Pawn suit in let x = q.1 in cc
    go other (Some Knight) suit goes = refl
    go other (Some Bishop) suit goes = refl
    go other (Some Rook) suit goes = refl
    go other (Some Queen) suit goes = refl
    go other (Some King) suit goes = refl

each_moved_man : (p : Setup) (colour : Colour) (kind : Kind) (m : Move) → Mover p colour kind m → m.target ≢ m.origin → (s : ℕ) → s < 64 →
    IsNoEndPawn (man_at (moved p.men m.origin m.target (becomes (a_man colour kind) m.promotion)) s) s
each_moved_man p colour kind m h apart =
    each_moved IsNoEndPawn p.men m.origin m.target (becomes (a_man colour kind) m.promotion) h.sound.squares h.b_on apart
    (λ s on. all_yes (λ x. is_no_end_pawn (man_at p.men x) x) 64 s h.sound.pawns on) (λ s. refl) (new_inside p colour kind m h)

castling_pawns : (wing : Wing) (p : Setup) (colour : Colour) (kind : Kind) (m : Move) → Mover p colour kind m
    → IsCastling p colour kind m wing → has_no_end_pawn (men_after p (a_man colour kind) m) ≡ true
castling_pawns wing p colour kind m h s =
    let men' = moved p.men m.origin m.target (a_man colour kind) in
    let r = rook_home colour wing in let x = crossed m.origin m.target in
    let far = castling_apart colour wing m.origin m.target s.origin s.target in
    let each = rw s.unpromoted at (each_moved_man p colour kind m h (empty_apart p.men colour kind m.origin m.target h.there s.empty)) in
    rw s.men (all_from (λ y. is_no_end_pawn (man_at (moved men' r x (rook colour)) y) y) 64
    (each_moved IsNoEndPawn men' r x (rook colour) (length-moved _ _ _ _ ∙ h.sound.squares) far.1 far.6 each (λ y. refl) refl))

pub pawns_after : (p : Setup) (colour : Colour) (kind : Kind) (m : Move) → Mover p colour kind m → Shape p colour kind m
    → has_no_end_pawn (men_after p (a_man colour kind) m) ≡ true
pawns_after p colour kind m h (inl s) =
    rw s.men (all_from (λ x. is_no_end_pawn (man_at (moved p.men m.origin m.target (becomes (a_man colour kind) m.promotion)) x) x) 64
    (each_moved_man p colour kind m h (own_apart p.men colour kind m.origin m.target h.there s.not_own)))
pawns_after p colour kind m h (inr (inl s)) =
    let men' = moved p.men m.origin m.target (a_man colour kind) in let k = captured_pawn m.origin m.target in
    let each = rw s.unpromoted at (each_moved_man p colour kind m h (empty_apart p.men colour kind m.origin m.target h.there s.empty)) in
    rw s.men (all_from (λ x. is_no_end_pawn (man_at (cleared men' k) x) x) 64
    (each_cleared IsNoEndPawn men' k (length-moved _ _ _ _ ∙ h.sound.squares) each (λ x. refl)))
pawns_after p colour kind m h (inr (inr (inl s))) = castling_pawns KingSide p colour kind m h s
pawns_after p colour kind m h (inr (inr (inr s))) = castling_pawns QueenSide p colour kind m h s

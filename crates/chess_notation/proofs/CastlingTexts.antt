-- Castling is known by its wing.
use Rattle.std.proofs.Common.{◌≡◌, ℕ, true, false, not, ◌&&◌, eqb, List, Option, length, refl, sym, ap, ◌∙◌, inl, inr, arith}
use Rattle.std.proofs.lemmas.Bool.{and_parts, or_cases, eqb-true}
use Rattle.std.proofs.lemmas.Bool.Decides.{nat_tests}
use Rattle.chess_board.specs.declared.men.Colour.{Colour}
use Rattle.chess_board.specs.declared.men.Colour.TheVariants.{White, Black}
use Rattle.chess_board.specs.declared.men.Kind.{Kind}
use Rattle.chess_board.specs.declared.men.Kind.TheVariants.{Pawn, Knight, Bishop, Rook, Queen, King}
use Rattle.chess_board.specs.declared.men.Wing.{Wing}
use Rattle.chess_board.specs.declared.men.Wing.TheVariants.{KingSide, QueenSide}
use Rattle.chess_board.specs.declared.men.Man.{Man}
use Rattle.chess_board.specs.Moves.{Move}
use Rattle.chess_board.specs.Squares.{file_gap, crossed}
use Rattle.chess_board.specs.Positions.{Setup, man_at}
use Rattle.chess_board.specs.Men.{other_side, is_of, has_right_of}
use Rattle.chess_board.specs.inside.KindTests.{is_king_kind}
use Rattle.chess_board.specs.Attacks.{is_clear, attacks_as, is_attacked}
use Rattle.chess_board.specs.PseudoLegal.{piece_goes, goes}
use Rattle.chess_board.specs.Castling.{king_home, rook_home, king_goal, castles_to, castles, is_castling, wing_of}
use Rattle.chess_notation.specs.SanText.{wing_text}

king_near : (men : List (Option Man)) (colour : Colour) (a b : ℕ) → attacks_as men colour King a b ≡ true → eqb (file_gap a b) 2 ≡ false
king_near men colour a b h = grind (arith, nat_tests)

castling_squares : (p : Setup) (colour : Colour) (wing : Wing) (a b : ℕ) → castles_to p colour wing a b ≡ true
    → (a ≡ king_home colour) × (b ≡ king_goal colour wing)
castling_squares p colour wing a b h =
    let right = has_right_of p.rights colour wing in
    let home = eqb a (king_home colour) in
    let goal = eqb b (king_goal colour wing) in
    let clear = is_clear p.men a (rook_home colour wing) in
    let out = not (is_attacked p.men a (other_side colour)) in
    let over = not (is_attacked p.men (crossed a b) (other_side colour)) in
    let last = not (is_attacked p.men b (other_side colour)) in
    let q = and_parts (right && home && goal && clear && out && over) last h in
    let r = and_parts (right && home && goal && clear && out) over q.0 in
    let s = and_parts (right && home && goal && clear) out r.0 in
    let u = and_parts (right && home && goal) clear s.0 in
    let v = and_parts (right && home) goal u.0 in
    let w = and_parts right home v.0 in
    (eqb-true a (king_home colour) w.1, eqb-true b (king_goal colour wing) v.1)

wing_of-king_goal : (colour : Colour) (wing : Wing) (a b : ℕ) → a ≡ king_home colour → b ≡ king_goal colour wing → wing_of a b ≡ wing
wing_of-king_goal White KingSide a b e f = rw (e, f) refl
wing_of-king_goal White QueenSide a b e f = rw (e, f) refl
wing_of-king_goal Black KingSide a b e f = rw (e, f) refl
wing_of-king_goal Black QueenSide a b e f = rw (e, f) refl

on_wing : (p : Setup) (colour : Colour) (wing : Wing) (a b : ℕ) → castles_to p colour wing a b ≡ true
    → (a ≡ king_home colour) × (b ≡ king_goal colour (wing_of a b))
on_wing p colour wing a b h =
    let at = castling_squares p colour wing a b h in
    (at.0, at.1 ∙ ap (king_goal colour) (sym (wing_of-king_goal colour wing a b at.0 at.1)))

-- The king that goes two files goes from its home to the goal of that wing.
castles_home : (p : Setup) (colour : Colour) (kind : Kind) (a b : ℕ) → goes p colour kind a b ≡ true
    → (is_king_kind kind && eqb (file_gap a b) 2) ≡ true →
    (a ≡ king_home colour) × (b ≡ king_goal colour (wing_of a b))
castles_home p colour Pawn a b h two = cc
castles_home p colour Knight a b h two = cc
castles_home p colour Bishop a b h two = cc
castles_home p colour Rook a b h two = cc
castles_home p colour Queen a b h two = cc
castles_home p colour King a b h two = elim (or_cases (piece_goes p colour King a b) (castles p colour a b) h) [
  | inl g ↦
      let q = and_parts (attacks_as p.men colour King a b) (not (is_of colour (man_at p.men b))) g in
      let near = king_near p.men colour a b q.0 in
      let never = rw near at two in cc
  | inr g ↦ elim (or_cases (castles_to p colour KingSide a b) (castles_to p colour QueenSide a b) g) [
    | inl g ↦ on_wing p colour KingSide a b g
    | inr g ↦ on_wing p colour QueenSide a b g
  ]
]

wing_same : (a b : Wing) → wing_text a ≡ wing_text b → a ≡ b
wing_same KingSide KingSide e = refl
wing_same KingSide QueenSide e = let lengths = ap length e in absurd (omega arith)
wing_same QueenSide KingSide e = let lengths = ap length e in absurd (omega arith)
wing_same QueenSide QueenSide e = refl

pub castling_same : (p : Setup) (man : Man) (m n : Move) → goes p man.colour man.kind m.origin m.target ≡ true
    → goes p man.colour man.kind n.origin n.target ≡ true →
    is_castling man m ≡ true → is_castling man n ≡ true → wing_text (wing_of m.origin m.target)
    ≡ wing_text (wing_of n.origin n.target) → (m.origin ≡ n.origin) × (m.target ≡ n.target)
castling_same p man m n goes_m goes_n castles_m castles_n texts =
    let wings = wing_same (wing_of m.origin m.target) (wing_of n.origin n.target) texts in
    let at_m = castles_home p man.colour man.kind m.origin m.target goes_m castles_m in
    let at_n = castles_home p man.colour man.kind n.origin n.target goes_n castles_n in
    (at_m.0 ∙ sym at_n.0, at_m.1 ∙ ap (king_goal man.colour) wings ∙ sym at_n.1)

-- A piece's move is plain, a king's is plain or castling, and with the pawns' each move has a shape.
use Rattle.std.proofs.Common.{◌≡◌, ℕ, ◌<◌, Bool, true, false, not, ◌&&◌, ◌||◌, eqb, List, Option, None, refl, inl, inr, arith}
use Rattle.std.proofs.lemmas.Bool.{and_parts, or_cases, eqb-true, not-true}
use Rattle.std.proofs.lemmas.Bool.Decides.{nat_tests}
use Rattle.chess_board.specs.declared.men.Colour.{Colour}
use Rattle.chess_board.specs.declared.men.Colour.TheVariants.{White, Black}
use Rattle.chess_board.specs.declared.men.Kind.{Kind}
use Rattle.chess_board.specs.declared.men.Kind.TheVariants.{Pawn, Knight, Bishop, Rook, Queen, King}
use Rattle.chess_board.specs.declared.men.Wing.{Wing}
use Rattle.chess_board.specs.declared.men.Wing.TheVariants.{KingSide, QueenSide}
use Rattle.chess_board.specs.declared.men.Man.{Man}
use Rattle.chess_board.specs.Moves.{Move}
use Rattle.chess_board.specs.Squares.{file_gap, crossed}
use Rattle.chess_board.specs.Positions.{Setup, man_at, is_empty, moved}
use Rattle.chess_board.specs.Men.{other_side, is_of, has_right_of}
use Rattle.chess_board.specs.inside.KindTests.{is_king_of, is_rook_of}
use Rattle.chess_board.specs.Attacks.{is_clear, is_between, attacks_as, is_attacked}
use Rattle.chess_board.specs.Soundness.{IsSound, has_men_of_right}
use Rattle.chess_board.specs.PseudoLegal.{piece_goes}
use Rattle.chess_board.specs.MakeMove.{becomes, men_after}
use Rattle.chess_board.specs.Castling.{king_home, rook_home, king_goal, castles_to, castles, rook}
use Rattle.chess_board.proofs.Below.{all_yes}
use Rattle.chess_board.proofs.Conjunctions.{all_four}
use Rattle.chess_board.proofs.Movers.{a_man, Mover, IsPlain, IsCastling, Shape, attacks_no_king, stays_unpromoted}
use Rattle.chess_board.proofs.PawnShapes.{pawn_shape}
use Rattle.chess_board.proofs.Walk.{empty_reads}

piece_shape : (p : Setup) (colour : Colour) (kind : Kind) (m : Move) → Mover p colour kind m →
    men_after p (a_man colour kind) m ≡ moved p.men m.origin m.target (becomes (a_man colour kind) m.promotion)
    → piece_goes p colour kind m.origin m.target ≡ true → IsPlain p colour kind m
piece_shape p colour kind m h men goes =
    let q = and_parts (attacks_as p.men colour kind m.origin m.target) (not (is_of colour (man_at p.men m.target))) goes in
    record {
      men = men;
      not_own = not-true (is_of colour (man_at p.men m.target)) q.1;
      not_king = attacks_no_king p colour kind m h q.0;
    }

king_near : (men : List (Option Man)) (colour : Colour) (a b : ℕ) → attacks_as men colour King a b ≡ true → eqb (file_gap a b) 2 ≡ false
king_near men colour a b h = grind (arith, nat_tests)

-- A right has its king and its rook at home.
pub right_men : (p : Setup) (colour : Colour) (wing : Wing) → IsSound p → has_right_of p.rights colour wing ≡ true →
    (is_king_of colour (man_at p.men (king_home colour)) ≡ true) × (is_rook_of colour (man_at p.men (rook_home colour wing)) ≡ true)
right_men p colour wing sound right =
    let has : Colour → Wing → Bool = has_men_of_right p.men p.rights in
    let all = all_four (has White KingSide) (has White QueenSide) (has Black KingSide) (has Black QueenSide) sound.rights in
    let one : has_men_of_right p.men p.rights colour wing ≡ true = pick colour wing all.0 all.1 all.2 all.3 in
    and_parts (is_king_of colour (man_at p.men (king_home colour))) (is_rook_of colour (man_at p.men (rook_home colour wing))) (rw right at one)
  where
    pick : (colour : Colour) (wing : Wing) → has_men_of_right p.men p.rights White KingSide ≡ true
        → has_men_of_right p.men p.rights White QueenSide ≡ true →
        has_men_of_right p.men p.rights Black KingSide ≡ true → has_men_of_right p.men p.rights Black QueenSide ≡ true
        → has_men_of_right p.men p.rights colour wing ≡ true
    pick White KingSide a b c d = a
    pick White QueenSide a b c d = b
    pick Black KingSide a b c d = c
    pick Black QueenSide a b c d = d

castling_men : (p : Setup) (colour : Colour) (wing : Wing) (m : Move) → m.origin ≡ king_home colour → m.target ≡ king_goal colour wing →
    men_after p (a_man colour King) m ≡ moved (moved p.men m.origin m.target (a_man colour King)) (rook_home colour wing)
    (crossed m.origin m.target) (rook colour)
castling_men p White KingSide m e f = rw (e, f) refl
castling_men p White QueenSide m e f = rw (e, f) refl
castling_men p Black KingSide m e f = rw (e, f) refl
castling_men p Black QueenSide m e f = rw (e, f) refl

-- The king's goal, and the square that it crosses, lie between king and rook.
castling_between : (colour : Colour) (wing : Wing) → (is_between (king_home colour) (rook_home colour wing) (king_goal colour wing) ≡ true)
    × (is_between (king_home colour) (rook_home colour wing) (crossed (king_home colour) (king_goal colour wing)) ≡ true)
    × (king_goal colour wing < 64) × (crossed (king_home colour) (king_goal colour wing) < 64)
castling_between White KingSide = (refl, refl, omega arith, omega arith)
castling_between White QueenSide = (refl, refl, omega arith, omega arith)
castling_between Black KingSide = (refl, refl, omega arith, omega arith)
castling_between Black QueenSide = (refl, refl, omega arith, omega arith)

clear_at : (men : List (Option Man)) (a b s : ℕ) → is_clear men a b ≡ true → s < 64 → is_between a b s ≡ true → man_at men s ≡ None
clear_at men a b s clear on between =
    let h = all_yes (λ x. not (is_between a b x) || is_empty men x) 64 s clear on in
    empty_reads men s (rw between at h)

castling_parts : (p : Setup) (colour : Colour) (wing : Wing) (a b : ℕ) → castles_to p colour wing a b ≡ true →
    (has_right_of p.rights colour wing ≡ true) × (a ≡ king_home colour) × (b ≡ king_goal colour wing)
    × (is_clear p.men a (rook_home colour wing) ≡ true)
castling_parts p colour wing a b goes =
    let right = has_right_of p.rights colour wing in
    let home = eqb a (king_home colour) in
    let goal = eqb b (king_goal colour wing) in
    let clear = is_clear p.men a (rook_home colour wing) in
    let out = not (is_attacked p.men a (other_side colour)) in
    let over = not (is_attacked p.men (crossed a b) (other_side colour)) in
    let last = not (is_attacked p.men b (other_side colour)) in
    let q = and_parts (right && home && goal && clear && out && over) last goes in
    let r = and_parts (right && home && goal && clear && out) over q.0 in
    let s = and_parts (right && home && goal && clear) out r.0 in
    let f = all_four right home goal clear s.0 in
    (f.0, eqb-true a (king_home colour) f.1, eqb-true b (king_goal colour wing) f.2, f.3)

castling_shape : (p : Setup) (colour : Colour) (wing : Wing) (m : Move) → Mover p colour King m
    → castles_to p colour wing m.origin m.target ≡ true → IsCastling p colour King m wing
castling_shape p colour wing m h goes =
    let f = castling_parts p colour wing m.origin m.target goes in
    let home = king_home colour in
    let free = rw f.1 at f.3 in
    let b = castling_between colour wing in
    record {
      men = castling_men p colour wing m f.1 f.2;
      king = refl;
      unpromoted = stays_unpromoted (a_man colour King) m.target m.promotion h.suit refl;
      origin = f.1;
      target = f.2;
      empty = rw f.2 (clear_at p.men home (rook_home colour wing) (king_goal colour wing) free b.2 b.0);
      crossed_empty = rw (f.1, f.2) (clear_at p.men home (rook_home colour wing) (crossed home (king_goal colour wing)) free b.3 b.1);
      rook_there = (right_men p colour wing h.sound f.0).1;
    }

pub shape_of : (p : Setup) (colour : Colour) (kind : Kind) (m : Move) → Mover p colour kind m → Shape p colour kind m
shape_of p colour Pawn m h = pawn_shape p colour m h
shape_of p colour Knight m h = inl (piece_shape p colour Knight m h refl h.goes)
shape_of p colour Bishop m h = inl (piece_shape p colour Bishop m h refl h.goes)
shape_of p colour Rook m h = inl (piece_shape p colour Rook m h refl h.goes)
shape_of p colour Queen m h = inl (piece_shape p colour Queen m h refl h.goes)
shape_of p colour King m h =
    elim (or_cases (piece_goes p colour King m.origin m.target) (castles p colour m.origin m.target) h.goes) [
      | inl g ↦
          let q = and_parts (attacks_as p.men colour King m.origin m.target) (not (is_of colour (man_at p.men m.target))) g in
          let near = king_near p.men colour m.origin m.target q.0 in
          inl (piece_shape p colour King m h (rw near refl) g)
      | inr g ↦ elim (or_cases (castles_to p colour KingSide m.origin m.target) (castles_to p colour QueenSide m.origin m.target) g) [
        | inl g ↦ inr (inr (inl (castling_shape p colour KingSide m h g)))
        | inr g ↦ inr (inr (inr (castling_shape p colour QueenSide m h g)))
      ]
    ]

-- A man that is no king moves: its own king is attacked where it stands, or not at all.
use Rattle.std.proofs.Common.{◌≡◌, ◌≢◌, ℕ, true, false, ◌&&◌, List, Option, Some, None, refl, ap}
use Rattle.chess_board.specs.declared.men.Colour.{Colour}
use Rattle.chess_board.specs.declared.men.Kind.{Kind}
use Rattle.chess_board.specs.declared.men.Kind.TheVariants.{Pawn, Knight, Bishop, Rook, Queen, King}
use Rattle.chess_board.specs.declared.men.Man.{Man}
use Rattle.chess_board.specs.Men.{other_side, is_of, man_of}
use Rattle.chess_board.specs.inside.KindTests.{is_king_kind, is_king_of}
use Rattle.chess_board.specs.Positions.{Setup, man_at, moved}
use Rattle.chess_board.specs.Attacks.{is_in_check}
use Rattle.chess_board.specs.PseudoLegal.{promotes, suits}
use Rattle.chess_board.specs.MakeMove.{becomes}
use Rattle.chess_moves.specs.declared.legality_info.LegalityInfo.{LegalityInfo}
use Rattle.chess_moves.specs.inside.Hits.{is_hit}
use Rattle.chess_moves.specs.inside.LegalityInfo.{IsLegalityInfoOf}
use Rattle.chess_moves.proofs.OwnColours.{same_colour, no_king_of}
use Rattle.chess_moves.proofs.MovedKings.{IsKingAt, in_check_there, king_of_scene, king_stays}

-- what the man becomes is no king, and of its colour
pub becomes_no_king : (man : Man) (t : ℕ) (r : Option Kind) → is_king_kind man.kind ≡ false → suits man t r ≡ true
    → is_king_kind (becomes man r).kind ≡ false
becomes_no_king man t None no_king suited = no_king
becomes_no_king man t (Some Pawn) no_king suited = refl
becomes_no_king man t (Some Knight) no_king suited = refl
becomes_no_king man t (Some Bishop) no_king suited = refl
becomes_no_king man t (Some Rook) no_king suited = refl
becomes_no_king man t (Some Queen) no_king suited = refl
becomes_no_king man t (Some King) no_king suited =
    (elim (promotes man t) as (λ b. (b && false) ≡ true → true ≡ false) [ true ↦ λ e. cc | false ↦ λ e. cc ]) suited

pub becomes_colour : (man : Man) (r : Option Kind) → (becomes man r).colour ≡ man.colour
becomes_colour man None = refl
becomes_colour man (Some k) = refl

-- The king stands neither where another man stands nor where none of its own does.
king_apart : (men : List (Option Man)) (c : Colour) (k o : ℕ) (man : Man) → man_at men k ≡ man_of c King
    → man_at men o ≡ Some man → is_king_kind man.kind ≡ false → k ≢ o
king_apart men c k o man here there no_king e =
    let same : man_of c King ≡ Some man = rw (← e, here) at there in
    let king = rw (same_colour c c refl) at (ap (is_king_of c) same) in
    let other = no_king_of c man no_king in cc

king_off : (men : List (Option Man)) (c : Colour) (k t : ℕ) → man_at men k ≡ man_of c King → is_of c (man_at men t) ≡ false → k ≢ t
king_off men c k t here none e = let x = rw (← e, here) at none in let y = same_colour c c refl in cc

-- The king keeps its square.
pub king_beside : (info : LegalityInfo) (p : Setup) (man new : Man) (o t : ℕ) → IsLegalityInfoOf info p
    → man_at p.men o ≡ Some man → is_king_kind man.kind ≡ false
    → is_of p.side (man_at p.men t) ≡ false → is_king_kind new.kind ≡ false → IsKingAt (moved p.men o t new) p.side info.king
king_beside info p man new o t h there no_king free stays =
    king_stays p.men p.side info.king o t new h.sound.squares (king_of_scene info p h) (king_apart p.men p.side info.king o man h.king there no_king)
    (king_off p.men p.side info.king t h.king free) (no_king_of p.side new stays)

pub in_check_beside : (info : LegalityInfo) (p : Setup) (man new : Man) (o t : ℕ) → IsLegalityInfoOf info p
    → man_at p.men o ≡ Some man → is_king_kind man.kind ≡ false
    → is_of p.side (man_at p.men t) ≡ false → is_king_kind new.kind ≡ false
    → is_in_check (moved p.men o t new) p.side ≡ is_hit (moved p.men o t new) info.king (other_side p.side)
in_check_beside info p man new o t h there no_king free stays =
    in_check_there (moved p.men o t new) p.side info.king (king_beside info p man new o t h there no_king free stays)

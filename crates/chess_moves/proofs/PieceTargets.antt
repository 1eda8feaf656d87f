-- Where a knight, a bishop, a rook or a queen goes safely.
use Rattle.std.proofs.Common.{◌≡◌, ℕ, Bool, true, false, not, ◌&&◌, Option, Some, refl, sym, ap, ◌∙◌}
use Rattle.std.proofs.lemmas.Bool.{and_parts, not-true}
use Rattle.chess_board.specs.declared.men.Colour.{Colour}
use Rattle.chess_board.specs.declared.men.Kind.{Kind}
use Rattle.chess_board.specs.declared.men.Kind.TheVariants.{Pawn, Knight, Bishop, Rook, Queen, King}
use Rattle.chess_board.specs.declared.men.Man.{Man}
use Rattle.chess_board.specs.Men.{other_side, is_of}
use Rattle.chess_board.specs.inside.KindTests.{is_pawn_kind, is_king_kind}
use Rattle.chess_board.specs.Positions.{Setup, man_at, moved}
use Rattle.chess_board.specs.Attacks.{attacks_as, is_in_check}
use Rattle.chess_board.specs.PseudoLegal.{piece_goes, goes, suits}
use Rattle.chess_board.specs.MakeMove.{becomes, men_after}
use Rattle.chess_moves.specs.declared.legality_info.LegalityInfo.{LegalityInfo}
use Rattle.chess_moves.specs.inside.Hits.{is_hit}
use Rattle.chess_moves.specs.inside.Listing.{move_of}
use Rattle.chess_moves.specs.inside.LegalityInfo.{IsLegalityInfoOf}
use Rattle.chess_moves.proofs.Connectives.{and_when}
use Rattle.chess_moves.proofs.KeptWays.{goes_safely}
use Rattle.chess_moves.proofs.OtherMen.{becomes_no_king, in_check_beside}

pub goes_as_piece : (p : Setup) (c : Colour) (k : Kind) (a b : ℕ) → is_pawn_kind k ≡ false
    → is_king_kind k ≡ false → goes p c k a b ≡ piece_goes p c k a b
goes_as_piece p c Pawn a b no_pawn no_king = cc
goes_as_piece p c Knight a b no_pawn no_king = refl
goes_as_piece p c Bishop a b no_pawn no_king = refl
goes_as_piece p c Rook a b no_pawn no_king = refl
goes_as_piece p c Queen a b no_pawn no_king = refl
goes_as_piece p c King a b no_pawn no_king = cc

men_after_piece : (p : Setup) (man : Man) (o t : ℕ) (r : Option Kind) → is_pawn_kind man.kind ≡ false → is_king_kind man.kind ≡ false
    → men_after p man (move_of o t r) ≡ moved p.men o t (becomes man r)
men_after_piece p man o t r no_pawn no_king = rw (no_pawn, no_king) refl

-- A piece goes safely where it goes and its king is not attacked then.
pub piece_goes_safely : (info : LegalityInfo) (p : Setup) (man : Man) (o t : ℕ) (r : Option Kind) (safe : Bool)
    → IsLegalityInfoOf info p → man_at p.men o ≡ Some man → man.colour ≡ p.side
    → is_pawn_kind man.kind ≡ false → is_king_kind man.kind ≡ false → suits man t r ≡ true
    → safe ≡ not (is_hit (moved p.men o t (becomes man r)) info.king (other_side p.side))
    → goes_safely p man o t r ≡ (piece_goes p man.colour man.kind o t && safe)
piece_goes_safely info p man o t r safe h there own no_pawn no_king suited safe_is =
    let goes_is = goes_as_piece p man.colour man.kind o t no_pawn no_king in
    let men_are = men_after_piece p man o t r no_pawn no_king in
    rw (goes_is, men_are) (and_when (piece_goes p man.colour man.kind o t) (not (is_in_check (moved p.men o t (becomes man r)) p.side)) safe (λ gone.
    let free : is_of man.colour (man_at p.men t) ≡ false = not-true (is_of man.colour (man_at p.men t))
    ((and_parts (attacks_as p.men man.colour man.kind o t) (not (is_of man.colour (man_at p.men t))) gone).1) in
    ap not (in_check_beside info p man (becomes man r) o t h there no_king (rw own at free) (becomes_no_king man t r no_king suited)) ∙ sym safe_is))

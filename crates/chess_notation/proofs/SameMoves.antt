-- Two moves of such men that have one text, be they pawns, castling kings or pieces, are one move.
use Rattle.std.proofs.Common.{◌≡◌, ℕ, ◌+◌, Bool, true, false, not, cond, Option, Some, None, refl, sym, ap, ◌∙◌, arith}
use Rattle.std.proofs.lemmas.Bool.{or_parts, not-false}
use Rattle.chess_board.specs.declared.men.Kind.{Kind}
use Rattle.chess_board.specs.declared.men.Kind.TheVariants.{Pawn}
use Rattle.chess_board.specs.declared.men.Man.{Man}
use Rattle.chess_board.specs.Squares.{file_of, rank_of}
use Rattle.chess_board.specs.inside.KindTests.{is_pawn_kind}
use Rattle.chess_board.specs.Positions.{Setup, is_empty}
use Rattle.chess_board.specs.Moves.{Move}
use Rattle.chess_board.specs.PseudoLegal.{suits, pawn_goes}
use Rattle.chess_board.specs.EnPassant.{is_en_passant}
use Rattle.chess_board.specs.Castling.{is_castling, wing_of}
use Rattle.chess_notation.specs.SanText.{is_capture, pawn_text, wing_text}
use Rattle.chess_notation.proofs.LegalMen.{IsPlayed, move_same}
use Rattle.chess_notation.proofs.TextBytes.{same_square}
use Rattle.chess_notation.proofs.PawnTexts.{read_pawn, read_pawn-form}
use Rattle.chess_notation.proofs.PawnOrigins.{quiet_file, pawn_origin_same}
use Rattle.chess_notation.proofs.PieceTexts.{tail_text, read_tail, read_tail-text}
use Rattle.chess_notation.proofs.Rivals.{piece_origin_same}
use Rattle.chess_notation.proofs.CastlingTexts.{castling_same}

-- No man but a pawn becomes another.
unpromoted : (man : Man) (b : ℕ) (becomes : Option Kind) → is_pawn_kind man.kind ≡ false → suits man b becomes ≡ true → becomes ≡ None
unpromoted man b None piece suited = refl
unpromoted man b (Some made) piece suited = let never = rw piece at suited in cc

-- Pawns.
pawn_quiet : (p : Setup) (man : Man) (m : Move) → IsPlayed p m man → man.kind ≡ Pawn
    → is_capture p man m ≡ false → file_of m.origin ≡ file_of m.target
pawn_quiet p man m by pawn quiet =
    let parts = or_parts (not (is_empty p.men m.target)) (is_en_passant p man m) quiet in
    quiet_file p man.colour m.origin m.target (rw pawn at by.goes) (not-false (is_empty p.men m.target) parts.0) (rw pawn at parts.1)

-- The file that the pawn leaves is in the text, or is that of its target.
pawn_files : (takes_m takes_n : Bool) (f g : ℕ) → cond takes_m (Some (97 + f)) None ≡ cond takes_n (Some (97 + g)) None
    → (takes_m ≡ false → takes_n ≡ false → f ≡ g) → f ≡ g
pawn_files true true f g e quiet = let bytes : 97 + f ≡ 97 + g = cc in omega arith
pawn_files true false f g e quiet = cc
pawn_files false true f g e quiet = cc
pawn_files false false f g e quiet = quiet refl refl

pub same_pawn : (p : Setup) (man : Man) (m n : Move) → IsPlayed p m man → IsPlayed p n man → man.kind ≡ Pawn
    → pawn_text p man m ≡ pawn_text p man n → m ≡ n
same_pawn p man m n by_m by_n pawn texts =
    let takes_m = is_capture p man m in
    let takes_n = is_capture p man n in
    let w = sym (read_pawn-form takes_m m.origin m.target m.promotion by_m.to_board) ∙ ap read_pawn texts
    ∙ read_pawn-form takes_n n.origin n.target n.promotion by_n.to_board in
    let f : 97 + file_of m.target ≡ 97 + file_of n.target = ap (λ s. s.to_file) w in
    let r : 49 + rank_of m.target ≡ 49 + rank_of n.target = ap (λ s. s.to_rank) w in
    let targets : m.target ≡ n.target = same_square m.target n.target (omega arith) (omega arith) in
    let files : file_of m.origin ≡ file_of n.origin = pawn_files takes_m takes_n (file_of m.origin) (file_of n.origin) (ap (λ s. s.from_file) w)
    (λ quiet_m quiet_n. pawn_quiet p man m by_m pawn quiet_m ∙ ap file_of targets ∙ sym (pawn_quiet p man n by_n pawn quiet_n)) in
    let goes_m : pawn_goes p man.colour m.origin n.target ≡ true = rw (pawn, targets) at by_m.goes in
    let goes_n : pawn_goes p man.colour n.origin n.target ≡ true = rw pawn at by_n.goes in
    let origins = pawn_origin_same p man.colour man m.origin n.origin n.target by_m.there by_n.there goes_m goes_n files in
    move_same m n origins targets (ap (λ s. s.becomes) w)

-- Castling.
pub same_castling : (p : Setup) (man : Man) (m n : Move) → IsPlayed p m man → IsPlayed p n man → is_pawn_kind man.kind ≡ false
    → is_castling man m ≡ true → is_castling man n ≡ true →
    wing_text (wing_of m.origin m.target) ≡ wing_text (wing_of n.origin n.target) → m ≡ n
same_castling p man m n by_m by_n piece castles_m castles_n texts =
    let at = castling_same p man m n by_m.goes by_n.goes castles_m castles_n texts in
    move_same m n at.0 at.1 (unpromoted man m.target m.promotion piece by_m.suits ∙ sym (unpromoted man n.target n.promotion piece by_n.suits))

-- Pieces.
pub same_piece : (p : Setup) (man : Man) (m n : Move) → IsPlayed p m man → IsPlayed p n man → is_pawn_kind man.kind ≡ false
    → tail_text p man m ≡ tail_text p man n → m ≡ n
same_piece p man m n by_m by_n piece tails =
    let w = sym (read_tail-text p man m by_m.from_board) ∙ ap read_tail tails ∙ read_tail-text p man n by_n.from_board in
    let f : 97 + file_of m.target ≡ 97 + file_of n.target = ap (λ s. s.to_file) w in
    let r : 49 + rank_of m.target ≡ 49 + rank_of n.target = ap (λ s. s.to_rank) w in
    let targets : m.target ≡ n.target = same_square m.target n.target (omega arith) (omega arith) in
    let origins = piece_origin_same p man m n by_m by_n targets (ap (λ s. s.from_file) w) (ap (λ s. s.from_rank) w) in
    move_same m n origins targets (unpromoted man m.target m.promotion piece by_m.suits ∙ sym (unpromoted man n.target n.promotion piece by_n.suits))

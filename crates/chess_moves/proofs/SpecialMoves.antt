-- Which moves are special, told from the squares to which they go.
use Rattle.std.proofs.Common.{◌≡◌, ℕ, ◌<◌, Bool, true, false, not, ◌&&◌, ◌||◌, eqb, Option, Some, None, is_some, ◌⊎◌, inl, inr, refl, sym, ap, ◌∙◌}
use Rattle.std.specs.Prelude.{nat_le}
use Rattle.std.proofs.lemmas.Bool.{and_parts, and_left, and_right, eqb-true, false_from_ne_true}
use Rattle.chess_board.specs.declared.men.Colour.{Colour}
use Rattle.chess_board.specs.declared.men.Colour.TheVariants.{White, Black}
use Rattle.chess_board.specs.declared.men.Kind.{Kind}
use Rattle.chess_board.specs.declared.men.Kind.TheVariants.{Pawn, Knight, Bishop, Rook, Queen, King}
use Rattle.chess_board.specs.declared.men.Man.{Man}
use Rattle.chess_board.specs.Squares.{file_gap, rank_gap}
use Rattle.chess_board.specs.inside.KindTests.{is_pawn_kind, is_king_kind}
use Rattle.chess_board.specs.Men.{is_colour}
use Rattle.chess_board.specs.Moves.{Move}
use Rattle.chess_board.specs.Positions.{Setup, man_at}
use Rattle.chess_board.specs.PseudoLegal.{suits, promotes, is_promotion, goes, piece_goes}
use Rattle.chess_board.specs.Legality.{is_legal}
use Rattle.chess_board.specs.EnPassant.{is_square, is_en_passant}
use Rattle.chess_board.specs.Castling.{castles, is_castling}
use Rattle.chess_moves.specs.declared.legality_info.LegalityInfo.{LegalityInfo}
use Rattle.chess_moves.specs.inside.LegalityInfo.{IsLegalityInfoOf}
use Rattle.chess_moves.specs.inside.CheckSquares.{is_special}
use Rattle.chess_moves.proofs.KingTargets.{king_origin}
use Rattle.chess_moves.proofs.Played.{played_by}

pub no_promotion : (man : Man) (t : ℕ) (r : Option Kind) → suits man t r ≡ true → promotes man t ≡ false → is_some r ≡ false
no_promotion man t None s h = refl
no_promotion man t (Some asked) s h = let x = (and_parts (promotes man t) (is_promotion asked) s).0 in cc

pub none_special : (p : Setup) (man : Man) (m : Move) → is_some m.promotion ≡ false → is_en_passant p man m ≡ false
    → is_castling man m ≡ false → is_special p man m ≡ false
none_special p man m a b c = rw (a, b, c) refl

pub plain_pawn : (p : Setup) (man : Man) (m : Move) → is_legal p m ≡ true → man_at p.men m.origin ≡ Some man → man.kind ≡ Pawn
    → promotes man m.target ≡ false → is_square p.target m.target ≡ false → is_special p man m ≡ false
plain_pawn p man m legal there pawn last passed = none_special p man m
    (no_promotion man m.target m.promotion (played_by p m man there legal).suits last)
    (and_right (is_pawn_kind man.kind) (is_square p.target m.target) passed)
    (and_left (is_king_kind man.kind) (eqb (file_gap m.origin m.target) 2) (ap is_king_kind pawn))

pub same_side : (a b : Colour) → is_colour a b ≡ true → a ≡ b
same_side White White h = refl
same_side White Black h = absurd (cc)
same_side Black White h = absurd (cc)
same_side Black Black h = refl

-- a king that goes two files makes no step
no_step : (p : Setup) (c : Colour) (o t : ℕ) → eqb (file_gap o t) 2 ≡ true → piece_goes p c King o t ≡ false
no_step p c o t two =
    let far : nat_le (file_gap o t) 1 ≡ false = let e = eqb-true (file_gap o t) 2 two in rw e refl in
    rw far (none (not (eqb o t)) (nat_le (rank_gap o t) 1) _)
  where
    none : (x y z : Bool) → (((x && false) && y) && z) ≡ false
    none true y z = refl
    none false y z = refl

pub plain_king : (info : LegalityInfo) (p : Setup) (man : Man) (m : Move) → IsLegalityInfoOf info p → is_legal p m ≡ true
    → man_at p.men m.origin ≡ Some man → m.origin < 64
    → man.kind ≡ King → castles p p.side info.king m.target ≡ false → is_special p man m ≡ false
plain_king info p man m h legal there on king none =
    let by = played_by p m man there legal in
    let own : man.colour ≡ p.side = same_side man.colour p.side by.own in
    let at : m.origin ≡ info.king = king_origin info p man m.origin h on there own king in
    let no_pawn : is_pawn_kind man.kind ≡ false = ap is_pawn_kind king in
    let gone : (piece_goes p man.colour King m.origin m.target || castles p man.colour m.origin m.target) ≡ true =
    ap (λ kind. goes p man.colour kind m.origin m.target) (sym king) ∙ by.goes in
    let uncastled : castles p man.colour m.origin m.target ≡ false = rw (own, at) none in
    none_special p man m
    (no_promotion man m.target m.promotion by.suits (and_left (is_pawn_kind man.kind) _ no_pawn))
    (and_left (is_pawn_kind man.kind) (is_square p.target m.target) no_pawn)
    (and_right (is_king_kind man.kind) (eqb (file_gap m.origin m.target) 2) (false_from_ne_true (eqb (file_gap m.origin m.target) 2) (λ two.
    let still = no_step p man.colour m.origin m.target two in
    let never : (false || false) ≡ true = rw (still, uncastled) at gone in cc)))

pub plain_piece : (p : Setup) (man : Man) (m : Move) → is_legal p m ≡ true → man_at p.men m.origin ≡ Some man
    → is_pawn_kind man.kind ≡ false → is_king_kind man.kind ≡ false
    → is_special p man m ≡ false
plain_piece p man m legal there no_pawn no_king = none_special p man m
    (no_promotion man m.target m.promotion (played_by p m man there legal).suits (and_left (is_pawn_kind man.kind) _ no_pawn))
    (and_left (is_pawn_kind man.kind) (is_square p.target m.target) no_pawn)
    (and_left (is_king_kind man.kind) (eqb (file_gap m.origin m.target) 2) no_king)

pub is_piece : (asked : Kind) → (asked ≡ Knight) ⊎ ((asked ≡ Bishop) ⊎ ((asked ≡ Rook) ⊎ (asked ≡ Queen)))
    → (is_pawn_kind asked ≡ false) × (is_king_kind asked ≡ false)
is_piece asked (inl e) = (ap is_pawn_kind e, ap is_king_kind e)
is_piece asked (inr (inl e)) = (ap is_pawn_kind e, ap is_king_kind e)
is_piece asked (inr (inr (inl e))) = (ap is_pawn_kind e, ap is_king_kind e)
is_piece asked (inr (inr (inr e))) = (ap is_pawn_kind e, ap is_king_kind e)

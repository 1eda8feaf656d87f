-- The text of a move without its suffix tells it from the other legal moves: its first byte says whether a pawn, a
-- castling king or a piece moves.
use Rattle.std.proofs.Common.{◌≡◌, ◌⊎◌, ℕ, ◌<◌, ◌≤◌, Bool, true, false, eqb, List, ◌∷◌, get_or}
use Rattle.std.proofs.Common.{drop, Option, Some, refl, sym, ap, subst, ◌∙◌, inl, inr, arith}
use Rattle.std.proofs.lemmas.Bool.{and_parts}
use Rattle.chess_board.specs.declared.men.Kind.{Kind}
use Rattle.chess_board.specs.declared.men.Kind.TheVariants.{Pawn, Knight, Bishop, Rook, Queen, King}
use Rattle.chess_board.specs.declared.men.Wing.{Wing}
use Rattle.chess_board.specs.declared.men.Wing.TheVariants.{KingSide, QueenSide}
use Rattle.chess_board.specs.declared.men.Man.{Man}
use Rattle.chess_board.specs.Squares.{file_gap}
use Rattle.chess_board.specs.inside.KindTests.{is_pawn_kind, is_king_kind}
use Rattle.chess_board.specs.Positions.{Setup, man_at}
use Rattle.chess_board.specs.Placement.{kind_letter}
use Rattle.chess_board.specs.Moves.{Move}
use Rattle.chess_board.specs.Castling.{is_castling, wing_of}
use Rattle.chess_moves.specs.Laws.{LegalListed}
use Rattle.chess_notation.specs.SanText.{is_capture, pawn_text, wing_text, man_text, bare_text}
use Rattle.chess_notation.specs.SanLaws.{BareTextsApart}
use Rattle.chess_notation.proofs.LegalMen.{IsPlayed, played, man_same}
use Rattle.chess_notation.proofs.TextBytes.{kind_said, kind_said-letter}
use Rattle.chess_notation.proofs.PawnTexts.{pawn_form}
use Rattle.chess_notation.proofs.PieceTexts.{tail_text}
use Rattle.chess_notation.proofs.SameMoves.{same_pawn, same_castling, same_piece}

-- How the move is written.
record IsPawnText (p : Setup) (m : Move) (man : Man) : Type 0 where
  pawn : man.kind ≡ Pawn
  text : bare_text p m ≡ pawn_text p man m

record IsCastlingText (p : Setup) (m : Move) (man : Man) : Type 0 where
  piece : is_pawn_kind man.kind ≡ false
  castling : is_castling man m ≡ true
  text : bare_text p m ≡ wing_text (wing_of m.origin m.target)

record IsPieceText (p : Setup) (m : Move) (man : Man) : Type 0 where
  piece : is_pawn_kind man.kind ≡ false
  text : bare_text p m ≡ kind_letter man.kind ∷ tail_text p man m

abbrev Written : Setup → Move → Man → Type 0
Written p m man = IsPawnText p m man ⊎ (IsCastlingText p m man ⊎ IsPieceText p m man)

kind_pawn : (kind : Kind) → is_pawn_kind kind ≡ true → kind ≡ Pawn
kind_pawn Pawn h = refl
kind_pawn Knight h = cc
kind_pawn Bishop h = cc
kind_pawn Rook h = cc
kind_pawn Queen h = cc
kind_pawn King h = cc

written : (p : Setup) (m : Move) (man : Man) → man_at p.men m.origin ≡ Some man → Written p m man
unfolding bare_text
written p m man there =
    let text : bare_text p m ≡ man_text p (Some man) m = ap (λ place. man_text p place m) there in
    (elim (is_pawn_kind man.kind) as (λ b. is_pawn_kind man.kind ≡ b → Written p m man) [
      | true ↦ λ pawn. inl (record { pawn = kind_pawn man.kind pawn; text = text ∙ rw pawn refl })
      | false ↦ λ piece. (elim (is_castling man m) as (λ b. is_castling man m ≡ b → Written p m man) [
        | true ↦ λ castling. inr (inl (record { piece = piece; castling = castling; text = text ∙ rw (piece, castling) refl }))
        | false ↦ λ plain. inr (inr (record { piece = piece; text = text ∙ rw (piece, plain) refl }))
      ]) refl
    ]) refl

-- A pawn's text starts with a file, castling with O, and a piece's text with its letter.
abbrev first : List ℕ → ℕ
first text = get_or text 0 0

pawn_first : (takes : Bool) (o t : ℕ) (becomes : Option Kind) → 96 < first (pawn_form takes o t becomes)
pawn_first true o t becomes = omega arith
pawn_first false o t becomes = omega arith

castling_first : (wing : Wing) → first (wing_text wing) ≡ 79
castling_first KingSide = refl
castling_first QueenSide = refl

kind_below : (kind : Kind) → kind_letter kind ≤ 82
kind_below Pawn = omega arith
kind_below Knight = omega arith
kind_below Bishop = omega arith
kind_below Rook = omega arith
kind_below Queen = omega arith
kind_below King = omega arith

kind_no_castling : (kind : Kind) → kind_letter kind ≡ 79 → ⊥
kind_no_castling Pawn e = omega arith
kind_no_castling Knight e = omega arith
kind_no_castling Bishop e = omega arith
kind_no_castling Rook e = omega arith
kind_no_castling Queen e = omega arith
kind_no_castling King e = omega arith

first_pawn : (p : Setup) (m : Move) (man : Man) → IsPawnText p m man → 96 < first (bare_text p m)
first_pawn p m man w = let e = ap first w.text in let h = pawn_first (is_capture p man m) m.origin m.target m.promotion in omega arith

first_castling : (p : Setup) (m : Move) (man : Man) → IsCastlingText p m man → first (bare_text p m) ≡ 79
first_castling p m man w = ap first w.text ∙ castling_first (wing_of m.origin m.target)

first_piece : (p : Setup) (m : Move) (man : Man) → IsPieceText p m man → first (bare_text p m) ≡ kind_letter man.kind
first_piece p m man w = ap first w.text

-- One text comes from men of one kind.
castling_king : (man : Man) (m : Move) → is_castling man m ≡ true → man.kind ≡ King
castling_king man m h = king man.kind ((and_parts (is_king_kind man.kind) (eqb (file_gap m.origin m.target) 2) h).0) where
  king : (kind : Kind) → is_king_kind kind ≡ true → kind ≡ King
  king Pawn h = cc
  king Knight h = cc
  king Bishop h = cc
  king Rook h = cc
  king Queen h = cc
  king King h = refl

pub kind_same : (a b : Kind) → kind_letter a ≡ kind_letter b → a ≡ b
kind_same a b letters =
    let said : Some a ≡ Some b = sym (kind_said-letter a) ∙ ap kind_said letters ∙ kind_said-letter b in cc

written_same : (p : Setup) (m n : Move) (a b : Man) → IsPlayed p m a → IsPlayed p n b → Written p m a
    → Written p n b → bare_text p m ≡ bare_text p n → m ≡ n
written_same p m n a b by_m by_n (inl v) (inl w) e =
    let same : a ≡ b = man_same p a b by_m.own by_n.own (v.pawn ∙ sym w.pawn) in
    let by_n' : IsPlayed p n a = subst (λ x. IsPlayed p n x) (sym same) by_n in
    same_pawn p a m n by_m by_n' v.pawn (sym v.text ∙ e ∙ w.text ∙ ap (λ x. pawn_text p x n) (sym same))
written_same p m n a b by_m by_n (inl v) (inr (inl w)) e = let x = first_pawn p m a v in let y = first_castling p n b w in
    let z = ap first e in absurd (omega arith)
written_same p m n a b by_m by_n (inl v) (inr (inr w)) e = let x = first_pawn p m a v in let y = first_piece p n b w in let z =
    ap first e in let k = kind_below b.kind in absurd (omega arith)
written_same p m n a b by_m by_n (inr (inl v)) (inl w) e = let x = first_castling p m a v in let y = first_pawn p n b w in
    let z = ap first e in absurd (omega arith)
written_same p m n a b by_m by_n (inr (inl v)) (inr (inl w)) e =
    let same : a ≡ b = man_same p a b by_m.own by_n.own (castling_king a m v.castling ∙ sym (castling_king b n w.castling)) in
    let by_n' : IsPlayed p n a = subst (λ x. IsPlayed p n x) (sym same) by_n in
    let castles_n : is_castling a n ≡ true = ap (λ x. is_castling x n) same ∙ w.castling in
    same_castling p a m n by_m by_n' v.piece v.castling castles_n (sym v.text ∙ e ∙ w.text)
written_same p m n a b by_m by_n (inr (inl v)) (inr (inr w)) e =
    absurd (kind_no_castling b.kind (sym (first_piece p n b w) ∙ sym (ap first e) ∙ first_castling p m a v))
written_same p m n a b by_m by_n (inr (inr v)) (inl w) e = let x = first_piece p m a v in let y = first_pawn p n b w in let z =
    ap first e in let k = kind_below a.kind in absurd (omega arith)
written_same p m n a b by_m by_n (inr (inr v)) (inr (inl w)) e =
    absurd (kind_no_castling a.kind (sym (first_piece p m a v) ∙ ap first e ∙ first_castling p n b w))
written_same p m n a b by_m by_n (inr (inr v)) (inr (inr w)) e =
    let letters : kind_letter a.kind ≡ kind_letter b.kind = sym (first_piece p m a v) ∙ ap first e ∙ first_piece p n b w in
    let same : a ≡ b = man_same p a b by_m.own by_n.own (kind_same a.kind b.kind letters) in
    let by_n' : IsPlayed p n a = subst (λ x. IsPlayed p n x) (sym same) by_n in
    let tails : tail_text p a m ≡ tail_text p b n = ap (drop 1) (sym v.text ∙ e ∙ w.text) in
    same_piece p a m n by_m by_n' v.piece (tails ∙ ap (λ x. tail_text p x n) (sym same))

pub bare_texts_apart : LegalListed → BareTextsApart
bare_texts_apart law p m n listed_m listed_n texts =
    let by_m = played law p m listed_m in
    let by_n = played law p n listed_n in
    written_same p m n by_m.0 by_n.0 by_m.1 by_n.1 (written p m by_m.0 by_m.1.there) (written p n by_n.0 by_n.1.there) texts

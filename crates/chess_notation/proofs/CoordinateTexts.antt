-- Coordinates: they tell a move from each other, no text in SAN is one of them, and none ends with a suffix.
use Rattle.std.proofs.Common.{◌≡◌, ℕ, ◌+◌, ◌-◌, ◌<◌, Bool, true, false, ◌&&◌, not, ltb, List, [], ◌∷◌, ◌++◌, length, slice_index}
use Rattle.std.proofs.Common.{get_or, drop, Option, Some, None, if◌then◌else◌, refl, sym, ap, ◌∙◌, arith}
use Rattle.std.proofs.lemmas.Bool.Decides.{nat_tests}
use Rattle.chess_board.specs.Characters.{small}
use Rattle.chess_board.specs.declared.men.Kind.{Kind}
use Rattle.chess_board.specs.declared.men.Kind.TheVariants.{Pawn, Knight, Bishop, Rook, Queen, King}
use Rattle.chess_board.specs.declared.men.Man.{Man}
use Rattle.chess_board.specs.declared.men.Wing.{Wing}
use Rattle.chess_board.specs.declared.men.Wing.TheVariants.{KingSide, QueenSide}
use Rattle.chess_board.specs.Squares.{file_of, rank_of}
use Rattle.chess_board.specs.inside.KindTests.{is_pawn_kind}
use Rattle.chess_board.specs.Positions.{Setup, man_at}
use Rattle.chess_board.specs.Placement.{kind_letter}
use Rattle.chess_board.specs.Fields.{square_text}
use Rattle.chess_board.specs.Moves.{Move, promotion_text, move_text}
use Rattle.chess_board.specs.Castling.{is_castling, wing_of}
use Rattle.chess_notation.specs.SanText.{is_capture, pawn_text, piece_text, wing_text, man_text, bare_text}
use Rattle.chess_notation.specs.AvoidMoves.{is_suffix, without_suffix}
use Rattle.chess_notation.proofs.LegalMen.{move_same}
use Rattle.chess_notation.proofs.TextBytes.{kind_said, kind_said-letter, same_square, file_high, rank_low}
use Rattle.chess_notation.proofs.PawnTexts.{pawn_form}
use Rattle.chess_notation.proofs.PieceTexts.{tail_text}

-- A text begins as coordinates do: a small letter, what is none, and a small letter.
abbrev begins : List ℕ → Bool
begins [] = false
begins (a ∷ []) = false
begins (a ∷ b ∷ []) = false
begins (a ∷ b ∷ c ∷ rest) = ltb 96 a && not (ltb 96 b) && ltb 96 c

pub begins-coordinates : (m : Move) → m.origin < 64 → begins (move_text m) ≡ true
begins-coordinates m on = rw (file_high m.origin, rank_low m.origin on, file_high m.target) refl

begins-low : (a : ℕ) (rest : List ℕ) → ltb 96 a ≡ false → begins (a ∷ rest) ≡ false
begins-low a [] low = refl
begins-low a (b ∷ []) low = refl
begins-low a (b ∷ c ∷ rest) low = rw low refl

kind_low : (kind : Kind) → ltb 96 (kind_letter kind) ≡ false
kind_low Pawn = refl
kind_low Knight = refl
kind_low Bishop = refl
kind_low Rook = refl
kind_low Queen = refl
kind_low King = refl

begins-pawn_form : (captures : Bool) (o t : ℕ) (becomes : Option Kind) → t < 64 → begins (pawn_form captures o t becomes) ≡ false
begins-pawn_form true o t becomes on = rw (file_high o) refl
begins-pawn_form false o t None on = refl
begins-pawn_form false o t (Some made) on = rw (file_high t, rank_low t on) refl

begins-wing_text : (wing : Wing) → begins (wing_text wing) ≡ false
begins-wing_text KingSide = refl
begins-wing_text QueenSide = refl

begins-man_text : (p : Setup) (place : Option Man) (m : Move) → m.target < 64 → begins (man_text p place m) ≡ false
begins-man_text p None m on = refl
begins-man_text p (Some man) m on = by_kind (is_pawn_kind man.kind) (is_castling man m) where
  by_kind : (pawn castling : Bool) → begins (if pawn then pawn_text p man m
      else (if castling then wing_text (wing_of m.origin m.target) else piece_text p man m)) ≡ false
  by_kind true castling = begins-pawn_form (is_capture p man m) m.origin m.target m.promotion on
  by_kind false true = begins-wing_text (wing_of m.origin m.target)
  by_kind false false = begins-low (kind_letter man.kind) (tail_text p man m) (kind_low man.kind)

begins-bare_text : (p : Setup) (m : Move) → m.target < 64 → begins (bare_text p m) ≡ false
unfolding bare_text
begins-bare_text p m on = begins-man_text p (man_at p.men m.origin) m on

-- No move's text in SAN is the coordinates of one.
pub no_coordinates : (p : Setup) (m n : Move) → m.target < 64 → n.origin < 64 → bare_text p m ≡ move_text n → ⊥
no_coordinates p m n on_m on_n e =
    let never : false ≡ true = sym (begins-bare_text p m on_m) ∙ ap begins e ∙ begins-coordinates n on_n in cc

-- Coordinates end with a rank or with a small letter.
abbrev coordinates : ℕ → ℕ → Option Kind → List ℕ
coordinates o t becomes = square_text o ++ square_text t ++ promotion_text becomes

rank_no_suffix : (t : ℕ) → is_suffix (49 + rank_of t) ≡ false
rank_no_suffix t = grind (arith, nat_tests)

kind_no_suffix : (kind : Kind) → is_suffix (small (kind_letter kind)) ≡ false
kind_no_suffix Pawn = refl
kind_no_suffix Knight = refl
kind_no_suffix Bishop = refl
kind_no_suffix Rook = refl
kind_no_suffix Queen = refl
kind_no_suffix King = refl

coordinates_end : (o t : ℕ) (becomes : Option Kind) → is_suffix (slice_index (coordinates o t becomes) (length (coordinates o t becomes) - 1)) ≡ false
coordinates_end o t None = rank_no_suffix t
coordinates_end o t (Some made) = kind_no_suffix made

pub without_suffix-coordinates : (m : Move) → without_suffix (move_text m) ≡ move_text m
unfolding without_suffix
without_suffix-coordinates m = rw (coordinates_end m.origin m.target m.promotion) refl

-- They tell a move from each other.
small_said : (a b : Kind) → small (kind_letter a) ≡ small (kind_letter b) → a ≡ b
small_said a b e =
    let letters : kind_letter a ≡ kind_letter b = omega arith in
    let said : Some a ≡ Some b = sym (kind_said-letter a) ∙ ap kind_said letters ∙ kind_said-letter b in cc

promotion_same : (a b : Option Kind) → promotion_text a ≡ promotion_text b → a ≡ b
promotion_same None None e = refl
promotion_same None (Some b) e = cc
promotion_same (Some a) None e = cc
promotion_same (Some a) (Some b) e = ap Some (small_said a b (ap (λ text. get_or text 0 0) e))

pub coordinates_same : (m n : Move) → move_text m ≡ move_text n → m ≡ n
coordinates_same m n e =
    let f : 97 + file_of m.origin ≡ 97 + file_of n.origin = ap (λ text. get_or text 0 0) e in
    let r : 49 + rank_of m.origin ≡ 49 + rank_of n.origin = ap (λ text. get_or text 1 0) e in
    let g : 97 + file_of m.target ≡ 97 + file_of n.target = ap (λ text. get_or text 2 0) e in
    let s : 49 + rank_of m.target ≡ 49 + rank_of n.target = ap (λ text. get_or text 3 0) e in
    let origins = same_square m.origin n.origin (omega arith) (omega arith) in
    let targets = same_square m.target n.target (omega arith) (omega arith) in
    move_same m n origins targets (promotion_same m.promotion n.promotion (ap (drop 4) e))

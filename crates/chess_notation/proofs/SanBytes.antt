-- The bytes of a move's text: letters, digits and the marks of SAN.
use Rattle.std.proofs.Common.{◌≡◌, ◌≢◌, ℕ, ◌+◌, ◌<◌, ◌==◌, List, [], ◌∷◌, ◌++◌, Bool, true}
use Rattle.std.proofs.Common.{false, Option, Some, None, codes, refl, arith, if◌then◌else◌}
use Rattle.std.specs.List.{list_all}
use Rattle.std.proofs.lemmas.Bool.{and_parts}
use Rattle.chess_board.specs.declared.men.Kind.{Kind}
use Rattle.chess_board.specs.declared.men.Kind.TheVariants.{Pawn, Knight, Bishop, Rook, Queen, King}
use Rattle.chess_board.specs.declared.men.Man.{Man}
use Rattle.chess_board.specs.declared.men.Wing.{Wing}
use Rattle.chess_board.specs.declared.men.Wing.TheVariants.{KingSide, QueenSide}
use Rattle.chess_board.specs.Squares.{file_of, rank_of}
use Rattle.chess_board.specs.inside.KindTests.{is_pawn_kind}
use Rattle.chess_board.specs.Positions.{Setup, man_at}
use Rattle.chess_board.specs.Attacks.{is_in_check}
use Rattle.chess_board.specs.Placement.{kind_letter}
use Rattle.chess_board.specs.Fields.{square_text}
use Rattle.chess_board.specs.Moves.{Move}
use Rattle.chess_board.specs.MakeMove.{after_setup}
use Rattle.chess_board.specs.PseudoLegal.{man_may, is_pseudo_legal}
use Rattle.chess_board.specs.Legality.{is_safe, is_legal}
use Rattle.chess_board.specs.Castling.{is_castling, wing_of}
use Rattle.chess_moves.specs.Verdicts.{is_mate}
use Rattle.chess_moves.specs.Laws.{IsLegalOnBoard}
use Rattle.chess_notation.specs.SanText.{is_capture, pawn_origin_text, becomes_text, pawn_text, piece_text}
use Rattle.chess_notation.specs.SanText.{wing_text, man_text, bare_text, suffix_text, san_text}
use Rattle.chess_notation.specs.Disambiguation.{some_rival, file_letter, rank_digit, origin_text, disambiguation_text}
use Rattle.chess_notation.proofs.PlainBytes.{is_plain, is_plain_low, is_plain_high, list_all-both}

-- at least one byte, and none that is a space, a quotation mark or a semicolon
abbrev pub IsPlainWord : List ℕ → Type 0
IsPlainWord text = (text ≢ []) × (list_all is_plain text ≡ true)

IsPlainWord-left : (xs ys : List ℕ) → IsPlainWord xs → list_all is_plain ys ≡ true → IsPlainWord (xs ++ ys)
IsPlainWord-left [] ys h k = absurd (h.0 refl)
IsPlainWord-left (x ∷ xs) ys h k = ((λ e. cc), list_all-both is_plain (x ∷ xs) ys h.1 k)

IsPlainWord-right : (xs ys : List ℕ) → list_all is_plain xs ≡ true → IsPlainWord ys → IsPlainWord (xs ++ ys)
IsPlainWord-right [] ys h k = k
IsPlainWord-right (x ∷ xs) ys h k = ((λ e. cc), list_all-both is_plain (x ∷ xs) ys h k.1)

either_plain : (b : Bool) (xs ys : List ℕ) → list_all is_plain xs ≡ true → list_all is_plain ys ≡ true
    → list_all is_plain (if b then xs else ys) ≡ true
either_plain true xs ys h k = h
either_plain false xs ys h k = k

file_plain : (s : ℕ) → list_all is_plain (file_letter s) ≡ true
file_plain s = rw (is_plain_high (97 + file_of s) (omega arith) (omega arith)) refl

rank_plain : (s : ℕ) → s < 64 → list_all is_plain (rank_digit s) ≡ true
rank_plain s on = rw (is_plain_low (49 + rank_of s) (omega arith) (omega arith)) refl

square_plain : (s : ℕ) → s < 64 → IsPlainWord (square_text s)
square_plain s on = ((λ e. cc), list_all-both is_plain (file_letter s) (rank_digit s) (file_plain s) (rank_plain s on))

letter_plain : (kind : Kind) → is_plain (kind_letter kind) ≡ true
letter_plain Pawn = refl
letter_plain Knight = refl
letter_plain Bishop = refl
letter_plain Rook = refl
letter_plain Queen = refl
letter_plain King = refl

origin_plain : (on_file on_rank : Bool) (s : ℕ) → s < 64 → list_all is_plain (origin_text on_file on_rank s) ≡ true
origin_plain false on_rank s on = file_plain s
origin_plain true false s on = rank_plain s on
origin_plain true true s on = (square_plain s on).1

disambiguation_plain : (p : Setup) (man : Man) (m : Move) → m.origin < 64 → list_all is_plain (disambiguation_text p man m) ≡ true
disambiguation_plain p man m on =
    let on_file = some_rival p man m (λ n. file_of n.origin == file_of m.origin) in
    let on_rank = some_rival p man m (λ n. rank_of n.origin == rank_of m.origin) in
    either_plain (some_rival p man m (λ n. true)) (origin_text on_file on_rank m.origin) [] (origin_plain on_file on_rank m.origin on) refl

becomes_plain : (promotion : Option Kind) → list_all is_plain (becomes_text promotion) ≡ true
becomes_plain None = refl
becomes_plain (Some kind) = rw (letter_plain kind) refl

pawn_plain : (p : Setup) (man : Man) (m : Move) → m.target < 64 → IsPlainWord (pawn_text p man m)
pawn_plain p man m on =
    let origin : list_all is_plain (pawn_origin_text p man m) ≡ true =
    either_plain (is_capture p man m) (file_letter m.origin ++ codes "x") []
    (list_all-both is_plain (file_letter m.origin) (codes "x") (file_plain m.origin) refl) refl in
    IsPlainWord-left (pawn_origin_text p man m ++ square_text m.target) (becomes_text m.promotion)
    (IsPlainWord-right (pawn_origin_text p man m) (square_text m.target) origin (square_plain m.target on)) (becomes_plain m.promotion)

piece_plain : (p : Setup) (man : Man) (m : Move) → m.origin < 64 → m.target < 64 → IsPlainWord (piece_text p man m)
piece_plain p man m from on =
    let mark = if is_capture p man m then codes "x" else [] in
    let marked = list_all-both is_plain (disambiguation_text p man m) mark (disambiguation_plain p man m from)
    (either_plain (is_capture p man m) (codes "x") [] refl refl) in
    let rest = list_all-both is_plain (disambiguation_text p man m ++ mark) (square_text m.target) marked (square_plain m.target on).1 in
    IsPlainWord-left (kind_letter man.kind ∷ []) (disambiguation_text p man m ++ mark ++ square_text m.target)
    ((λ e. cc), rw (letter_plain man.kind) refl) rest

castling_plain : (wing : Wing) → IsPlainWord (wing_text wing)
castling_plain KingSide = ((λ e. cc), refl)
castling_plain QueenSide = ((λ e. cc), refl)

either_word : (b : Bool) (xs ys : List ℕ) → IsPlainWord xs → IsPlainWord ys → IsPlainWord (if b then xs else ys)
either_word true xs ys h k = h
either_word false xs ys h k = k

man_plain : (p : Setup) (place : Option Man) (m : Move) → m.origin < 64 → m.target < 64 → man_may p place m ≡ true → IsPlainWord (man_text p place m)
man_plain p None m from on may = cc
man_plain p (Some man) m from on may =
    let piece = either_word (is_castling man m) (wing_text (wing_of m.origin m.target)) (piece_text p man m)
    (castling_plain (wing_of m.origin m.target)) (piece_plain p man m from on) in
    either_word (is_pawn_kind man.kind) (pawn_text p man m)
    (if is_castling man m then wing_text (wing_of m.origin m.target) else piece_text p man m) (pawn_plain p man m on) piece

check_plain : (p : Setup) → list_all is_plain (suffix_text p) ≡ true
unfolding suffix_text
check_plain p =
    either_plain (is_mate p) (codes "#") (if is_in_check p.men p.side then codes "+" else []) refl
    (either_plain (is_in_check p.men p.side) (codes "+") [] refl refl)

-- The text of a legal move is one word.
pub san_plain : (p : Setup) (m : Move) → IsLegalOnBoard p m → IsPlainWord (san_text p m)
unfolding san_text bare_text is_legal is_pseudo_legal
san_plain p m h =
    let may : man_may p (man_at p.men m.origin) m ≡ true = (and_parts (is_pseudo_legal p m) (is_safe p m) h.2).0 in
    IsPlainWord-left (man_text p (man_at p.men m.origin) m) (suffix_text (after_setup p m))
    (man_plain p (man_at p.men m.origin) m h.0 h.1 may) (check_plain (after_setup p m))

-- So it is without the suffix.
pub bare_plain : (p : Setup) (m : Move) → IsLegalOnBoard p m → IsPlainWord (bare_text p m)
unfolding bare_text is_legal is_pseudo_legal
bare_plain p m h =
    let may : man_may p (man_at p.men m.origin) m ≡ true = (and_parts (is_pseudo_legal p m) (is_safe p m) h.2).0 in
    man_plain p (man_at p.men m.origin) m h.0 h.1 may

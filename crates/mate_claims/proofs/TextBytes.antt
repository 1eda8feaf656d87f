-- The text of a legal move: which bytes it has, that it is one word, and that it is the move's name.
use Rattle.std.proofs.Common.{◌≡◌, ◌≢◌, ℕ, zero, suc, ◌-◌, ◌<◌, ◌==◌, Bool, true, false, not, ◌&&◌, if◌then◌else◌, List, [], ◌∷◌}
use Rattle.std.proofs.Common.{◌++◌, length, take, codes, Option, Some, None, refl, ap, ◌∙◌, arith, append-nil}
use Rattle.std.specs.List.{list_all, slice_index}
use Rattle.std.specs.Prelude.{Contains}
use Rattle.std.proofs.lemmas.Bool.{and_parts}
use Rattle.std.proofs.lemmas.Bool.Decides.{nat_tests}
use Rattle.std.proofs.lemmas.List.{length_push, get_or_push}
use Rattle.chess_board.specs.declared.men.Kind.{Kind}
use Rattle.chess_board.specs.declared.men.Kind.TheVariants.{Pawn, Knight, Bishop, Rook, Queen, King}
use Rattle.chess_board.specs.declared.men.Man.{Man}
use Rattle.chess_board.specs.declared.men.Wing.{Wing}
use Rattle.chess_board.specs.declared.men.Wing.TheVariants.{KingSide, QueenSide}
use Rattle.chess_board.specs.Men.{is_kind}
use Rattle.chess_board.specs.Squares.{file_of, rank_of}
use Rattle.chess_board.specs.Positions.{Setup, man_at}
use Rattle.chess_board.specs.Placement.{kind_letter}
use Rattle.chess_board.specs.Fields.{square_text}
use Rattle.chess_board.specs.Moves.{Move}
use Rattle.chess_board.specs.MakeMove.{after_setup}
use Rattle.chess_board.specs.Attacks.{is_in_check}
use Rattle.chess_board.specs.Castling.{is_castling, wing_of}
use Rattle.chess_board.specs.PseudoLegal.{man_may, is_pseudo_legal}
use Rattle.chess_board.specs.Legality.{is_safe, is_legal}
use Rattle.chess_moves.specs.inside.Listing.{legal_moves}
use Rattle.chess_moves.specs.Laws.{LegalListed}
use Rattle.chess_moves.specs.Verdicts.{is_mate}
use Rattle.chess_notation.specs.Disambiguation.{some_rival, file_letter, rank_digit, origin_text, disambiguation_text}
use Rattle.chess_notation.specs.SanText.{is_capture, pawn_origin_text, becomes_text, pawn_text, piece_text, wing_text}
use Rattle.chess_notation.specs.SanText.{man_text, bare_text, suffix_text, san_text}
use Rattle.chess_notation.specs.Words.{is_empty_text}
use Rattle.chess_notation.specs.Opcodes.{same_text}
use Rattle.chess_notation.specs.AvoidMoves.{is_suffix, without_suffix, names}
use Rattle.chess_notation.specs.Claims.{is_length}

-- Space and the bytes of suffixes, 32, 43 and 35, are below all that stand before a suffix.
abbrev AreHigh : List ℕ → Type 0
AreHigh [] = Unit {0}
AreHigh (b ∷ bs) = (44 < b) × AreHigh bs

high_both : (xs ys : List ℕ) → AreHigh xs → AreHigh ys → AreHigh (xs ++ ys)
high_both [] ys h k = k
high_both (x ∷ xs) ys h k = (h.0, high_both xs ys h.1 k)

high_either : (b : Bool) (xs ys : List ℕ) → AreHigh xs → AreHigh ys → AreHigh (if b then xs else ys)
high_either true xs ys h k = h
high_either false xs ys h k = k

high_file : (s : ℕ) → AreHigh (file_letter s)
high_file s = (omega arith, tt)

high_rank : (s : ℕ) → AreHigh (rank_digit s)
high_rank s = (omega arith, tt)

high_square : (s : ℕ) → AreHigh (square_text s)
high_square s = (omega arith, (omega arith, tt))

high_letter : (kind : Kind) → 44 < kind_letter kind
high_letter Pawn = omega arith
high_letter Knight = omega arith
high_letter Bishop = omega arith
high_letter Rook = omega arith
high_letter Queen = omega arith
high_letter King = omega arith

high_mark : (b : Bool) → AreHigh (if b then codes "x" else [])
high_mark true = (omega arith, tt)
high_mark false = tt

high_origin : (on_file on_rank : Bool) (s : ℕ) → AreHigh (origin_text on_file on_rank s)
high_origin false on_rank s = high_file s
high_origin true false s = high_rank s
high_origin true true s = high_square s

high_disambiguation : (p : Setup) (man : Man) (m : Move) → AreHigh (disambiguation_text p man m)
high_disambiguation p man m =
    let on_file = some_rival p man m (λ n. file_of n.origin == file_of m.origin) in
    let on_rank = some_rival p man m (λ n. rank_of n.origin == rank_of m.origin) in
    high_either (some_rival p man m (λ n. true)) (origin_text on_file on_rank m.origin) [] (high_origin on_file on_rank m.origin) tt

high_becomes : (promotion : Option Kind) → AreHigh (becomes_text promotion)
high_becomes None = tt
high_becomes (Some kind) = (omega arith, (high_letter kind, tt))

high_pawn : (p : Setup) (man : Man) (m : Move) → AreHigh (pawn_text p man m)
high_pawn p man m =
    let file = file_letter m.origin ++ codes "x" in
    let origin : AreHigh (pawn_origin_text p man m) = high_either (is_capture p man m) file [] (omega arith, (omega arith, tt)) tt in
    high_both (pawn_origin_text p man m ++ square_text m.target) (becomes_text m.promotion)
    (high_both (pawn_origin_text p man m) (square_text m.target) origin (high_square m.target)) (high_becomes m.promotion)

high_piece : (p : Setup) (man : Man) (m : Move) → AreHigh (piece_text p man m)
high_piece p man m =
    let mark = if is_capture p man m then codes "x" else [] in (
      high_letter man.kind,
      high_both (disambiguation_text p man m ++ mark) (square_text m.target)
          (high_both (disambiguation_text p man m) mark (high_disambiguation p man m) (high_mark (is_capture p man m))) (high_square m.target),
    )

high_wing : (wing : Wing) → AreHigh (wing_text wing)
high_wing KingSide = (omega arith, (omega arith, (omega arith, tt)))
high_wing QueenSide = (omega arith, (omega arith, (omega arith, (omega arith, (omega arith, tt)))))

high_man : (p : Setup) (place : Option Man) (m : Move) → AreHigh (man_text p place m)
high_man p None m = tt
high_man p (Some man) m =
    let piece = high_either (is_castling man m) (wing_text (wing_of m.origin m.target)) (piece_text p man m)
    (high_wing (wing_of m.origin m.target)) (high_piece p man m) in
    high_either (is_kind Pawn man.kind) (pawn_text p man m)
    (if is_castling man m then wing_text (wing_of m.origin m.target) else piece_text p man m) (high_pawn p man m) piece

high_bare : (p : Setup) (m : Move) → AreHigh (bare_text p m)
unfolding bare_text
high_bare p m = high_man p (man_at p.men m.origin) m

-- A legal move's text isn't empty.
some_pawn : (xs ys zs : List ℕ) → ys ≢ [] → (xs ++ ys) ++ zs ≢ []
some_pawn [] [] zs some = λ e. some refl
some_pawn [] (y ∷ ys) zs some = λ e. cc
some_pawn (x ∷ xs) ys zs some = λ e. cc

some_wing : (wing : Wing) → wing_text wing ≢ []
some_wing KingSide = λ e. cc
some_wing QueenSide = λ e. cc

some_man : (p : Setup) (place : Option Man) (m : Move) → man_may p place m ≡ true → man_text p place m ≢ []
some_man p None m may = cc
some_man p (Some man) m may = by_kind (is_kind Pawn man.kind) (is_castling man m) where
  by_kind : (pawn castling : Bool)
      → (if pawn then pawn_text p man m else (if castling then wing_text (wing_of m.origin m.target) else piece_text p man m)) ≢ []
  by_kind true castling = some_pawn (pawn_origin_text p man m) (square_text m.target) (becomes_text m.promotion) (λ e. cc)
  by_kind false true = some_wing (wing_of m.origin m.target)
  by_kind false false = λ e. cc

some_bare : LegalListed → (p : Setup) (m : Move) → Contains (legal_moves p) m → bare_text p m ≢ []
unfolding bare_text is_legal is_pseudo_legal
some_bare listed p m legal =
    some_man p (man_at p.men m.origin) m (and_parts (is_pseudo_legal p m) (is_safe p m) ((listed p m).0 legal).2).0

-- A byte that is no space.
abbrev pub no_space : ℕ → Bool
no_space b = not (b == 32)

-- A text that is one word.
abbrev pub is_solid : List ℕ → Bool
is_solid text = not (is_empty_text text) && list_all no_space text

high_no_space : (b : ℕ) → 44 < b → no_space b ≡ true
high_no_space b high = let other : (b == 32) ≡ false = grind (arith, nat_tests) in rw other refl

high_no_suffix : (b : ℕ) → 44 < b → is_suffix b ≡ false
high_no_suffix b high = grind (arith, nat_tests)

no_spaces : (xs ys : List ℕ) → AreHigh xs → list_all no_space ys ≡ true → list_all no_space (xs ++ ys) ≡ true
no_spaces [] ys h k = k
no_spaces (x ∷ xs) ys h k = rw (high_no_space x h.0) (no_spaces xs ys h.1 k)

solid_from : (xs ys : List ℕ) → xs ≢ [] → AreHigh xs → list_all no_space ys ≡ true → is_solid (xs ++ ys) ≡ true
solid_from [] ys some h k = absurd (some refl)
solid_from (x ∷ xs) ys some h k = no_spaces (x ∷ xs) ys h k

no_length_from : (xs ys : List ℕ) → xs ≢ [] → AreHigh xs → is_length (xs ++ ys) ≡ false
no_length_from [] ys some h = absurd (some refl)
no_length_from (x ∷ xs) ys some h = let other : (x == 35) ≡ false = grind (arith, nat_tests, h.0) in rw other refl

solid_suffix : (q : Setup) → list_all no_space (suffix_text q) ≡ true
unfolding suffix_text
solid_suffix q = by_mark (is_mate q) (is_in_check q.men q.side) where
  by_mark : (mate check : Bool) → list_all no_space (if mate then codes "#" else (if check then codes "+" else [])) ≡ true
  by_mark true check = refl
  by_mark false true = refl
  by_mark false false = refl

-- It is one word, and no length.
pub solid-san_text : LegalListed → (p : Setup) (m : Move) → Contains (legal_moves p) m → is_solid (san_text p m) ≡ true
unfolding san_text
solid-san_text listed p m legal =
    solid_from (bare_text p m) (suffix_text (after_setup p m)) (some_bare listed p m legal) (high_bare p m) (solid_suffix (after_setup p m))

pub no_length-san_text : LegalListed → (p : Setup) (m : Move) → Contains (legal_moves p) m → is_length (san_text p m) ≡ false
unfolding san_text
no_length-san_text listed p m legal =
    no_length_from (bare_text p m) (suffix_text (after_setup p m)) (some_bare listed p m legal) (high_bare p m)

-- Without its suffix it is the move's text without its own.
last_high : (xs : List ℕ) (i : ℕ) → AreHigh xs → is_suffix (slice_index xs i) ≡ false
last_high [] i h = refl
last_high (x ∷ xs) zero h = high_no_suffix x h.0
last_high (x ∷ xs) (suc i) h = last_high xs i h.1

without_suffix-high : (xs : List ℕ) → AreHigh xs → without_suffix xs ≡ xs
unfolding without_suffix
without_suffix-high xs h = rw (last_high xs (length xs - 1) h) refl

take_front : (xs : List ℕ) (c : ℕ) → take (length xs) (xs ++ c ∷ []) ≡ xs
take_front [] c = refl
take_front (x ∷ xs) c = ap (λ t. x ∷ t) (take_front xs c)

without_suffix-pushed : (xs : List ℕ) (c : ℕ) → is_suffix c ≡ true → without_suffix (xs ++ c ∷ []) ≡ xs
unfolding without_suffix
without_suffix-pushed xs c mark =
    let long : length (xs ++ c ∷ []) - 1 ≡ length xs = let l = length_push xs c in omega (arith, l) in
    let last : slice_index (xs ++ c ∷ []) (length xs) ≡ c = get_or_push xs c 0 (length xs) refl in
    rw (long, last, mark) (take_front xs c)

without_suffix-san_text : (p : Setup) (m : Move) → without_suffix (san_text p m) ≡ bare_text p m
unfolding san_text suffix_text
without_suffix-san_text p m = by_mark (is_mate (after_setup p m)) (is_in_check (after_setup p m).men (after_setup p m).side) where
  by_mark : (mate check : Bool) → without_suffix (bare_text p m ++ (if mate then codes "#" else (if check then codes "+" else []))) ≡ bare_text p m
  by_mark true check = without_suffix-pushed (bare_text p m) 35 refl
  by_mark false true = without_suffix-pushed (bare_text p m) 43 refl
  by_mark false false = ap without_suffix (append-nil (bare_text p m)) ∙ without_suffix-high (bare_text p m) (high_bare p m)

same_text_self : (a : List ℕ) → same_text a a ≡ true
same_text_self [] = refl
same_text_self (x ∷ xs) = let here : (x == x) ≡ true = grind (arith, nat_tests) in rw here (same_text_self xs)

-- A move's text names it.
pub names-san_text : (p : Setup) (m : Move) → names p (san_text p m) m ≡ true
names-san_text p m = ap (λ t. same_text t (bare_text p m)) (without_suffix-san_text p m) ∙ same_text_self (bare_text p m)

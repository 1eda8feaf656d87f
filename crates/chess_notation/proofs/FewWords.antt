-- A text in which each word names a move has few words: each has two bytes at least, and a space before the next.
use Rattle.std.proofs.Common.{◌≡◌, ℕ, zero, suc, ◌+◌, ◌*◌, ◌-◌, ◌≤◌, Bool, true, false, Some, List, [], ◌∷◌, ◌++◌}
use Rattle.std.proofs.Common.{length, take, replicate, refl, ap, sym, ◌∙◌, arith, codes, if◌then◌else◌}
use Rattle.std.specs.List.{Contains, list_all, slice_index}
use Rattle.std.proofs.lemmas.Bool.{and_parts}
use Rattle.std.proofs.lemmas.List.{length-append, length-take}
use Rattle.chess_board.specs.declared.men.Man.{Man}
use Rattle.chess_board.specs.declared.men.Wing.{Wing}
use Rattle.chess_board.specs.declared.men.Wing.TheVariants.{KingSide, QueenSide}
use Rattle.chess_board.specs.inside.KindTests.{is_pawn_kind}
use Rattle.chess_board.specs.Positions.{Setup}
use Rattle.chess_board.specs.Fields.{square_text}
use Rattle.chess_board.specs.Moves.{Move}
use Rattle.chess_board.specs.Castling.{is_castling, wing_of}
use Rattle.chess_moves.specs.inside.Listing.{legal_moves}
use Rattle.chess_moves.specs.Laws.{LegalListed}
use Rattle.chess_notation.specs.SanText.{is_capture, pawn_origin_text, becomes_text, pawn_text, piece_text, wing_text, man_text, bare_text}
use Rattle.chess_notation.specs.Disambiguation.{disambiguation_text}
use Rattle.chess_notation.specs.Words.{word_at, behind, is_blank, words_in}
use Rattle.chess_notation.specs.Records.{IsApart, max_line}
use Rattle.chess_notation.specs.AvoidMoves.{is_suffix, without_suffix, names, is_name}
use Rattle.chess_notation.proofs.LegalMen.{played}
use Rattle.chess_notation.proofs.Members.{any_member}
use Rattle.chess_notation.proofs.TextOrder.{same_text_is}
use Rattle.chess_notation.proofs.WordSplits.{words_split}
use Rattle.chess_notation.proofs.WordLists.{words_spaces, words_next, words_none}

-- A move's text has two bytes at least.
long_between : (a b c : List ℕ) → 2 ≤ length b → 2 ≤ length (a ++ b ++ c)
long_between a b c h = omega (arith, h, length-append (a ++ b) c, length-append a b)

long_pawn : (p : Setup) (man : Man) (m : Move) → 2 ≤ length (pawn_text p man m)
long_pawn p man m = long_between (pawn_origin_text p man m) (square_text m.target) (becomes_text m.promotion) (omega arith)

long_castling : (wing : Wing) → 2 ≤ length (wing_text wing)
long_castling KingSide = omega arith
long_castling QueenSide = omega arith

long_last : (a b c : List ℕ) → 2 ≤ length c → 2 ≤ suc (length (a ++ b ++ c))
long_last a b c h = omega (arith, h, length-append (a ++ b) c)

long_piece : (p : Setup) (man : Man) (m : Move) → 2 ≤ length (piece_text p man m)
long_piece p man m = long_last (disambiguation_text p man m) (if is_capture p man m then codes "x" else []) (square_text m.target) (omega arith)

long_man : (p : Setup) (man : Man) (m : Move) → 2 ≤ length (man_text p (Some man) m)
long_man p man m = by_kind (is_pawn_kind man.kind) (is_castling man m) where
  by_kind : (pawn castling : Bool) → 2 ≤ length
      (if pawn then pawn_text p man m else (if castling then wing_text (wing_of m.origin m.target) else piece_text p man m))
  by_kind true castling = long_pawn p man m
  by_kind false true = long_castling (wing_of m.origin m.target)
  by_kind false false = long_piece p man m

long_bare : LegalListed → (p : Setup) (m : Move) → Contains (legal_moves p) m → 2 ≤ length (bare_text p m)
unfolding bare_text
long_bare listed p m legal =
    let by = played listed p m legal in
    let text = ap (λ place. length (man_text p place m)) by.1.there in
    omega (arith, text, long_man p by.0 m)

-- So has a word that names one.
mark_short : (word : List ℕ) → length (without_suffix word) ≤ length word
unfolding without_suffix
mark_short word = by_mark (is_suffix (slice_index word (length word - 1))) where
  by_mark : (marked : Bool) → length (if marked then take (length word - 1) word else word) ≤ length word
  by_mark true = omega (arith, length-take (length word - 1) word)
  by_mark false = omega arith

long_name : LegalListed → (p : Setup) (word : List ℕ) → is_name p word ≡ true → 2 ≤ length word
unfolding is_name
long_name listed p word h =
    let found = any_member (names p word) (legal_moves p) h in
    let text = ap length (same_text_is (without_suffix word) (bare_text p found.0) found.2) in
    omega (arith, text, long_bare listed p found.0 found.1, mark_short word)

-- Each word takes three bytes with its space; the first may stand without one.
abbrev HasFewWords : List ℕ → Type 0
HasFewWords text = 3 * length (words_in text) ≤ length text + 1

few_behind : (rest : List ℕ) → IsApart rest → ((text : List ℕ) → rest ≡ 32 ∷ text → HasFewWords text) → 3 * length (words_in rest) ≤ length rest
few_behind [] apart few = let none = ap length (words_none [] refl) in omega arith
few_behind (b ∷ text) apart few =
    let space : b ∷ text ≡ 32 ∷ text = ap (λ x. x ∷ text) apart in
    let words = ap length (ap words_in space ∙ words_spaces 1 text) in
    omega (arith, words, few text space)

few_none : (text : List ℕ) → length text ≤ 0 → HasFewWords text
few_none [] short = let none = ap length (words_none [] refl) in omega arith
few_none (b ∷ bs) short = absurd (omega (arith, short))

few_words_in : LegalListed → (p : Setup) (most : ℕ) (text : List ℕ) → length text ≤ most
    → list_all (is_name p) (words_in text) ≡ true → HasFewWords text
few_words_in listed p zero text short names = few_none text short
few_words_in listed p (suc most) text short names = (elim (is_blank text) as (λ b. is_blank text ≡ b → HasFewWords text) [
  | true ↦ λ blank. let none = ap length (words_none text blank) in omega (arith, none)
  | false ↦ λ solid.
      let split = words_split text in
      let words = words_next text solid in
      let named = and_parts (is_name p (word_at text)) (list_all (is_name p) (words_in (behind text)))
      (sym (ap (list_all (is_name p)) words) ∙ names) in
      let front : List ℕ = replicate split.0 32 in
      let whole : length text ≡ length front + (length (word_at text) + length (behind text)) =
      ap length split.1 ∙ length-append front (word_at text ++ behind text)
      ∙ ap (λ n. length front + n) (length-append (word_at text) (behind text)) in
      let long = long_name listed p (word_at text) named.0 in
      let few = few_behind (behind text) split.2 (λ rest is.
      let shorter : length (behind text) ≡ suc (length rest) = ap length is in
      few_words_in listed p most rest (omega (arith, whole, long, shorter, short))
      (sym (ap (list_all (is_name p)) (ap words_in is ∙ words_spaces 1 rest)) ∙ named.1)) in
      let count = ap length words in
      omega (arith, whole, long, few, count)
]) refl

pub few_words : LegalListed → (p : Setup) (text : List ℕ) → length text ≤ max_line
    → list_all (is_name p) (words_in text) ≡ true → length (words_in text) ≤ 341
few_words listed p text short names = let few = few_words_in listed p (length text) text (omega arith) names in omega (arith, few, short)

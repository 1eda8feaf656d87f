-- The operations that an answer writes itself can be printed.
use Rattle.std.proofs.Common.{◌≡◌, ℕ, ◌==◌, List, [], ◌∷◌, ◌++◌, Bool, true, false, not, length-append}
use Rattle.std.proofs.Common.{map, codes, decimal, refl, ap, arith, if◌then◌else◌}
use Rattle.std.specs.List.{list_all}
use Rattle.std.proofs.lemmas.Bool.{and_parts}
use Rattle.chess_board.specs.Positions.{Setup}
use Rattle.chess_board.specs.Moves.{Move}
use Rattle.chess_board.specs.MakeMove.{after_setup}
use Rattle.chess_moves.specs.Laws.{LegalListed, IsLine}
use Rattle.chess_notation.specs.SanText.{san_text}
use Rattle.chess_notation.specs.Operations.{is_printable, AreWordBytes, HaveNoQuote, Operation, entry_of}
use Rattle.chess_notation.specs.Operations.Operand.{Text}
use Rattle.chess_notation.specs.Opcodes.{comes_before}
use Rattle.chess_notation.specs.Records.{dm_of}
use Rattle.chess_notation.specs.Answers.{with_text, in_order, line_texts, keys_entry, line_entry}
use Rattle.chess_problems.specs.Outcomes.{AreLegal}
use Rattle.chess_notation.proofs.PlainBytes.{list_all-both, plain_word_bytes, plain_all_printable, digits_plain}
use Rattle.chess_notation.proofs.Numerals.{decimal_digits, decimal_few, decimal_some}
use Rattle.chess_notation.proofs.SanBytes.{IsPlainWord, san_plain}
use Rattle.chess_notation.proofs.SpellableOperations.{IsSpellable, ArePlain, words_operation, entry_of-words, words_spellable}

with_text_plain-at : (before : Bool) (text next : List ℕ) (texts : List (List ℕ)) → IsPlainWord text
    → ArePlain (next ∷ texts) → ArePlain (with_text text texts)
    → ArePlain (if before then text ∷ next ∷ texts else next ∷ with_text text texts)
with_text_plain-at true text next texts is are rest = (is, are)
with_text_plain-at false text next texts is are rest = (are.0, rest)

with_text_plain : (text : List ℕ) (texts : List (List ℕ)) → IsPlainWord text → ArePlain texts → ArePlain (with_text text texts)
with_text_plain text [] is are = (is, tt)
with_text_plain text (next ∷ texts) is are = with_text_plain-at (comes_before text next) text next texts is are (with_text_plain text texts is are.1)

in_order_plain : (texts : List (List ℕ)) → ArePlain texts → ArePlain (in_order texts)
in_order_plain [] are = tt
in_order_plain (text ∷ texts) are = with_text_plain text (in_order texts) are.0 (in_order_plain texts are.1)

keys_plain : LegalListed → (p : Setup) (keys : List Move) → AreLegal p keys → ArePlain (map (san_text p) keys)
keys_plain listed p [] legal = tt
keys_plain listed p (m ∷ ms) legal = (san_plain p m ((listed p m).0 legal.0), keys_plain listed p ms legal.1)

line_plain : (p : Setup) (moves : List Move) → IsLine p moves → ArePlain (line_texts p moves)
line_plain p [] line = tt
line_plain p (m ∷ ms) line = (san_plain p m line.0, line_plain (after_setup p m) ms line.1)

-- the keys
abbrev pub keys_operation : Setup → List Move → Operation
keys_operation p keys = words_operation (codes "bm") (in_order (map (san_text p) keys))

pub keys_entry_of : (p : Setup) (keys : List Move) → entry_of (keys_operation p keys) ≡ keys_entry p keys
keys_entry_of p keys = entry_of-words (codes "bm") (in_order (map (san_text p) keys))

pub keys_spellable : LegalListed → (p : Setup) (keys : List Move) → AreLegal p keys → IsSpellable (keys_operation p keys)
keys_spellable listed p keys legal =
    words_spellable (codes "bm") (in_order (map (san_text p) keys)) refl (in_order_plain (map (san_text p) keys) (keys_plain listed p keys legal))

-- the length of the mate
pub length_spellable : (n : ℕ) → IsSpellable (dm_of (decimal n))
length_spellable n = words_spellable (codes "dm") (decimal n ∷ []) refl ((decimal_some n, digits_plain (decimal n) (decimal_digits n)), tt)

-- the line of play
abbrev pub line_operation : Setup → List Move → Operation
line_operation p moves = words_operation (codes "pv") (line_texts p moves)

pub line_entry_of : (p : Setup) (moves : List Move) → entry_of (line_operation p moves) ≡ line_entry p moves
line_entry_of p moves = entry_of-words (codes "pv") (line_texts p moves)

pub line_spellable : (p : Setup) (moves : List Move) → IsLine p moves → IsSpellable (line_operation p moves)
line_spellable p moves line = words_spellable (codes "pv") (line_texts p moves) refl (line_plain p moves line)

-- the comment that there is no mate
abbrev pub none_text : ℕ → List ℕ
none_text bound = codes "no mate in " ++ decimal bound

abbrev pub none_operation : ℕ → Operation
none_operation bound = record { opcode = codes "c0"; operands = Text (none_text bound) ∷ [] }

HaveNoQuote-word : (bs : List ℕ) → AreWordBytes bs → HaveNoQuote bs
HaveNoQuote-word [] are = tt
HaveNoQuote-word (b ∷ bs) are = (are.1, HaveNoQuote-word bs are.3)

HaveNoQuote-both : (xs ys : List ℕ) → list_all (λ b. not (b == 34)) xs ≡ true → HaveNoQuote ys → HaveNoQuote (xs ++ ys)
HaveNoQuote-both [] ys h k = k
HaveNoQuote-both (x ∷ xs) ys h k =
    let both = and_parts (not (x == 34)) (list_all (λ b. not (b == 34)) xs) h in
    ((λ e. let mark : not (x == 34) ≡ false = ap (λ b. not (b == 34)) e in cc), HaveNoQuote-both xs ys both.1 k)

pub none_spellable : (bound : ℕ) → IsSpellable (none_operation bound)
none_spellable bound =
    let plain = digits_plain (decimal bound) (decimal_digits bound) in
    let text = list_all-both is_printable (codes "no mate in ") (decimal bound) refl (plain_all_printable (decimal bound) plain) in
    let long = length-append (codes "no mate in ") (decimal bound) in
    let marked : list_all is_printable (none_text bound ++ 34 ∷ []) ≡ true = list_all-both is_printable (none_text bound) (34 ∷ []) text refl in
    record {
      opcode = refl;
      operands = (
        (
          omega (arith, long, decimal_few bound),
          HaveNoQuote-both (codes "no mate in ") (decimal bound) refl
              (HaveNoQuote-word (decimal bound) (plain_word_bytes (decimal bound) plain)),
        ),
        tt,
      );
      printable = list_all-both is_printable (none_text bound ++ 34 ∷ []) [] marked refl;
    }

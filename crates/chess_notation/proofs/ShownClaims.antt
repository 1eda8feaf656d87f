-- The words of what a line claims are the operands of its `bm`.
use Rattle.std.proofs.Common.{◌≡◌, ◌≢◌, ℕ, zero, suc, ◌==◌, List, [], ◌∷◌, ◌++◌, Bool, true, false, length, map, replicate}
use Rattle.std.proofs.Common.{refl, ap, sym, ◌∙◌, inl, inr, if◌then◌else◌, codes, append_assoc, arith}
use Rattle.chess_notation.specs.Words.{behind, words_in}
use Rattle.chess_notation.specs.Operations.{Operand, IsOperand, AreWordBytes, HaveNoQuote, SpellsOperands, Operation, operand_text}
use Rattle.chess_notation.specs.Operations.Operand.{Word, Text}
use Rattle.chess_notation.specs.Claims.{AreOperandsOfKeys, bm_of, claim_words, claims_text, is_keys_segment, keys_text_in, operand_word, shut_from}
use Rattle.chess_notation.specs.Records.{HaveNoSpace, IsApart}
use Rattle.chess_notation.specs.RecordFields.{cut_of}
use Rattle.chess_notation.specs.RecordLaws.{ClaimsRead}
use Rattle.chess_notation.proofs.Members.{in_front, in_back, in_none, in_cases, in_same}
use Rattle.chess_notation.proofs.WordSplits.{not_byte}
use Rattle.chess_notation.proofs.WordLists.{words_spaces, words_front, no_words}
use Rattle.chess_notation.proofs.ShownOperations.{AreShown, shown_opcode, shown_other_opcode, word_bytes_no_space, operands_apart}
use Rattle.chess_notation.proofs.LineReads.{segments_are}

-- What becomes of spaces, of a word, and of a string.
shut_blank : (n : ℕ) → shut_from false (replicate n 32) ≡ replicate n 32
shut_blank zero = refl
shut_blank (suc n) = ap (λ t. 32 ∷ t) (shut_blank n)

shut_spaces : (n : ℕ) (text : List ℕ) → shut_from false (replicate n 32 ++ text) ≡ replicate n 32 ++ shut_from false text
shut_spaces zero text = refl
shut_spaces (suc n) text = ap (λ t. 32 ∷ t) (shut_spaces n text)

shut_word : (word rest : List ℕ) → AreWordBytes word → shut_from false (word ++ rest) ≡ word ++ shut_from false rest
shut_word [] rest h = refl
shut_word (b ∷ bs) rest h =
    let other : (b == 34) ≡ false = not_byte b 34 h.1 in
    rw other (ap (λ t. b ∷ t) (shut_word bs rest h.3))

shut_string : (text rest : List ℕ) → HaveNoQuote text → shut_from true (text ++ 34 ∷ rest) ≡ replicate (length text) 34 ++ 34 ∷ shut_from false rest
shut_string [] rest h = refl
shut_string (b ∷ bs) rest h =
    let other : (b == 34) ≡ false = not_byte b 34 h.0 in
    rw other (ap (λ t. 34 ∷ t) (shut_string bs rest h.1))

shut_operand : (operand : Operand) (rest : List ℕ) → IsOperand operand
    → shut_from false (operand_text operand ++ rest) ≡ operand_word operand ++ shut_from false rest
shut_operand (Word word) rest h = shut_word word rest h.1
shut_operand (Text text) rest h =
    let marks : List ℕ = replicate (length text) 34 in
    ap (λ t. 34 ∷ t) (ap (shut_from true) (append_assoc text (34 ∷ []) rest) ∙ shut_string text rest h.1
    ∙ sym (append_assoc marks (34 ∷ []) (shut_from false rest)))

mark_no_space : ◌≢◌ {A = ℕ} 34 32
mark_no_space e = omega arith

marks_no_space : (n : ℕ) → HaveNoSpace (replicate n 34 ++ 34 ∷ [])
marks_no_space zero = (mark_no_space, tt)
marks_no_space (suc n) = (mark_no_space, marks_no_space n)

operand_no_space : (operand : Operand) → IsOperand operand → HaveNoSpace (operand_word operand)
operand_no_space (Word word) h = word_bytes_no_space word h.1
operand_no_space (Text text) h = (mark_no_space, marks_no_space (length text))

operand_some : (operand : Operand) → IsOperand operand → operand_word operand ≢ []
operand_some (Word word) h = h.0
operand_some (Text text) h = λ e. cc

shut_apart : (rest : List ℕ) → IsApart rest → IsApart (shut_from false rest)
shut_apart [] h = tt
shut_apart (b ∷ bs) h = rw h refl

-- So the words are the operands.
pub operand_words_shut : (operands : List Operand) (text : List ℕ) → SpellsOperands text operands
    → words_in (shut_from false text) ≡ map operand_word operands
operand_words_shut [] text h = ap (λ t. words_in (shut_from false t)) h.1 ∙ ap words_in (shut_blank h.0) ∙ no_words h.0
operand_words_shut (operand ∷ operands) text h =
    let word = operand_word operand in
    let back = shut_from false h.1 in
    ap (λ t. words_in (shut_from false t)) h.2
    ∙ ap words_in (shut_spaces (suc h.0) (operand_text operand ++ h.1) ∙ ap (λ t. replicate (suc h.0) 32 ++ t) (shut_operand operand h.1 h.3))
    ∙ words_spaces (suc h.0) (word ++ back)
    ∙ words_front word back (operand_no_space operand h.3) (operand_some operand h.3) (shut_apart h.1 (operands_apart operands h.1 h.4))
    ∙ ap (λ ws. word ∷ ws) (operand_words_shut operands h.1 h.4)

abbrev words_behind : List ℕ → List (List ℕ)
words_behind text = words_in (shut_from false text)

no_more_bm : (operation : Operation) (operations : List Operation) (words : List (List ℕ)) → operation.opcode ≢ codes "bm"
    → AreOperandsOfKeys operations words → AreOperandsOfKeys (operation ∷ operations) words
no_more_bm operation operations words other (inl h) = inl (
  (λ o inside. (elim (in_cases operation operations o inside) [
    | inl e ↦ (λ bm. other (sym (ap (λ x. x.opcode) e) ∙ bm))
    | inr more ↦ h.0 o more
  ])),
  h.1,
)
no_more_bm operation operations words other (inr h) = inr (h.0, in_back operation operations (bm_of h.0) h.1, h.2)

keys_operands : (segments : List (List ℕ)) (operations : List Operation) → AreShown segments operations
    → AreOperandsOfKeys operations (words_behind (keys_text_in segments))
unfolding keys_text_in
keys_operands [] [] shown = inl ((λ o inside. absurd (in_none o inside)), no_words 0)
keys_operands [] (operation ∷ operations) shown = absurd shown
keys_operands (segment ∷ segments) [] shown = absurd shown
keys_operands (segment ∷ segments) (operation ∷ operations) shown =
    by_test (is_keys_segment segment) refl (keys_operands segments operations shown.1) where
      by_test : (keys : Bool) → is_keys_segment segment ≡ keys → AreOperandsOfKeys operations (words_behind (keys_text_in segments))
          → AreOperandsOfKeys (operation ∷ operations) (words_behind (if keys then behind segment else keys_text_in segments))
      by_test true e later =
          let opcode = shown_opcode (codes "bm") segment operation shown.0 e in
          let bm : bm_of operation.operands ≡ operation = λ i. record { opcode = sym opcode i; operands = operation.operands } in
          inr (
            operation.operands,
            in_same (operation ∷ operations) (bm_of operation.operands) operation bm
                (in_front operation operations),
            operand_words_shut operation.operands (behind segment) shown.0.operands,
          )
      by_test false e later = no_more_bm operation operations (words_behind (keys_text_in segments))
          (shown_other_opcode (codes "bm") refl segment operation shown.0 e) later

pub claims_read : ClaimsRead
unfolding claim_words claims_text
claims_read line default r h = keys_operands (cut_of line).ended h.operations (segments_are line default r h).shown

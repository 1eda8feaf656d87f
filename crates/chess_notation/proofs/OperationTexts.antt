-- Operations that are spelled are cut into their segments, and these pass the tests.
use Rattle.std.proofs.Common.{◌≡◌, ℕ, zero, suc, List, [], ◌∷◌, ◌++◌, true, false, refl, ap, sym, ◌∙◌, replicate, subst}
use Rattle.std.specs.List.{list_all}
use Rattle.std.proofs.lemmas.List.{append-nil}
use Rattle.chess_notation.specs.Words.{is_blank}
use Rattle.chess_notation.specs.Segments.{Segments, with_segment, segments_of}
use Rattle.chess_notation.specs.Quoting.{strings_fit}
use Rattle.chess_notation.specs.Operations.{is_opcode, Operand, operand_text, IsOperand, AreWordBytes, HaveNoQuote}
use Rattle.chess_notation.specs.Operations.{SpellsOperands, Operation, SpellsOperation, SpellsOperations}
use Rattle.chess_notation.specs.Operations.Operand.{Word, Text}
use Rattle.chess_notation.specs.EpdFaults.{has_opcode}
use Rattle.chess_notation.proofs.WordSplits.{word_again, spaces_blank}
use Rattle.chess_notation.proofs.OperandTexts.{spelled_done}
use Rattle.chess_notation.proofs.SegmentCuts.{with_front-none, Passes, passes_none, passes_mark, passes_other}
use Rattle.chess_notation.proofs.SegmentCuts.{passes_append, passes_cons, segments_of_ended}
use Rattle.chess_notation.proofs.ShownOperations.{IsShown, AreShown, opcode_is_word, word_bytes_no_space, opcode_fits, operands_apart}

passes_space : Passes false (32 ∷ []) false
passes_space = record { passes = λ more. refl }

passes_spaces : (n : ℕ) → Passes false (replicate n 32) false
passes_spaces zero = passes_none false
passes_spaces (suc n) = passes_cons false 32 false (replicate n 32) false passes_space (passes_spaces n)

passes_word : (word : List ℕ) → AreWordBytes word → Passes false word false
passes_word [] bytes = passes_none false
passes_word (b ∷ bs) bytes = passes_cons false b false bs false (passes_other false b bytes.1 (λ o. bytes.2)) (passes_word bs bytes.3)

passes_string : (text : List ℕ) → HaveNoQuote text → Passes true (text ++ 34 ∷ []) false
passes_string [] bytes = passes_mark true
passes_string (b ∷ bs) bytes = passes_cons true b true (bs ++ 34 ∷ []) false (passes_other true b bytes.0 (λ o. (cc))) (passes_string bs bytes.1)

passes_operand : (operand : Operand) → IsOperand operand → Passes false (operand_text operand) false
passes_operand (Word word) is = passes_word word is.1
passes_operand (Text text) is = passes_cons false 34 true (text ++ 34 ∷ []) false (passes_mark false) (passes_string text is.1)

passes_operands : (operands : List Operand) (text : List ℕ) → SpellsOperands text operands → Passes false text false
passes_operands [] text h = rw h.1 (passes_spaces h.0)
passes_operands (operand ∷ operands) text h =
    let token = passes_append false (operand_text operand) false h.1 false (passes_operand operand h.3) (passes_operands operands h.1 h.4) in
    rw h.2 (passes_append false (replicate (suc h.0) 32) false (operand_text operand ++ h.1) false (passes_spaces (suc h.0)) token)

record IsSegment (segment : List ℕ) (operation : Operation) : Type 0 where
  pub passes : Passes false segment false
  pub opcode : has_opcode segment ≡ true
  pub fits : strings_fit segment ≡ true
  pub shown : IsShown segment operation

spelled_segment : (segment : List ℕ) (operation : Operation) → SpellsOperation segment operation → IsSegment segment operation
spelled_segment segment operation h =
    let word = opcode_is_word operation.opcode h.3 in
    let apart = operands_apart operation.operands h.1 h.4 in
    let found = word_again h.0 segment operation.opcode h.1 h.2 (word_bytes_no_space operation.opcode word.0) word.1 apart in
    let done = spelled_done operation.operands h.1 h.4 in
    let rest = passes_append false operation.opcode false h.1 false (passes_word operation.opcode word.0)
    (passes_operands operation.operands h.1 h.4) in
    let P : List ℕ → Type 0 = λ t. SpellsOperands t operation.operands in
    record {
      passes = rw h.2 (passes_append false (replicate h.0 32) false (operation.opcode ++ h.1) false (passes_spaces h.0) rest);
      opcode = ap is_opcode found.word_is ∙ h.3;
      fits = ap strings_fit h.2 ∙ opcode_fits h.0 operation.opcode h.1 word.0 word.1 ∙ done.plain;
      shown = record { opcode = found.word_is; operands = subst P (sym found.rest_is) h.4 };
    }

pub record AreSegments (cut : Segments) (operations : List Operation) : Type 0 where
  pub opcodes : list_all has_opcode cut.ended ≡ true
  pub fit : list_all strings_fit cut.ended ≡ true
  pub blank : is_blank cut.rest ≡ true
  pub shown : AreShown cut.ended operations

pub spelled_segments : (operations : List Operation) (text : List ℕ) → SpellsOperations text operations → AreSegments (segments_of text) operations
spelled_segments [] text h =
    let spaces : segments_of text ≡ record { ended = []; rest = replicate h.0 32 } =
    ap segments_of (h.1 ∙ sym (append-nil (replicate h.0 32))) ∙ (passes_spaces h.0).passes [] ∙ with_front-none (replicate h.0 32) []
    ∙ ap (λ t. record { ended = []; rest = t }) (append-nil (replicate h.0 32)) in
    rw spaces (record { opcodes = refl; fit = refl; blank = spaces_blank h.0; shown = tt })
spelled_segments (operation ∷ operations) text h =
    let segment = spelled_segment h.0 operation h.3 in
    let more = spelled_segments operations h.1 h.4 in
    let cut : segments_of text ≡ with_segment h.0 (segments_of h.1) = ap segments_of h.2 ∙ segments_of_ended h.0 h.1 segment.passes in
    rw cut (record {
      opcodes = rw segment.opcode more.opcodes;
      fit = rw segment.fits more.fit;
      blank = more.blank;
      shown = (segment.shown, more.shown);
    })

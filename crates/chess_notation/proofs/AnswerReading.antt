-- An answer says the record that it was made for.
use Rattle.std.proofs.Common.{◌≡◌, ℕ, ◌≤◌, List, [], ◌∷◌, ◌++◌, true, length, refl, ap, sym, ◌∙◌, subst, inl, inr, append_assoc, replicate}
use Rattle.std.specs.List.{list_all}
use Rattle.chess_board.specs.Positions.{Setup}
use Rattle.chess_board.specs.Soundness.{IsSound}
use Rattle.chess_board.specs.Fields.{IsCounter}
use Rattle.chess_board.specs.Fens.{fields_text, position_text}
use Rattle.chess_board.specs.Laws.{PrintedSpells}
use Rattle.chess_board.specs.Moves.{Move}
use Rattle.chess_moves.specs.Laws.{LegalListed}
use Rattle.chess_problems.specs.declared.outcomes.Outcome.TheVariants.{Mate, NoMate}
use Rattle.chess_notation.specs.Operations.{Operation, Entry, SpellsOperations, is_printable}
use Rattle.chess_notation.specs.Records.{RecordValue, IsApart, IsWord, SpellsWords, field_words, SpellsRest, Reads, max_line}
use Rattle.chess_notation.specs.Answers.{entries_text, answer_text}
use Rattle.chess_problems.specs.Outcomes.{IsPlayable}
use Rattle.chess_notation.specs.RecordLaws.{AnswerReads}
use Rattle.chess_notation.proofs.PlainBytes.{list_all-parts, list_all-both, visible_word}
use Rattle.chess_notation.proofs.MergedOperations.{Each}
use Rattle.chess_notation.proofs.SpellableOperations.{IsSpellable, spelled_operations, printed_operations, spellable_operations}
use Rattle.chess_notation.proofs.OwnOperations.{keys_spellable, line_spellable}
use Rattle.chess_notation.proofs.KeptOperations.{AreCopied, are_copied}
use Rattle.chess_notation.proofs.AvoidMoveAnswers.{avoid_of_answer}
use Rattle.chess_notation.proofs.AnswerContents.{IsAnswered, none_answered, mate_answered}

-- What stands behind the words of a printable text is printable.
words_tail : (IsOne : List ℕ → Type 0) (words : List (List ℕ)) (text tail : List ℕ)
    → SpellsWords IsOne text words tail → list_all is_printable text ≡ true
    → list_all is_printable tail ≡ true
words_tail IsOne [] text tail h printable = sym (ap (list_all is_printable) h) ∙ printable
words_tail IsOne (word ∷ words) text tail (n, rest, e, is, apart, spelt) printable =
    let parts = list_all-parts is_printable (replicate n 32) (word ++ rest) (sym (ap (list_all is_printable) e) ∙ printable) in
    words_tail IsOne words rest tail spelt (list_all-parts is_printable word rest parts.1).1

rest_spellable : (operations : List Operation) (tail : List ℕ) → SpellsRest tail operations
    → list_all is_printable tail ≡ true → Each IsSpellable operations
rest_spellable operations tail (inl spelt) printable = spellable_operations operations tail spelt printable
rest_spellable operations tail (inr (halfmove, fullmove, rest, words, spelt)) printable =
    spellable_operations operations rest spelt (words_tail IsCounter (halfmove ∷ fullmove ∷ []) tail rest words printable)

-- What a record keeps comes from operations of the line.
copied_of : (line : List ℕ) (asked : ℕ) (r : RecordValue) (reads : Reads line asked r) → AreCopied reads.operations r.rest
copied_of line asked r reads =
    let behind = words_tail IsWord (field_words reads.fields) line reads.tail reads.words reads.printable in
    let spellable = rest_spellable reads.operations reads.tail reads.spelt behind in
    are_copied reads.operations r.rest
    (λ entry at. let kept = (reads.kept.1 entry).0 at in (kept.0, (spellable kept.0 kept.1, kept.2, kept.1), kept.3))

entries_apart : (entries : List Entry) → IsApart (entries_text entries)
entries_apart [] = tt
entries_apart (entry ∷ entries) = refl

-- Four words, each but the first behind a space.
four_words : (a b c d tail : List ℕ) → IsWord a → IsWord b → IsWord c → IsWord d → IsApart tail
    → SpellsWords IsWord ((a ++ 32 ∷ b ++ 32 ∷ c ++ 32 ∷ d) ++ tail) (a ∷ b ∷ c ∷ d ∷ []) tail
four_words a b c d tail a_is b_is c_is d_is apart =
    let last = 32 ∷ (d ++ tail) in
    let third = 32 ∷ (c ++ last) in
    let second = 32 ∷ (b ++ third) in
    let whole : (a ++ 32 ∷ b ++ 32 ∷ c ++ 32 ∷ d) ++ tail ≡ a ++ second =
    append_assoc (a ++ 32 ∷ b ++ 32 ∷ c) (32 ∷ d) tail ∙ append_assoc (a ++ 32 ∷ b) (32 ∷ c) last ∙ append_assoc a (32 ∷ b) third in
    (0, second, whole, a_is, refl, (1, third, refl, b_is, refl, (1, last, refl, c_is, refl, (1, tail, refl, d_is, apart, refl))))

four_printable : (a b c d : List ℕ) → list_all is_printable a ≡ true → list_all is_printable b ≡ true
    → list_all is_printable c ≡ true → list_all is_printable d ≡ true
    → list_all is_printable (a ++ 32 ∷ b ++ 32 ∷ c ++ 32 ∷ d) ≡ true
four_printable a b c d a_is b_is c_is d_is =
    let two = list_all-both is_printable a (32 ∷ b) a_is b_is in
    let three = list_all-both is_printable (a ++ 32 ∷ b) (32 ∷ c) two c_is in
    list_all-both is_printable (a ++ 32 ∷ b ++ 32 ∷ c) (32 ∷ d) three d_is

-- A sound position's text with an answer's operations behind it is a record.
answer_says : PrintedSpells → (p : Setup) (default asked : ℕ) (avoid : List Move) (entries rest : List Entry) → IsSound p
    → IsAnswered p avoid entries rest default asked
    → length (position_text p ++ entries_text entries) ≤ max_line
    → Reads (position_text p ++ entries_text entries) default (record { position = p; bound = asked; avoid = avoid; rest = rest })
unfolding position_text
answer_says printed p default asked avoid entries rest sound answered short =
    let fields = fields_text p in
    let are = printed p sound in
    let placement = visible_word fields.placement are.placement in
    let side = visible_word fields.side are.side in
    let castling = visible_word fields.castling are.castling in
    let target = visible_word fields.target are.target in
    let all = answered.operations in
    let spellable = answered.answer.spellable in
    let front = four_printable fields.placement fields.side fields.castling fields.target placement.1 side.1 castling.1 target.1 in
    let back = subst (λ es. list_all is_printable (entries_text es) ≡ true) answered.shown (printed_operations all spellable) in
    record {
      short = short;
      printable = list_all-both is_printable (position_text p) (entries_text entries) front back;
      fields = fields;
      tail = entries_text entries;
      operations = all;
      words = four_words fields.placement fields.side fields.castling fields.target
          (entries_text entries) placement.0 side.0 castling.0 target.0 (entries_apart entries);
      position = are.spelt;
      sound = sound;
      spelt = inl (subst (λ es. SpellsOperations (entries_text es) all) answered.shown (spelled_operations all spellable));
      once = answered.answer.once;
      bound = answered.bound;
      avoid = answered.avoid_is;
      kept = answered.kept;
    }

pub answer_reads : PrintedSpells → LegalListed → AnswerReads
unfolding answer_text IsPlayable
answer_reads printed listed line asked default r (Mate dm keys pv) reads playable length short =
    let keys_can = keys_spellable listed r.position keys.items playable.0 in
    let line_can = line_spellable r.position pv.items playable.1 in
    let copied = copied_of line asked r reads in
    let avoids = avoid_of_answer reads.operations r.rest copied reads.once reads.kept r.position r.avoid reads.avoid in
    let answered = mate_answered r.position r.avoid keys.items pv.items default dm r.rest copied reads.kept.0
    avoids keys_can line_can length.0 length.1 in
    answer_says printed r.position default dm r.avoid _ r.rest reads.sound answered short
answer_reads printed listed line asked default r NoMate reads playable length short =
    let copied = copied_of line asked r reads in
    let avoids = avoid_of_answer reads.operations r.rest copied reads.once reads.kept r.position r.avoid reads.avoid in
    let answered = none_answered r.position r.avoid default r.bound r.rest copied reads.kept.0 avoids in
    answer_says printed r.position default default r.avoid _ r.rest reads.sound answered short

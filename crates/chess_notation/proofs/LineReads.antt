-- A line without a fault says a record, a line that says one has no fault, and it says no two.
use Rattle.std.proofs.Common.{◌≡◌, ◌≢◌, ℕ, List, [], Bool, true, false, refl, ap, sym, ◌∙◌, arith, subst, true≢false}
use Rattle.std.specs.List.{list_all}
use Rattle.chess_board.specs.Positions.{Setup}
use Rattle.chess_board.specs.Soundness.{IsSound}
use Rattle.chess_board.specs.Fens.{SpellsSetup}
use Rattle.chess_board.specs.Laws.{SpellsOne}
use Rattle.chess_moves.specs.Laws.{LegalListed}
use Rattle.chess_board.specs.declared.faults.FenFault.TheVariants.{FieldCount}
use Rattle.chess_notation.specs.declared.epd_faults.EpdFault.{EpdFault}
use Rattle.chess_notation.specs.declared.epd_faults.EpdFault.TheVariants.{TooLong, NotPrintable, Fen, BadOpcode, BadString}
use Rattle.chess_notation.specs.declared.epd_faults.EpdFault.TheVariants.{MissingSemicolon, DoubleOpcode, BadBound, BoundTooLarge}
use Rattle.chess_notation.specs.declared.epd_faults.EpdFault.TheVariants.{BadAvoid, NoMemory}
use Rattle.chess_notation.specs.Words.{is_blank}
use Rattle.chess_notation.specs.Segments.{Segments, segments_of}
use Rattle.chess_notation.specs.Quoting.{strings_fit}
use Rattle.chess_notation.specs.RecordFields.{fourth_word, line_fields, behind_fields, behind_counters, operations_in, cut_of}
use Rattle.chess_notation.specs.EpdFaults.{each_segment, has_opcode, has_names_if_avoid, IsAmissBy, HasNoFault}
use Rattle.chess_notation.specs.inside.RecordReading.{IsClearTo, bound_said, avoid_in, rest_of}
use Rattle.chess_notation.specs.Records.{RecordValue, Reads}
use Rattle.chess_notation.specs.RecordLaws.{RecordsClear, SaysOne}
use Rattle.chess_notation.proofs.FaultFree.{no_fault_passes}
use Rattle.chess_notation.proofs.OperationReading.{read_text}
use Rattle.chess_notation.proofs.OperationTexts.{AreSegments}
use Rattle.chess_notation.proofs.ShownRest.{distinct_once, once_distinct, rest_is_kept, rest_once}
use Rattle.chess_notation.proofs.ShownBounds.{IsBoundIn, bound_is_asked, asked_is_bound}
use Rattle.chess_notation.proofs.ShownAvoided.{AreAvoidedIn, names_are_avoided, avoided_are_named}
use Rattle.chess_notation.proofs.CounterWords.{rest_spelled, spelled_rest}
use Rattle.chess_notation.proofs.FieldWords.{read_fields, spelled_fields}
use Rattle.chess_notation.proofs.ClearFields.{fields_clear}

some_fourth : (line : List ℕ) → IsClearTo 9 line → fourth_word line ≢ []
unfolding IsClearTo
some_fourth line clear = clear (Fen FieldCount) (omega arith)

pub no_fault_reads : LegalListed → (line : List ℕ) (default : ℕ) (p : Setup) → IsClearTo 9 line → SpellsSetup (line_fields line) p → IsSound p
    → list_all (has_names_if_avoid p) (cut_of line).ended ≡ true
    → Reads line default (record {
      position = p;
      bound = bound_said (cut_of line).ended default;
      avoid = avoid_in p (cut_of line).ended;
      rest = rest_of (cut_of line).ended;
    })
unfolding cut_of operations_in
no_fault_reads listed line default p clear spelt sound names =
    let passed = no_fault_passes line clear in
    let segments = (segments_of (behind_counters (behind_fields line))).ended in
    let got = read_text (behind_counters (behind_fields line)) passed.opcodes passed.fit passed.blank in
    record {
      short = passed.short;
      printable = passed.printable;
      fields = line_fields line;
      tail = behind_fields line;
      operations = got.0;
      words = read_fields line (some_fourth line clear);
      position = spelt;
      sound = sound;
      spelt = rest_spelled (behind_fields line) got.0 got.1;
      once = distinct_once segments got.0 got.2 passed.distinct;
      bound = bound_is_asked segments got.0 default got.2 passed.numbers passed.small;
      avoid = names_are_avoided listed p segments got.0 got.2 names;
      kept = rest_is_kept segments got.0 got.2 passed.distinct;
    }

-- What is read of a line that says a record.
pub segments_are : (line : List ℕ) (default : ℕ) (r : RecordValue) → (h : Reads line default r) → AreSegments (cut_of line) h.operations
unfolding cut_of operations_in
segments_are line default r h =
    let there = (spelled_fields line h.fields h.tail h.words).tail_is in
    subst (λ t. AreSegments (segments_of (behind_counters t)) h.operations) (sym there) (spelled_rest h.operations h.tail h.spelt)

spelt_here : (line : List ℕ) (default : ℕ) (r : RecordValue) → Reads line default r → SpellsSetup (line_fields line) r.position
spelt_here line default r h = subst (λ f. SpellsSetup f r.position) (sym (spelled_fields line h.fields h.tail h.words).fields_are) h.position

bound_here : (line : List ℕ) (default : ℕ) (r : RecordValue) → Reads line default r → IsBoundIn (cut_of line).ended default r.bound
bound_here line default r h = asked_is_bound (cut_of line).ended h.operations default r.bound (segments_are line default r h).shown h.once h.bound

avoid_here : (line : List ℕ) (default : ℕ) (r : RecordValue) → Reads line default r → AreAvoidedIn r.position (cut_of line).ended r.avoid
avoid_here line default r h =
    avoided_are_named r.position (cut_of line).ended h.operations r.avoid (segments_are line default r h).shown h.once h.avoid

rest_here : (line : List ℕ) (default : ℕ) (r : RecordValue) → Reads line default r → r.rest ≡ rest_of (cut_of line).ended
rest_here line default r h =
    let shown = (segments_are line default r h).shown in
    rest_once h.operations r.rest (rest_of (cut_of line).ended) h.kept
    (rest_is_kept (cut_of line).ended h.operations shown (once_distinct (cut_of line).ended h.operations shown h.once))

pub says_one : SpellsOne → SaysOne
says_one one line default r other h k =
    let position : r.position ≡ other.position =
    one (line_fields line) r.position other.position (spelt_here line default r h) (spelt_here line default other k) in
    let bound : r.bound ≡ other.bound = (bound_here line default r h).same ∙ sym (bound_here line default other k).same in
    let avoid : r.avoid ≡ other.avoid =
    (avoid_here line default r h).same ∙ ap (λ p. avoid_in p (cut_of line).ended) position ∙ sym (avoid_here line default other k).same in
    let rest : r.rest ≡ other.rest = rest_here line default r h ∙ sym (rest_here line default other k) in
    λ i. record { position = position i; bound = bound i; avoid = avoid i; rest = rest i }

-- The segments pass each test, and nothing but spaces follows them.
each_passes : (test : List ℕ → Bool) (cut : Segments) → list_all test cut.ended ≡ true → is_blank cut.rest ≡ true → each_segment test cut ≡ true
each_passes test cut all blank = rw (all, blank) refl

pub records_clear : SpellsOne → RecordsClear
unfolding HasNoFault
records_clear one line default r h fault = by_fault fault where
  segments : AreSegments (cut_of line) h.operations
  segments = segments_are line default r h

  passes : (test : Bool) → test ≡ true → test ≡ false → ⊥
  passes test holds fails = true≢false (sym holds ∙ fails)

  by_fault : (fault : EpdFault) → IsAmissBy line fault → ⊥
  by_fault TooLong amiss = omega (arith, h.short)
  by_fault NotPrintable amiss = true≢false (sym h.printable ∙ amiss)
  by_fault (Fen fault) amiss =
      fields_clear one line r.position (spelled_fields line h.fields h.tail h.words).some (spelt_here line default r h) h.sound fault amiss
  by_fault BadOpcode amiss = passes _ (each_passes has_opcode (cut_of line) segments.opcodes segments.blank) amiss
  by_fault BadString amiss = passes _ (each_passes strings_fit (cut_of line) segments.fit segments.blank) amiss
  by_fault MissingSemicolon amiss = true≢false (sym segments.blank ∙ amiss)
  by_fault DoubleOpcode amiss = true≢false (sym (once_distinct (cut_of line).ended h.operations segments.shown h.once) ∙ amiss)
  by_fault BadBound amiss = true≢false (sym (bound_here line default r h).numbers ∙ amiss)
  by_fault BoundTooLarge amiss = true≢false (sym (bound_here line default r h).small ∙ amiss)
  by_fault BadAvoid (p, spelt, amiss) =
      let same : p ≡ r.position = one (line_fields line) p r.position spelt (spelt_here line default r h) in
      true≢false (sym (avoid_here line default r h).names ∙ sym (ap (λ q. list_all (has_names_if_avoid q) (cut_of line).ended) same) ∙ amiss)
  by_fault NoMemory amiss = amiss

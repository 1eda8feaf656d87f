use Rattle.std.proofs.Common.{◌≡◌, ◌⊎◌, ℕ, List, length, Result, Ok, Err, IfOk, OnOk, IfErr, true, ap, sym, ◌∙◌, subst, inl, inr, refl, arith}
use Rattle.std.specs.List.{list_all}
use Rattle.chess_board.specs.Positions.{Setup}
use Rattle.chess_notation.specs.declared.epd_faults.EpdFault.{EpdFault}
use Rattle.chess_notation.specs.declared.epd_faults.EpdFault.TheVariants.{BadAvoid, NoMemory}
use Rattle.chess_notation.specs.Segments.{segments_of}
use Rattle.chess_notation.specs.RecordFields.{operations_in, cut_of}
use Rattle.chess_notation.specs.EpdFaults.{is_small_if_bound}
use Rattle.chess_notation.specs.Records.{RecordValue}
use Rattle.chess_notation.specs.inside.RecordReading.{IsClearTo, avoid_in, rest_of}
use Rattle.chess_notation.proofs.FaultFree.{no_fault_passes, no_fault_opcodes, no_fault_distinct, no_fault_printable}
use Rattle.chess_notation.proofs.FaultFree.{operations_within, numbers_passed, clear_of_large}
use Rattle.chess_notation.proofs.LineReads.{says_one}
use Rattle.chess_notation.proofs.RecordMade.{IsChecked, made, made_reads, made_as, avoid_is_fault, large_is_fault}
use Rattle.chess_notation.proofs.record_reading.read_record.Goals as goal

-- the record that is made of operations, with this bound
abbrev asked_in : List ℕ → Setup → ℕ → RecordValue
asked_in text p bound = record { position = p; bound = bound; avoid = avoid_in p (segments_of text).ended; rest = rest_of (segments_of text).ended }

pub asked_of-requires : goal.asked_of-requires
unfolding cut_of
asked_of-requires c = record { numbers = rw c.operations_in-text.ensures (numbers_passed c.args.line.now c.in_ok-position.ensures.clear) }

pub returns-in_default-clause-refused : goal.returns-in_default-clause-refused
returns-in_default-clause-refused c =
    inl (large_is_fault c.args.line.now c.operations_in-text.result.now c.in_ok-position.ensures.clear
    c.operations_in-text.ensures c.in_default.ensures.large)

-- With bounds that are small enough the line has none of the first nine faults.
clear_to_nine : (line text : List ℕ) → text ≡ operations_in line → IsClearTo 8 line
    → list_all is_small_if_bound (segments_of text).ended ≡ true → IsClearTo 9 line
unfolding cut_of
clear_to_nine line text is clear small = clear_of_large line clear (sym (ap (λ t. list_all is_small_if_bound (segments_of t).ended) is) ∙ small)

pub record_of-requires-clause-short : goal.record_of-requires-clause-short
record_of-requires-clause-short c =
    let nine = clear_to_nine c.args.line.now c.operations_in-text.result.now c.operations_in-text.ensures
    c.in_ok-position.ensures.clear c.in-Some.ensures.small in
    let same = ap length c.operations_in-text.ensures in
    omega (arith, same, operations_within c.args.line.now, (no_fault_passes c.args.line.now nine).short)

pub record_of-requires-clause-printable : goal.record_of-requires-clause-printable
record_of-requires-clause-printable c =
    let nine = clear_to_nine c.args.line.now c.operations_in-text.result.now c.operations_in-text.ensures
    c.in_ok-position.ensures.clear c.in-Some.ensures.small in
    rw c.operations_in-text.ensures (no_fault_printable c.args.line.now nine)

pub record_of-requires-clause-opcodes : goal.record_of-requires-clause-opcodes
unfolding cut_of
record_of-requires-clause-opcodes c =
    let nine = clear_to_nine c.args.line.now c.operations_in-text.result.now c.operations_in-text.ensures
    c.in_ok-position.ensures.clear c.in-Some.ensures.small in
    rw c.operations_in-text.ensures (no_fault_opcodes c.args.line.now nine)

pub record_of-requires-clause-distinct : goal.record_of-requires-clause-distinct
unfolding cut_of
record_of-requires-clause-distinct c =
    let nine = clear_to_nine c.args.line.now c.operations_in-text.result.now c.operations_in-text.ensures
    c.in_ok-position.ensures.clear c.in-Some.ensures.small in
    rw c.operations_in-text.ensures (no_fault_distinct c.args.line.now nine)

-- What is said of the record that was made, and of none, said of the line.
when_made : {N : Type 0} (P : RecordValue → Type 0) (asked : RecordValue) (result : Result RecordValue EpdFault) → OnOk result N
    → IfOk result (λ r. r ≡ asked) → (N → P asked)
    → IfOk result P
when_made P asked (Ok r) names is says = subst P (sym is) (says names)
when_made P asked (Err fault) names is says = tt

when_none : {N M : Type 0} (P : EpdFault → Type 0) (result : Result RecordValue EpdFault)
    → IfErr result (λ fault. ((fault ≡ BadAvoid) × N) ⊎ ((fault ≡ NoMemory) × M))
    → (N → P BadAvoid) → (M → P NoMemory) → IfErr result P
when_none P (Ok r) is bad none = tt
when_none P (Err fault) (inl (e, n)) bad none = subst P (sym e) (bad n)
when_none P (Err fault) (inr (e, m)) bad none = subst P (sym e) (none m)

pub returns-clause-reads : goal.returns-clause-reads
returns-clause-reads c =
    let line = c.args.line.now in
    let text = c.operations_in-text.result.now in
    let nine = clear_to_nine line text c.operations_in-text.ensures c.in_ok-position.ensures.clear c.in-Some.ensures.small in
    when_made _ (asked_in text c.in_ok-position.position c.in-Some.asked.bound) c.record_of.result
    c.record_of.ensures.names c.record_of.ensures.made (λ names.
    let is : IsChecked line text c.in_ok-position.position =
    record {
      text_is = c.operations_in-text.ensures;
      clear = nine;
      spelt = c.in_ok-position.ensures.read.0;
      sound = c.in_ok-position.ensures.read.1;
      names = names;
    } in
    made_as c.legal_listed.ensures line text c.in_ok-position.position c.args.default c.in-Some.asked.bound _ _ is c.in-Some.ensures.bound refl refl)

pub returns-clause-only : goal.returns-clause-only
returns-clause-only c =
    let line = c.args.line.now in
    let text = c.operations_in-text.result.now in
    let nine = clear_to_nine line text c.operations_in-text.ensures c.in_ok-position.ensures.clear c.in-Some.ensures.small in
    when_made _ (asked_in text c.in_ok-position.position c.in-Some.asked.bound) c.record_of.result c.record_of.ensures.names
    c.record_of.ensures.made (λ names other reads.
    let is : IsChecked line text c.in_ok-position.position =
    record {
      text_is = c.operations_in-text.ensures;
      clear = nine;
      spelt = c.in_ok-position.ensures.read.0;
      sound = c.in_ok-position.ensures.read.1;
      names = names;
    } in
    says_one c.spells_one.ensures line c.args.default _ other
    (made_as c.legal_listed.ensures line text c.in_ok-position.position c.args.default c.in-Some.asked.bound _ _ is
    c.in-Some.ensures.bound refl refl) reads)

pub returns-clause-refused : goal.returns-clause-refused
returns-clause-refused c =
    let line = c.args.line.now in
    let text = c.operations_in-text.result.now in
    let nine = clear_to_nine line text c.operations_in-text.ensures c.in_ok-position.ensures.clear c.in-Some.ensures.small in
    when_none _ c.record_of.result c.record_of.ensures.refused
    (λ none. inl (avoid_is_fault line text c.in_ok-position.position nine c.in_ok-position.ensures.read.0 c.operations_in-text.ensures none))
    (λ both.
    let is : IsChecked line text c.in_ok-position.position =
    record {
      text_is = c.operations_in-text.ensures;
      clear = nine;
      spelt = c.in_ok-position.ensures.read.0;
      sound = c.in_ok-position.ensures.read.1;
      names = both.0;
    } in
    inr (
      refl,
      (
        made text c.in_ok-position.position c.args.default,
        made_reads c.legal_listed.ensures line text c.in_ok-position.position c.args.default is,
        both.1,
      ),
    ))

use Rattle.std.proofs.Common.{◌∙◌, Some, sym, ap}
use Rattle.chess_board.specs.Fields.{side_text}
use Rattle.chess_board.specs.Men.{other_side}
use Rattle.mate_tree.proofs.PassedSetups.{four_words, no_fault, no_one_word, ok_one, passed_safe, passed_setup}
use Rattle.mate_tree.proofs.PassedSetups.{passed_sound, read_spelt, three_words, two_words, words}
use Rattle.mate_tree.proofs.passing.passed.Goals as goal

pub returns-in_err-placement : goal.returns-in_err-placement
returns-in_err-placement c =
    let is = c.as_bytes.ensures.value ∙ c.as_str.ensures.value ∙ c.text-text.ensures.text in
    let four = ap words is ∙ four_words c.args.position.now (c.printed_spells.ensures c.args.position.now c.text-text.ensures.sound) in
    absurd (no_one_word c.as_bytes.result.now _ _ _ four c.in_err-placement.ensures.none)

pub returns-in_err-rest : goal.returns-in_err-rest
returns-in_err-rest c =
    let is = c.as_bytes.ensures.value ∙ c.as_str.ensures.value ∙ c.text-text.ensures.text in
    let printed = c.printed_spells.ensures c.args.position.now c.text-text.ensures.sound in
    let three = three_words c.args.position.now c.as_bytes.result.now c.in_ok-placement.placement.now c.in_ok-placement.rest.now
    printed is c.in_ok-placement.ensures.cut in
    absurd (no_one_word c.in_ok-placement.rest.now _ _ _ three c.in_err-rest.ensures.none)

pub returns-in_err-castling : goal.returns-in_err-castling
returns-in_err-castling c =
    let is = c.as_bytes.ensures.value ∙ c.as_str.ensures.value ∙ c.text-text.ensures.text in
    let printed = c.printed_spells.ensures c.args.position.now c.text-text.ensures.sound in
    let two = two_words c.args.position.now c.as_bytes.result.now c.in_ok-placement.placement.now c.in_ok-placement.rest.now
    c.in_ok-rest.field-0-0.now c.in_ok-rest.rest.now printed is c.in_ok-placement.ensures.cut c.in_ok-rest.ensures.cut in
    absurd (no_one_word c.in_ok-rest.rest.now _ _ _ two c.in_err-castling.ensures.none)

pub returns-in-Ok : goal.returns-in-Ok
returns-in-Ok c =
    let p = c.args.position.now in
    let is = c.as_bytes.ensures.value ∙ c.as_str.ensures.value ∙ c.text-text.ensures.text in
    let printed = c.printed_spells.ensures p c.text-text.ensures.sound in
    let safe = sym c.in_check.ensures ∙ c.if-in_check.false in
    let other = c.other_letter.ensures ∙ ap (λ s. side_text (other_side s)) c.side.ensures.side in
    let spelt = read_spelt p c.as_bytes.result.now c.in_ok-placement.placement.now c.in_ok-placement.rest.now
    c.in_ok-rest.field-0-0.now c.in_ok-rest.rest.now
    c.in_ok-castling.castling.now c.in_ok-castling.field-0-1.now c.other_letter.result.now printed is
    c.in_ok-placement.ensures.cut c.in_ok-rest.ensures.cut c.in_ok-castling.ensures.cut other in
    let same = ok_one c.read_fields.result c.in-Ok.other (passed_setup p) c.in-Ok.is
    ((c.read_fields.ensures.exact (passed_setup p)).1 (spelt, passed_sound p c.side.ensures.sound safe)) in
    ap Some same ∙ sym (passed_safe p safe)

pub returns-in-Err : goal.returns-in-Err
returns-in-Err c =
    let p = c.args.position.now in
    let is = c.as_bytes.ensures.value ∙ c.as_str.ensures.value ∙ c.text-text.ensures.text in
    let printed = c.printed_spells.ensures p c.text-text.ensures.sound in
    let safe = sym c.in_check.ensures ∙ c.if-in_check.false in
    let other = c.other_letter.ensures ∙ ap (λ s. side_text (other_side s)) c.side.ensures.side in
    let spelt = read_spelt p c.as_bytes.result.now c.in_ok-placement.placement.now c.in_ok-placement.rest.now
    c.in_ok-rest.field-0-0.now c.in_ok-rest.rest.now
    c.in_ok-castling.castling.now c.in_ok-castling.field-0-1.now c.other_letter.result.now printed is
    c.in_ok-placement.ensures.cut c.in_ok-rest.ensures.cut c.in_ok-castling.ensures.cut other in
    absurd (no_fault c.read_fields.result c.in-Err.field-0 (passed_setup p) c.in-Err.is
    ((c.read_fields.ensures.exact (passed_setup p)).1 (spelt, passed_sound p c.side.ensures.sound safe)))

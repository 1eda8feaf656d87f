use Rattle.std.proofs.Common.{◌≡◌, ap, arith, inr, sym, true, ◌∙◌}
use Rattle.chess_notation.specs.Words.{word_at}
use Rattle.problem_import.specs.PopeyeProblems.{command_of, is_begin}
use Rattle.problem_import.proofs.Sources.{begins_none, border_begun, first_begun, moves_read, no_bracket, words_taken, worded}
use Rattle.problem_import.proofs.reading.Reading.take_untagged.Goals as goal

pub returns-then-is_border-clause-from : goal.returns-then-is_border-clause-from
returns-then-is_border-clause-from c = λ letters lines own line (at, count) says known before.
    c.in_ok-begin_olive.ensures.from letters lines own (inr (line, at)) (known.by, known.held)
    (border_begun lines own line c.args.line.now.text.now at says (sym c.is_border.ensures ∙ c.if-is_border.true)) before

pub returns-then-is_begin-clause-from : goal.returns-then-is_begin-clause-from
returns-then-is_begin-clause-from c = λ letters lines own line (at, count) says known before.
    let text = c.args.line.now.text.now in
    let rest = c.word_at.result.1.now in
    let begins : is_begin (command_of (word_at text)) ≡ true =
    ap (λ w. is_begin (command_of w)) (sym c.word_at.ensures.word) ∙ sym c.is_begin.ensures ∙ c.if-is_begin.true in
    c.in_ok-begin_popeye.ensures.from letters lines own (inr (line, at)) (known.by, known.held) (first_begun lines own line text rest at says begins c.word_at.ensures.rest)
    before

pub take_olive-requires-clause-other : goal.take_olive-requires-clause-other
take_olive-requires-clause-other c =
    begins_none c.args.line.now.text.now c.is_border.result c.is_begin.result c.requires.tag c.is_border.ensures c.if-is_border.false
    (c.is_begin.ensures ∙ ap (λ w. is_begin (command_of w)) c.word_at.ensures.word) c.if-is_begin.false

pub returns-then-is_popeyes-clause-from : goal.returns-then-is_popeyes-clause-from
returns-then-is_popeyes-clause-from c = λ letters lines own line (at, count) says known before.
    let text = c.args.line.now.text.now in
    let (words, are, on, read) = worded letters own c.args.self.now.open (sym c.is_popeyes.ensures ∙ c.if-is_popeyes.true) known.held in
    let other = begins_none text c.is_border.result c.is_begin.result c.requires.tag c.is_border.ensures c.if-is_border.false
    (c.is_begin.ensures ∙ ap (λ w. is_begin (command_of w)) c.word_at.ensures.word) c.if-is_begin.false in
    c.in_ok-take_popeye.ensures.from letters lines words known.by read
    (words_taken lines own words line text at says c.requires.plain other
    (no_bracket c.args.self.now.open text (sym c.is_popeyes.ensures ∙ c.if-is_popeyes.true) c.requires.bracket) are on) before

pub returns-then-not-begins_with_placement-clause-from : goal.returns-then-not-begins_with_placement-clause-from
returns-then-not-begins_with_placement-clause-from c = λ letters lines own line (at, count) says known before.
    let (of, all) = c.in_ok-take_movetext.ensures.from letters lines
    (moves_read letters lines own line c.args.line.now.text.now c.args.self.now.open (sym c.passes.ensures ∙ c.if-passes.true)
    (λ game begun. known.unbroken game (omega (arith, count, c.requires.goes_on begun))) at says c.requires.tag known.held) before in
    ((c.take_movetext.ensures.letters ∙ known.by, of), all)

pub returns-then-not-is_placement-clause-from : goal.returns-then-not-is_placement-clause-from
returns-then-not-is_placement-clause-from c = λ letters lines own line (at, count) says known before.
    c.in_ok-take_olive.ensures.from letters lines own line at says (known.by, known.held) before

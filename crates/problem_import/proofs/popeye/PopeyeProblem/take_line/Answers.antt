use Rattle.std.proofs.Common.{◌≡◌, ◌∷◌, false, refl, ap, sym, ◌∙◌, subst}
use Rattle.chess_notation.proofs.WordLists.{words_none}
use Rattle.problem_import.specs.PopeyeProblems.{has_end, said_onto}
use Rattle.problem_import.specs.inside.ReadProblems.{IsRead}
use Rattle.problem_import.proofs.ReadProblems.{ending_behind, goes_on_open, next_words, onto_last, onto_next}
use Rattle.problem_import.proofs.popeye.PopeyeProblem.take_line.Goals as goal

pub returns-then-branch-clause-read : goal.returns-then-branch-clause-read
returns-then-branch-clause-read c = λ words read.
    let (said, of, still, same) = c.loop-rest.invariant words in
    let word = c.word_at.result.0.now in
    let next = next_words c.loop-rest.rest.now word c.word_at.result.1.now (sym c.is_blank.ensures ∙ c.loop-rest-test.true) c.word_at.ensures.word
    c.word_at.ensures.rest in
    subst (λ all. IsRead all c.take_word.new.self)
    (sym (onto_last c.loop-rest.rest.now word c.word_at.result.1.now said next (sym c.in_ok-take_word.ensures.ends ∙ c.if-branch.true)) ∙ same)
    (c.in_ok-take_word.ensures.read said (of read))

pub returns-then-branch-clause-ends : goal.returns-then-branch-clause-ends
returns-then-branch-clause-ends c =
    let word = c.word_at.result.0.now in
    let next = next_words c.loop-rest.rest.now word c.word_at.result.1.now (sym c.is_blank.ensures ∙ c.loop-rest-test.true) c.word_at.ensures.word
    c.word_at.ensures.rest in
    ending_behind c.args.line.now c.loop-rest.rest.now word c.word_at.result.1.now c.ending_of.result next
    (sym c.in_ok-take_word.ensures.ends ∙ c.if-branch.true) c.ending_of.ensures
    (λ words. let (said, of, still, same) = c.loop-rest.invariant words in (said, still, same))

pub loop-rest-init : goal.loop-rest-init
loop-rest-init c = λ words. (words, (λ read. read), (λ still. still), refl)

pub loop-rest-preserved : goal.loop-rest-preserved
loop-rest-preserved c = λ words.
    let (said, of, still, same) = c.loop-rest.invariant words in
    let word = c.word_at.result.0.now in
    let goes_on = sym c.in_ok-take_word.ensures.ends ∙ c.if-branch.false in
    let next = next_words c.loop-rest.rest.now word c.word_at.result.1.now (sym c.is_blank.ensures ∙ c.loop-rest-test.true) c.word_at.ensures.word
    c.word_at.ensures.rest in (
      word ∷ said,
      (λ read. c.in_ok-take_word.ensures.read said (of read)),
      (λ none. goes_on_open word said goes_on (still none)),
      sym (onto_next c.loop-rest.rest.now word c.word_at.result.1.now said next goes_on) ∙ same,
    )

pub returns-clause-read : goal.returns-clause-read
returns-clause-read c = λ words read.
    let (said, of, still, same) = c.loop-rest.invariant words in
    subst (λ all. IsRead all c.loop-rest.self)
    (sym (ap (λ ws. said_onto ws said) (words_none c.loop-rest.rest.now (sym c.is_blank.ensures ∙ c.loop-rest-test.false))) ∙ same) (of read)

pub returns-clause-ends : goal.returns-clause-ends
returns-clause-ends c = λ words none.
    let (said, of, still, same) = c.loop-rest.invariant words in
    subst (λ all. has_end all ≡ false)
    (sym (ap (λ ws. said_onto ws said) (words_none c.loop-rest.rest.now (sym c.is_blank.ensures ∙ c.loop-rest-test.false))) ∙ same) (still none)

use Rattle.std.proofs.Common.{◌∷◌, ap, sym, ◌∙◌, subst}
use Rattle.chess_notation.proofs.WordLists.{words_none}
use Rattle.problem_import.specs.OliveProblems.{item, items_onto}
use Rattle.problem_import.specs.inside.ReadProblems.{AreRead, TakesItem}
use Rattle.problem_import.proofs.ReadProblems.{next_words}
use Rattle.problem_import.proofs.olive.OliveProblem.take_items.Goals as goal

pub loop-rest-preserved : goal.loop-rest-preserved
unfolding TakesItem
loop-rest-preserved c = λ said read.
    let (now, of, same) = c.loop-rest.invariant said read in
    let word = c.word_at.result.0.now in
    let next = next_words c.loop-rest.rest.now word c.word_at.result.1.now (sym c.is_blank.ensures ∙ c.loop-rest-test.true) c.word_at.ensures.word
    c.word_at.ensures.rest in
    (item word ∷ now, c.take_item.ensures now of, sym (ap (λ words. items_onto words now) next) ∙ same)

pub returns : goal.returns
returns c = λ said read.
    let (now, of, same) = c.loop-rest.invariant said read in
    subst (λ all. AreRead all c.loop-rest.self)
    (sym (ap (λ words. items_onto words now) (words_none c.loop-rest.rest.now (sym c.is_blank.ensures ∙ c.loop-rest-test.false))) ∙ same) of

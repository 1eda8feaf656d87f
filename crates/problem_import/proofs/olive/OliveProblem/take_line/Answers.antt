use Rattle.std.proofs.Common.{ap, ◌∙◌, map, subst}
use Rattle.chess_notation.specs.Words.{words_in}
use Rattle.problem_import.specs.OliveProblems.{items_onto, key_onto, without_mark}
use Rattle.problem_import.specs.inside.ReadProblems.{AreRead}
use Rattle.problem_import.proofs.ReadItems.{are_kept}
use Rattle.problem_import.proofs.olive.OliveProblem.take_line.Goals as goal

pub returns-then-not-matches : goal.returns-then-not-matches
returns-then-not-matches c = λ said read. read

pub returns : goal.returns
returns c = λ said read.
    let onto = key_onto c.args.line.now said in
    let keyed = c.take_key-value.ensures.read said read in
    let kept = are_kept onto c.take_key-value.new.self c.take_text.new.self c.in_ok-take_text.ensures keyed in
    subst (λ text. AreRead (items_onto (words_in text) onto) c.take_items.new.self)
    (c.as_slice.ensures.value ∙ c.in_ok-items.ensures ∙ ap (map without_mark) c.take_key-value.ensures.value)
    (c.take_items.ensures onto kept)

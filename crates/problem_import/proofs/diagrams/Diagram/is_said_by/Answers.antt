use Rattle.std.proofs.Common.{◌≡◌, Ok, Err, IfOk, sym, ◌∙◌, subst}
use Rattle.chess_board.specs.Fens.{SpellsSetup}
use Rattle.problem_import.specs.inside.ReadProblems.{IsSet, IsSetAs}
use Rattle.problem_import.proofs.diagrams.Diagram.is_said_by.Goals as goal

pub returns-in-Ok : goal.returns-in-Ok
unfolding IsSetAs
returns-in-Ok c = λ yes p spells sound.
    let read = (c.read_fields.ensures.exact p).1 (subst (λ f. SpellsSetup f p) c.four_words-fields.ensures.fields spells, sound) in
    subst (λ r. IfOk r (IsSet c.args.self.now.men)) (sym c.in-Ok.is ∙ read) (c.is_set_in.ensures yes)

pub returns-in-Err : goal.returns-in-Err
unfolding IsSetAs
returns-in-Err c = λ yes p spells sound.
    let read = (c.read_fields.ensures.exact p).1 (subst (λ f. SpellsSetup f p) c.four_words-fields.ensures.fields spells, sound) in
    let none : Err _ ≡ Ok p = sym c.in-Err.is ∙ read in cc

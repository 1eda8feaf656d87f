use Rattle.std.proofs.Common.{◌≡◌, true, false, not, ◌&&◌, eqb, refl, sym, ap, ◌∙◌}
use Rattle.std.proofs.lemmas.Bool.{both_ways, eqb-true, or_parts}
use Rattle.square_sets.specs.Members.{has}
use Rattle.chess_moves.specs.inside.Hits.{hits_as}
use Rattle.chess_moves.proofs.SetBits.{has_none, has_or}
use Rattle.chess_moves.proofs.escape_guards.lines_to_any.Goals as goal

pub loop-square-init : goal.loop-square-init
loop-square-init c = λ t g l on none there gone taken. absurd (both_ways (has c.args.squares g) (rw (← c.into_iter-square-iterator.ensures.into_iter_gives ∙ c.squares-square-items.ensures) gone) there)

pub lines_to-lines-requires : goal.lines_to-lines-requires
lines_to-lines-requires c = c.in-Some.ensures.steps.lowest.on_board

pub loop-square-preserved : goal.loop-square-preserved
loop-square-preserved c = λ t g l on none there gone taken.
    let split = c.in-Some.ensures.steps in
    let both = or_parts (has c.loop-square.lines t) (has c.lines_to-lines.result t) (sym (has_or c.loop-square.lines c.lines_to-lines.result t) ∙ none) in
    (elim (eqb g c.in-Some.square) as (λ b. eqb g c.in-Some.square ≡ b → hits_as taken c.args.colour c.args.kind t g ≡ false) [
      | true ↦ λ e. ap (hits_as taken c.args.colour c.args.kind t) (eqb-true g c.in-Some.square e) ∙ c.lines_to-lines.ensures taken t l both.1
      | false ↦ λ e. c.loop-square.invariant t g l on both.0 there
          (ap (λ x. not x && has c.loop-square.square-iterator g) (sym e) ∙ sym (split.others g on) ∙ gone) taken
    ]) refl

pub returns : goal.returns
returns c = λ t g l on none there taken. c.loop-square.invariant t g l on none there (has_none c.loop-square.square-iterator g c.in-None.ensures.steps.0) taken

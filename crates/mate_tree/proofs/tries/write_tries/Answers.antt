use Rattle.std.proofs.Common.{◌≡◌, [], ◌∷◌, List, ℕ, Option, Some, None, sym, ap, ◌∙◌, refl}
use Rattle.std.specs.Prelude.{is_some}
use Rattle.std.specs.List.{flat_map}
use Rattle.std.specs.Option.{option_map_or}
use Rattle.chess_moves.specs.inside.Listing.{legal_moves}
use Rattle.mate_tree.specs.SetPlay.{headed}
use Rattle.mate_tree.specs.Tries.{tries, try_lines}
use Rattle.mate_tree.specs.inside.Sheets.{is_some_line}
use Rattle.mate_tree.proofs.AddedLines.{adds_as, adds_more, headed_all, headed_closed, headed_more, headed_none}
use Rattle.mate_tree.proofs.tries.write_tries.Goals as goal

some_lines : {X : Type 0} (f : X → List ℕ) (o : Option X) → is_some o ≡ is_some_line (option_map_or (λ r. f r ∷ []) o [])
some_lines f None = refl
some_lines f (Some r) = refl

pub loop-m-init : goal.loop-m-init
loop-m-init g c = headed_none c.args.writer.now

pub returns-then-is_closed : goal.returns-then-is_closed
unfolding tries
returns-then-is_closed g c =
    let f = try_lines c.args.left c.args.position.now c.args.avoid.now in
    adds_as (ap (λ ms. headed c.tries_heading-heading.result.now (flat_map f ms)) (c.as_slice-m-items.ensures.value ∙ c.legal-moves.ensures)
    ∙ ap (λ name. headed name (flat_map f (legal_moves c.args.position.now))) c.tries_heading-heading.ensures)
    (headed_closed {f = f} (sym c.is_closed.ensures ∙ c.if-is_closed.true) c.loop-m.invariant)

pub returns : goal.returns
unfolding tries
returns g c =
    let f = try_lines c.args.left c.args.position.now c.args.avoid.now in
    adds_as (ap (λ ms. headed c.tries_heading-heading.result.now (flat_map f ms)) (c.as_slice-m-items.ensures.value ∙ c.legal-moves.ensures)
    ∙ ap (λ name. headed name (flat_map f (legal_moves c.args.position.now))) c.tries_heading-heading.ensures)
    (headed_all {f = f} c.loop-m-test.false c.loop-m.invariant)

pub loop-m-preserved : goal.loop-m-preserved
loop-m-preserved g c =
    let has = c.is_some-has.ensures ∙ some_lines _ c.refutation-refuted.result ∙ ap is_some_line c.refutation-refuted.ensures.lines in
    headed_more c.loop-m-test.true c.m-item.is has c.loop-m.invariant (adds_more c.refutation-refuted.ensures.nothing c.write_name.ensures)
    (adds_as c.refutation-refuted.ensures.lines c.write_try.ensures)

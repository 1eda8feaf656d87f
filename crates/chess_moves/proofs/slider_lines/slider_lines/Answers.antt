use Rattle.std.proofs.Common.{◌≡◌, ℕ, Bool, true, false, not, ◌&&◌, ◌||◌, refl, sym, ap, ◌∙◌, eqb, bit_and, arith}
use Rattle.std.proofs.lemmas.Bool.{eqb-true}
use Rattle.std.proofs.lemmas.Nat.{and_le_l}
use Rattle.std.proofs.Math.Bool.{or-false}
use Rattle.square_sets.specs.Members.{has}
use Rattle.chess_moves.specs.inside.SliderLines.{is_open, IsAlone}
use Rattle.chess_moves.proofs.SetBits.{has_none}
use Rattle.chess_moves.proofs.SliderSights.{nothing_between, alone_shared}
use Rattle.chess_moves.proofs.slider_lines.slider_lines.Goals as goal

pub loop-slider-init : goal.loop-slider-init
loop-slider-init c =
    let start = c.into_iter-slider-iterator.ensures.into_iter_gives ∙ c.squares-slider-items.ensures in
    record {
      clear = λ a l. let none = has_none 0 a refl in rw (start, none) refl;
      blockers = λ a o l on there gone alone. let same : has c.into_iter-slider-iterator.result a ≡ has c.args.sliders a = ap (λ x. has x a) start in cc;
    }

pub loop-slider-preserved : goal.loop-slider-preserved
loop-slider-preserved c =
    let k : ℕ = c.args.square in
    let b : ℕ = c.in-Some.slider in
    let taken : ℕ = bit_and c.between.result c.args.occupied in
    let told = nothing_between c.between.result c.args.occupied k b (omega (arith, and_le_l c.between.result c.args.occupied)) c.between.ensures in
    let split = c.in-Some.ensures.steps in
    record {
      clear = λ a l. step (has c.loop-slider.lines.clear a) (has c.with_slider-lines.result.clear a)
          (has c.loop-slider.slider-iterator a) (has c.next.new.self a) (eqb a b) (eqb taken 0)
          (is_open (has c.args.occupied) k a) (c.with_slider-lines.ensures.clear a l) (split.others a l)
          (λ e. ap (has c.loop-slider.slider-iterator) (eqb-true a b e) ∙ split.lowest.there)
          (λ e. told ∙ ap (λ x. is_open (has c.args.occupied) k x) (sym (eqb-true a b e)))
          ∙ c.loop-slider.invariant.clear a l;
      blockers = λ a o l on there gone alone. (elim (eqb a b) as (λ x. eqb a b ≡ x → has c.with_slider-lines.result.blockers o ≡ true) [
        | true ↦ λ e.
            let here : IsAlone (has c.args.occupied) k b o = (rw (eqb-true a b e) at alone) in
            c.with_slider-lines.ensures.blockers o on (alone_shared c.between.result c.args.occupied k b o on c.between.ensures here)
        | false ↦ λ e.
            let still : has c.loop-slider.slider-iterator a ≡ false =
            left (eqb a b) (has c.loop-slider.slider-iterator a) e (sym (split.others a l) ∙ gone) in
            c.with_slider-lines.ensures.more o on (c.loop-slider.invariant.blockers a o l on there still alone)
      ]) refl;
    }
  where
    left : (e h : Bool) → e ≡ false → (not e && h) ≡ false → h ≡ false
    left e h off g = rw off at g

    step : (was now set rest e none free : Bool) → now ≡ (was || e && none) → rest ≡ (not e && set)
        → (e ≡ true → set ≡ true) → (e ≡ true → none ≡ free)
        → (now || rest && free) ≡ (was || set && free)
    step was now set rest true none free hn hr hs hf = let s = hs refl in let f = hf refl in rw (hn, hr, s, f) (or-false (was || free))
    step was now set rest false none free hn hr hs hf = rw (hn, hr) (ap (λ x. x || set && free) (or-false was))

pub returns-clause-clear : goal.returns-clause-clear
returns-clause-clear c = λ a l.
    let none = has_none c.loop-slider.slider-iterator a c.in-None.ensures.steps.0 in
    sym (or-false (has c.loop-slider.lines.clear a)) ∙ (rw none at (c.loop-slider.invariant.clear a l))

pub returns-clause-blockers : goal.returns-clause-blockers
returns-clause-blockers c = λ a o l on there alone.
    c.loop-slider.invariant.blockers a o l on there (has_none c.loop-slider.slider-iterator a c.in-None.ensures.steps.0) alone

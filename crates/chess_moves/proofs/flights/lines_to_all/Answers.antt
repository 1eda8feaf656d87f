use Rattle.std.proofs.Common.{◌≡◌, ℕ, refl, true, false, ◌&&◌, sym, ap, ◌∙◌}
use Rattle.std.proofs.lemmas.Bool.{and_parts, both_ways}
use Rattle.square_sets.specs.Members.{has}
use Rattle.chess_moves.specs.inside.EscapeSquares.{Misses}
use Rattle.chess_moves.proofs.Kept.{has_all}
use Rattle.chess_moves.proofs.SetBits.{has_and}
use Rattle.chess_moves.proofs.flights.lines_to_all.Goals as goal

pub loop-square-init : goal.loop-square-init
loop-square-init c = record {
  missed = λ t l none. absurd (both_ways _ none (has_all t l));
  left = λ s l on. rw (← c.into_iter-square-iterator.ensures.into_iter_gives ∙ c.squares-square-items.ensures) on;
}

pub lines_to-lines-requires : goal.lines_to-lines-requires
lines_to-lines-requires c = c.in-Some.ensures.steps.lowest.on_board

pub loop-square-preserved : goal.loop-square-preserved
loop-square-preserved c =
    let split = c.in-Some.ensures.steps in
    let f : ℕ = c.in-Some.square in
    let before : ℕ = c.loop-square.lines in
    let from : ℕ = c.lines_to-lines.result in
    record {
      missed = λ t l out.
          (elim (has before t) as (λ b. has before t ≡ b → Misses c.args.squares c.args.colour c.args.kind t) [
            | false ↦ λ e. c.loop-square.invariant.missed t l e
            | true ↦ λ e.
                let off : has from t ≡ false = ap (λ x. x && has from t) (sym e) ∙ sym (has_and before from t) ∙ out in
                record {
                  missed = f;
                  on_board = split.lowest.on_board;
                  there = c.loop-square.invariant.left f split.lowest.on_board split.lowest.there;
                  misses = λ taken. c.lines_to-lines.ensures taken t l off;
                }
          ]) refl;
      left = λ s l on. c.loop-square.invariant.left s l (and_parts _ (has c.loop-square.square-iterator s) (sym (split.others s l) ∙ on)).1;
    }

use Rattle.std.proofs.Common.{◌≡◌, ℕ, Bool, true, false, ◌&&◌, eqb, refl, sym, ap, subst, ◌∙◌}
use Rattle.std.proofs.lemmas.Bool.{false_from_ne_true, eqb-true, or_parts}
use Rattle.std.specs.Int.RustNames.{bit_or}
use Rattle.square_sets.specs.Members.{has}
use Rattle.chess_board.specs.declared.men.Colour.{Colour}
use Rattle.chess_board.specs.declared.men.Kind.TheVariants.{King}
use Rattle.chess_board.specs.Castling.{king_home}
use Rattle.chess_moves.specs.declared.directions.Leap.TheVariants.{KingStep}
use Rattle.chess_moves.specs.inside.EscapeSquares.{Misses}
use Rattle.chess_moves.specs.inside.Hits.{hits_as}
use Rattle.chess_moves.specs.inside.Leaps.{leaps}
use Rattle.chess_moves.proofs.Geometry.{king_back}
use Rattle.chess_moves.proofs.GuardedRefuges.{guarded, none_with}
use Rattle.chess_moves.proofs.InLine.{none_at}
use Rattle.chess_moves.proofs.SetBits.{has_or}
use Rattle.chess_moves.proofs.escape_guards.kings_guards.Goals as goal

pub returns : goal.returns
returns c =
    let p = c.args.position.now in
    let f : ℕ = c.args.square in
    let side : c.side-side.result ≡ p.side = c.side-side.ensures.side in
    let all : ℕ = c.lines_to_all.result in
    let next : ℕ = c.leapt_to-next.result in
    let once : ℕ = c.with-at_once.result in
    guarded p f c.args.squares c.requires.refuge (λ q m sound on t_on ok. c.sound_after.ensures q m sound on t_on ok) King c.with.result
    (λ t l out.
    let away = none_with (bit_or once next) c.with.result c.index.result t (c.with.ensures t l) out in
    let both = or_parts (has once t) (has next t) (sym (has_or once next t) ∙ away.1) in
    let apart = none_with c.lines_to_any.result once f t (c.with-at_once.ensures t l) both.0 in
    record {
      elsewhere = apart.0;
      misses = λ g on there taken. ap (λ (by : Colour). hits_as taken by King t g) (sym side)
          ∙ c.lines_to_any.ensures t g l on apart.1 there taken;
      pawn = λ e. absurd (cc);
      king = λ e. (
        false_from_ne_true (eqb t (king_home p.side)) (λ home.
            away.0 (c.index.ensures.number ∙ c.king_home.ensures ∙ ap king_home side ∙ sym (eqb-true t (king_home p.side) home))),
        λ u on step.
            let none : (has all u && leaps KingStep u t) ≡ false =
            none_at (λ a. has all a && leaps KingStep a t) u on (sym (c.leapt_to-next.ensures t l) ∙ both.1) in
            let off : has all u ≡ false = sym (and_true (has all u)) ∙ ap (λ x. has all u && x) (sym (king_back t u ∙ step)) ∙ none in
            subst (λ (by : Colour). Misses c.args.squares by King u) side (c.lines_to_all.ensures u on off),
      );
    })
  where
    and_true : (x : Bool) → (x && true) ≡ x
    and_true true = refl
    and_true false = refl

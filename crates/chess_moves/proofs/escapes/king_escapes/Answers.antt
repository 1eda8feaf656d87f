use Rattle.std.proofs.Common.{◌≡◌, ℕ, true, Option, None, Some, is_some, sym, subst, ◌∙◌}
use Rattle.std.specs.Prelude.{IfSome}
use Rattle.chess_board.specs.declared.men.Colour.{Colour}
use Rattle.chess_moves.specs.inside.EscapeSquares.{IsRefuge}
use Rattle.chess_moves.proofs.KingEscapes.{escape}
use Rattle.chess_moves.proofs.escapes.king_escapes.Goals as goal

some_one : (found : Option ℕ) (P : ℕ → Type 0) → is_some found ≡ true → IfSome found P → (x : ℕ) × P x
some_one None P h is = absurd (cc)
some_one (Some x) P h is = (x, is)

pub returns-then-is_some : goal.returns-then-is_some
returns-then-is_some c = λ seen.
    let p = c.args.position.now in
    let f : ℕ = c.in-Some-square.square in
    let found = some_one c.refuge.result (λ squares. IsRefuge squares p c.in-Some.steps.colour f) (sym c.is_some.ensures ∙ c.if-is_some.true)
    c.refuge.ensures in
    escape p f found.0
    (subst (λ (by : Colour). IsRefuge found.0 p by f) (c.in-Some.ensures.colour ∙ c.side.ensures.side) found.1)
    (λ q m sound on t_on ok. c.sound_after.ensures q m sound on t_on ok)

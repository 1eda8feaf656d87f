use Rattle.std.proofs.Common.{◌≡◌, ℕ, false, Some, sym, ap, ◌∙◌}
use Rattle.std.proofs.lemmas.Bool.{not-true}
use Rattle.square_sets.specs.Members.{has}
use Rattle.chess_board.specs.Positions.{man_at}
use Rattle.chess_moves.specs.inside.EscapeGuards.{guards_of}
use Rattle.chess_moves.proofs.GuardedRefuges.{left_by}
use Rattle.chess_moves.proofs.escape_guards.leaves_escape.Goals as goal

pub returns-in-Some : goal.returns-in-Some
returns-in-Some c = λ free.
    let p = c.args.position.now in
    let m = c.args.m in
    let man = c.in-Some.man in
    let set : ℕ = guards_of c.args.guards.now man.kind in
    let origin : c.m.inside.origin ≡ m.origin = ap (λ x. x.origin) c.m.view_is in
    let target : c.m.inside.target ≡ m.target = ap (λ x. x.target) c.m.view_is in
    let there : man_at p.men m.origin ≡ Some man = rw origin at (sym c.man.ensures ∙ c.in-Some.is) in
    let off : has set m.target ≡ false = ap (has set) (sym target ∙ sym c.index.ensures.number) ∙ ap (λ set. has set c.index.result) (sym c.of.ensures)
    ∙ sym c.contains.ensures ∙ not-true c.contains.result free in
    left_by p c.args.guards.now c.requires.guards m man (rw origin at c.m.invariant.0) (rw target at c.m.invariant.1) c.requires.legal there off

use Rattle.std.proofs.Common.{◌≡◌, Some, sym, ◌∙◌, refl, ap}
use Rattle.chess_board.specs.Positions.{man_at}
use Rattle.chess_board.specs.MakeMove.{after_setup}
use Rattle.chess_board.proofs.AfterSound.{sound_legal, legal_man}
use Rattle.chess_board.proofs.make_move.after.Goals as goal

pub new-requires : goal.new-requires
new-requires c =
    let origin : c.chosen.inside.origin ≡ c.args.chosen.origin = ap (λ x. x.origin) c.chosen.view_is in
    let target : c.chosen.inside.target ≡ c.args.chosen.target = ap (λ x. x.target) c.chosen.view_is in
    let there : man_at c.args.position.now.men c.args.chosen.origin ≡ Some c.in-Some.man = rw origin at (sym c.man.ensures ∙ c.in-Some.is) in
    rw (c.men_after.ensures, c.other.ensures, c.side.ensures.side, c.rights_after.ensures, c.rights.ensures, c.target_after.ensures)
    (sound_legal c.args.position.now c.args.chosen c.in-Some.man c.side.ensures.sound there (rw origin at c.chosen.invariant.0)
    (rw target at c.chosen.invariant.1) c.requires)

pub unreachable-requires : goal.unreachable-requires
unreachable-requires c =
    let origin : c.chosen.inside.origin ≡ c.args.chosen.origin = ap (λ x. x.origin) c.chosen.view_is in
    legal_man c.args.position.now c.args.chosen c.requires (rw origin at (sym c.man.ensures ∙ c.in-None.is))

pub returns : goal.returns
unfolding after_setup
returns c =
    let origin : c.chosen.inside.origin ≡ c.args.chosen.origin = ap (λ x. x.origin) c.chosen.view_is in
    let there : man_at c.args.position.now.men c.args.chosen.origin ≡ Some c.in-Some.man = rw origin at (sym c.man.ensures ∙ c.in-Some.is) in
    c.new.ensures ∙ rw (
      c.men_after.ensures,
      c.other.ensures,
      c.side.ensures.side,
      c.rights_after.ensures,
      c.rights.ensures,
      c.target_after.ensures,
      there,
    ) refl

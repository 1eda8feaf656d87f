use Rattle.std.proofs.Common.{◌≡◌, ℕ, eqb, Option, Some, ap, ◌∙◌}
use Rattle.chess_board.specs.Attacks.{attacks_as}
use Rattle.chess_board.specs.EnPassant.{is_square}
use Rattle.chess_board.specs.declared.men.Kind.TheVariants.{Pawn}
use Rattle.chess_moves.specs.declared.directions.Leap.{Leap}
use Rattle.chess_moves.specs.inside.Leaps.{leaps}
use Rattle.chess_moves.proofs.SetParts.{part}
use Rattle.chess_moves.proofs.Geometry.{eqb_back}
use Rattle.chess_moves.proofs.PawnSets.{capture_leap}
use Rattle.chess_moves.proofs.en_passant_targets.en_passant_targets.Goals as goal

pub returns-in-Some : goal.returns-in-Some
returns-in-Some c = λ t l.
    let p = c.args.info.now.position.now in
    let o : ℕ = c.args.mover.origin in
    let same : c.index.result ≡ c.in-Some.target = c.index.ensures.number in
    let is_target : is_square (Some c.in-Some.target) t ≡ is_square p.target t =
    ap (λ (target : Option ℕ). is_square target t) c.in-Some.ensures.target in
    part c.leap-captures.result c.single.result t (attacks_as p.men c.args.mover.man.colour Pawn o t) (is_square p.target t)
    (c.leap-captures.ensures t l ∙ ap (λ (leap : Leap). leaps leap o t) c.capture_of.ensures ∙ capture_leap p.men c.args.mover.man.colour o t)
    (c.single.ensures t l ∙ eqb_back c.index.result t ∙ ap (λ (g : ℕ). eqb g t) same ∙ is_target)

use Rattle.std.proofs.Common.{◌≡◌, ℕ, Option, Some, true, ap, ◌∙◌}
use Rattle.std.proofs.lemmas.Bool.{and_parts, eqb-true, false_from_ne_true}
use Rattle.square_sets.specs.Members.{has}
use Rattle.chess_board.specs.Attacks.{attacks_as}
use Rattle.chess_board.specs.EnPassant.{is_square, takes_en_passant}
use Rattle.chess_board.specs.declared.men.Kind.TheVariants.{Pawn}
use Rattle.chess_moves.specs.declared.directions.Leap.{Leap}
use Rattle.chess_moves.specs.inside.Leaps.{leaps, capture_back}
use Rattle.chess_moves.proofs.Geometry.{capture_mirrored}
use Rattle.chess_moves.proofs.PawnSets.{capture_leap}
use Rattle.chess_moves.proofs.en_passant_targets.en_passant_origins.Goals as goal

pub returns-in-Some : goal.returns-in-Some
returns-in-Some c = λ o t o_on on unseen.
    let p = c.args.info.now.position.now in
    let by = c.args.info.now.side in
    false_from_ne_true (takes_en_passant p by o t) (λ goes.
    let both = and_parts (attacks_as p.men by Pawn o t) (is_square p.target t) goes in
    let target : is_square (Some c.in-Some.target) t ≡ is_square p.target t =
    ap (λ (target : Option ℕ). is_square target t) c.in-Some.ensures.target in
    let same : c.index.result ≡ t = c.index.ensures.number ∙ eqb-true c.in-Some.target t (target ∙ both.1) in
    let seen : has c.leap.result o ≡ true =
    c.leap.ensures o o_on ∙ ap (λ (leap : Leap). leaps leap c.index.result o) c.capture_back-back.ensures
    ∙ ap (λ (u : ℕ). leaps (capture_back by) u o) same
    ∙ capture_mirrored by o t ∙ capture_leap p.men by o t ∙ both.0 in
    cc)

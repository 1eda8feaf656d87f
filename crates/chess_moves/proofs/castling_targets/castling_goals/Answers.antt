use Rattle.std.proofs.Common.{refl, sym, ap, ◌∙◌}
use Rattle.std.proofs.lemmas.Bool.{false_from_ne_true, or_parts, eqb-false}
use Rattle.square_sets.specs.Members.{has}
use Rattle.chess_board.specs.declared.men.Colour.{Colour}
use Rattle.chess_board.specs.declared.men.Wing.{Wing}
use Rattle.chess_board.specs.declared.men.Wing.TheVariants.{KingSide, QueenSide}
use Rattle.chess_board.specs.Castling.{castles_to, king_home, king_goal}
use Rattle.chess_moves.proofs.CastlingWays.{castles_says}
use Rattle.chess_moves.proofs.SetBits.{has_or}
use Rattle.chess_moves.proofs.castling_targets.castling_goals.Goals as goal

pub returns-then-info-index : goal.returns-then-info-index
returns-then-info-index c = λ t l out.
    let p = c.args.info.now.position.now in
    let info = c.requires in
    let none = λ (wing : Wing). false_from_ne_true (castles_to p p.side wing c.args.info.now.king t) (λ h.
    c.if-info-index.true ((castles_says p p.side wing c.args.info.now.king t h).home ∙ ap king_home (sym info.side)
    ∙ sym (c.index.ensures.number ∙ c.king_home.ensures))) in
    rw (none KingSide, none QueenSide) refl

pub returns : goal.returns
returns c = λ t l out.
    let p = c.args.info.now.position.now in
    let info = c.requires in
    let king = c.args.info.now.king in
    let both = or_parts (has c.single-king_side.result t) (has c.single-queen_side.result t)
    (sym (has_or c.single-king_side.result c.single-queen_side.result t) ∙ out) in
    let short = false_from_ne_true (castles_to p p.side KingSide king t) (λ h.
    eqb-false t c.index-2.result (sym (c.single-king_side.ensures t l) ∙ both.0)
    ((castles_says p p.side KingSide king t h).goal ∙ ap (λ (colour : Colour). king_goal colour KingSide) (sym info.side)
    ∙ sym (c.index-2.ensures.number ∙ c.king_goal.ensures))) in
    let long = false_from_ne_true (castles_to p p.side QueenSide king t) (λ h.
    eqb-false t c.index-3.result (sym (c.single-queen_side.ensures t l) ∙ both.1)
    ((castles_says p p.side QueenSide king t h).goal ∙ ap (λ (colour : Colour). king_goal colour QueenSide) (sym info.side)
    ∙ sym (c.index-3.ensures.number ∙ c.king_goal-2.ensures))) in
    rw (short, long) refl

use Rattle.std.proofs.Common.{◌≡◌, ◌&&◌, ℕ, false, true, sym, ap, ◌∙◌, bit_and, refl, eqb}
use Rattle.std.proofs.lemmas.Bool.{eqb-true, not-false}
use Rattle.square_sets.specs.Members.{has}
use Rattle.chess_board.specs.Positions.{man_at}
use Rattle.chess_moves.specs.declared.directions.Leap.TheVariants.{KingStep}
use Rattle.chess_moves.specs.inside.Leaps.{leaps}
use Rattle.chess_moves.proofs.KingEscapes.{king_is}
use Rattle.chess_moves.proofs.OneKing.{only_king}
use Rattle.chess_moves.proofs.SetBits.{has_and, has_none}
use Rattle.chess_moves.proofs.escapes.king_may_cover.Goals as goal

pub returns : goal.returns
returns c = λ none o t on t_on is step.
    let p = c.args.position.now in
    let by = c.args.colour in
    let same : o ≡ c.king.result = only_king p c.requires.sound by c.king.result o c.king.ensures.on_board on c.king.ensures.king
    (king_is by (man_at p.men o) is) in
    let near : ℕ = c.leap.result in
    let lines : ℕ = c.lines_to_all.result in
    let beside : has near t ≡ true = c.leap.ensures t t_on ∙ ap (λ s. leaps KingStep s t) (c.index-king.ensures.number ∙ sym same)
    ∙ step refl in
    let zero : bit_and near lines ≡ 0 = eqb-true (bit_and near lines) 0 (not-false (eqb (bit_and near lines) 0) none) in
    let off : has lines t ≡ false = ap (λ x. x && has lines t) (sym beside) ∙ sym (has_and near lines t) ∙ has_none (bit_and near lines) t zero in
    c.lines_to_all.ensures t t_on off

use Rattle.std.proofs.Common.{ap, subst, ◌∙◌, arith}
use Rattle.chess_board.specs.Men.{is_of, man_of, other_side}
use Rattle.chess_board.specs.declared.men.Kind.TheVariants.{King}
use Rattle.chess_board.specs.Positions.{man_at}
use Rattle.chess_board.specs.Sets.{IsSetOf}
use Rattle.chess_moves.specs.inside.SideMen.{StandFor}
use Rattle.chess_moves.proofs.Kept.{has_all}
use Rattle.chess_moves.proofs.legality_info.bare_info_of.Goals as goal

pub returns-clause-info : goal.returns-clause-info
returns-clause-info c =
    let p = c.args.position.now in
    let side = c.side-side.ensures.side in
    let by = c.other.ensures ∙ ap other_side side in
    record {
      side = side;
      occupied = c.occupied.ensures;
      own = subst (λ s. IsSetOf c.all_of.result (is_of s) p.men) side (c.all_of.ensures p.men c.side-side.result c.side_men_of.ensures);
      enemy = subst (λ b. StandFor c.side_men_of-2.result b p.men) by c.side_men_of-2.ensures;
      on_board = omega arith;
      king = ap (man_at p.men) c.index.ensures.number ∙ c.king.ensures.king ∙ ap (λ s. man_of s King) side;
      pin_squares = λ o a o_on l off own. let on = has_all o o_on in absurd (cc);
      check_mask = λ o t o_on l off. let on = has_all o o_on in absurd (cc);
      sound = c.side-side.ensures.sound;
    }

use Rattle.std.proofs.Common.{sym, ◌∙◌}
use Rattle.std.proofs.lemmas.Bool.{or_parts}
use Rattle.square_sets.specs.Members.{has}
use Rattle.chess_board.specs.Men.{other_side}
use Rattle.chess_moves.specs.inside.Hits.{is_taken}
use Rattle.chess_moves.proofs.Removed.{attacks_removed}
use Rattle.chess_moves.proofs.SetBits.{has_or}
use Rattle.chess_moves.proofs.SliderSights.{alone_same}
use Rattle.chess_moves.proofs.legality_info.checks_and_pins_of.Goals as goal

pub returns : goal.returns
returns c =
    let s = c.args.info.now in
    let p = s.position.now in
    let h = c.requires in
    let slants = c.diagonal_lines-diagonal.ensures in
    let lines = c.straight_lines-straight.ensures in
    record {
      side = h.side;
      occupied = h.occupied;
      own = h.own;
      enemy = h.enemy;
      on_board = h.on_board;
      king = h.king;
      pin_squares = λ o a o_on l off own.
          let none = or_parts (has c.diagonal_lines-diagonal.result.blockers o) (has c.straight_lines-straight.result.blockers o)
          (sym (has_or c.diagonal_lines-diagonal.result.blockers c.straight_lines-straight.result.blockers o) ∙ off) in
          attacks_removed p.men s.king o (other_side p.side) a h.sound.squares o_on l own
          (λ one line alone. let blockers = slants.blockers a o l o_on (h.enemy.diagonal a l ∙ one) line
          (alone_same (λ s. is_taken p.men s) (has s.occupied)
          (λ q l. sym (h.occupied q l)) s.king a o o_on alone) in let gone = none.0 in cc)
          (λ one line alone. let blockers = lines.blockers a o l o_on (h.enemy.straight a l ∙ one) line
          (alone_same (λ s. is_taken p.men s) (has s.occupied)
          (λ q l. sym (h.occupied q l)) s.king a o o_on alone) in let gone = none.1 in cc);
      check_mask = λ o t o_on l off. c.check_mask.ensures t l;
      sound = h.sound;
    }

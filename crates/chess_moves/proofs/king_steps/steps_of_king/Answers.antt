use Rattle.std.proofs.Common.{◌≡◌, ℕ, ◌<◌, false, true, sym, ap, subst, ◌∙◌, arith, bit_and, w64}
use Rattle.std.specs.Int.{bit_not}
use Rattle.square_sets.specs.Members.{has}
use Rattle.chess_board.specs.declared.men.Colour.{Colour}
use Rattle.chess_board.specs.Positions.{man_at}
use Rattle.chess_moves.specs.inside.EscapeSquares.{HasPlainMen, HoldsLines}
use Rattle.chess_moves.proofs.KingEscapes.{none_there, stepped_free}
use Rattle.chess_moves.proofs.king_steps.steps_of_king.Goals as goal

pub returns-clause-steps : goal.returns-clause-steps
returns-clause-steps c =
    let p = c.args.position.now in
    let near : ℕ = c.leap.result in
    let taken : ℕ = c.occupied.result in
    let in_line : ℕ = c.squares_in_line-in_line.result in
    let free : ℕ = bit_and (bit_and near (bit_not w64 taken)) (bit_not w64 in_line) in
    let parts : (s : ℕ) → s < 64 → has free s ≡ true → (has near s ≡ true) × ((has taken s ≡ false) × (has in_line s ≡ false)) =
    λ s l on. stepped_free near taken in_line s (omega arith) (omega arith) l on in
    record {
      plain = subst (λ (by : Colour). HasPlainMen by p) c.other-enemy.ensures (c.may_be_special.ensures c.if-may_be_special.false);
      lines = subst (λ (by : Colour). HoldsLines in_line by p) c.other-enemy.ensures
          (λ t l none taken a on. c.squares_in_line-in_line.ensures p.men c.side_men_of.ensures t l none taken a on);
      each = λ s l on. record {
        king_on_board = c.index-king.ensures.on_board;
        king = ap (man_at p.men) c.index-king.ensures.number ∙ c.king.ensures.king;
        on_board = l;
        beside = sym (c.leap.ensures s l) ∙ (parts s l on).0;
        free = none_there (man_at p.men s) (sym (c.occupied.ensures s l) ∙ (parts s l on).1.0);
        sound = c.requires.sound;
      };
      clear = λ s l on. (parts s l on).1.1;
    }

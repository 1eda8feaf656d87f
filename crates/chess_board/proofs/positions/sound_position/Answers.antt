use Rattle.std.proofs.Common.{◌∙◌, sym, subst}
use Rattle.chess_board.specs.Soundness.{IsSound}
use Rattle.chess_board.proofs.positions.sound_position.Goals as goal

pub new-requires : goal.new-requires
new-requires c =
    subst IsSound c.setup.view_is (record {
      squares = c.has_at_most_sixteen_each.ensures.squares;
      kings = c.has_one_king_each.ensures.0 c.if-not-has_one_king_each.false;
      pawns = sym c.has_no_end_pawn.ensures ∙ c.if-not-has_no_end_pawn.false;
      few = c.has_at_most_sixteen_each.ensures.few.0 c.if-not-has_at_most_sixteen_each.false;
      rights = sym c.has_men_of_rights.ensures ∙ c.if-not-has_men_of_rights.false;
      target = sym c.has_pawn_of_some_target.ensures ∙ c.if-not-has_pawn_of_some_target.false;
      safe = rw c.other.ensures at (sym c.is_king_in_check.ensures ∙ c.if-is_king_in_check.false);
    })

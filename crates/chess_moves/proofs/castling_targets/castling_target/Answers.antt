use Rattle.std.proofs.Common.{◌≡◌, ℕ, ◌+◌, ◌/◌, true, false, eqb, refl, sym, ap, ◌∙◌, arith}
use Rattle.std.specs.Int.RustNames.{bit_and}
use Rattle.std.proofs.lemmas.Bool.{false_from_ne_true, ne_eqb, eq-eqb, eqb-true, eqb-false}
use Rattle.chess_board.specs.declared.men.Colour.{Colour}
use Rattle.chess_board.specs.Men.{other_side, has_right_of}
use Rattle.chess_board.specs.Attacks.{is_clear, is_attacked}
use Rattle.chess_board.specs.Castling.{king_home, rook_home, king_goal, castles_to}
use Rattle.chess_board.specs.Squares.{crossed}
use Rattle.chess_moves.proofs.SetBits.{has_none}
use Rattle.chess_moves.proofs.Geometry.{eqb_back}
use Rattle.chess_moves.proofs.CastlingWays.{castles_says, castles_from, clear_way}
use Rattle.chess_moves.proofs.castling_targets.castling_target.Goals as goal
use Rattle.chess_moves.proofs.castling_targets.castling_target.Goals.{
  then-is_checked_once-via-then-is_checked_once,
  then-is_checked_once-via-else-is_checked_once+then-is_attacked_in,
  then-is_checked_once-via-else-is_checked_once+else-is_attacked_in+then-is_attacked_in-2,
}

pub returns-then-between-info-ne0-clause-targets : goal.returns-then-between-info-ne0-clause-targets
returns-then-between-info-ne0-clause-targets c = λ t l.
    let p = c.args.info.now.position.now in
    let king : ℕ = c.args.info.now.king in
    let side_is = c.requires.info.side in
    let way = clear_way p.men p.side c.args.wing (king_home c.args.info.now.side)
    (rook_home c.args.info.now.side c.args.wing) c.castling_way-between.result c.args.info.now.occupied
    (ap king_home side_is) (ap (λ (colour : Colour). rook_home colour c.args.wing) side_is)
    (omega arith) c.castling_way-between.ensures c.requires.info.occupied in
    let blocked = ap (λ (a : ℕ). is_clear p.men a (rook_home p.side c.args.wing))
    (c.if-info-home.false ∙ (c.index-home.ensures.number ∙ c.king_home.ensures)) ∙ way
    ∙ ne_eqb (bit_and c.castling_way-between.result c.args.info.now.occupied) 0 c.if-between-info-ne0.true in
    has_none 0 t refl ∙ sym (false_from_ne_true (castles_to p p.side c.args.wing king t) (λ h.
    let x = (castles_says p p.side c.args.wing king t h).clear in
    cc))

pub returns-then-is_checked_once-clause-targets : goal.returns-then-is_checked_once-clause-targets
returns-then-is_checked_once-clause-targets c = λ t l.
    let p = c.args.info.now.position.now in
    let by : Colour = other_side p.side in
    let king : ℕ = c.args.info.now.king in
    let home : ℕ = c.index-home.result in
    let info = c.requires.info in
    has_none 0 t refl ∙ sym (false_from_ne_true (castles_to p p.side c.args.wing king t) (λ h.
    let x = castles_says p p.side c.args.wing king t h in
    let at_home : king ≡ home = c.if-info-home.false in
    let at_goal : t ≡ c.index-goal.result = x.goal ∙ sym ((c.index-goal.ensures.number ∙ c.king_goal.ensures)
    ∙ ap (λ (colour : Colour). king_goal colour c.args.wing) info.side) in
    let midway : crossed king t ≡ (home + c.index-goal.result) / 2 = omega arith in
    elim c.then-is_checked_once.branch [
      | then-is_checked_once-via-then-is_checked_once w ↦
          let safe = x.safe in
          let hit = sym (c.is_checked_once.ensures.check) ∙ w.if-is_checked_once.true in
          cc
      | then-is_checked_once-via-else-is_checked_once+then-is_attacked_in w ↦
          let safe = x.safe_way in
          let hit = ap (λ (s : ℕ). is_attacked p.men s by) midway ∙ sym (w.is_attacked_in.ensures) ∙ w.if-is_attacked_in.true in
          cc
      | then-is_checked_once-via-else-is_checked_once+else-is_attacked_in+then-is_attacked_in-2 w ↦
          let safe = x.safe_goal in
          let hit = ap (λ (s : ℕ). is_attacked p.men s by) at_goal
          ∙ sym (w.is_attacked_in-else-is_attacked_in.ensures) ∙ w.if-is_attacked_in-2.true in
          cc
    ]))

pub returns-clause-targets : goal.returns-clause-targets
returns-clause-targets c = λ t l.
    let p = c.args.info.now.position.now in
    let by : Colour = other_side p.side in
    let king : ℕ = c.args.info.now.king in
    let home : ℕ = c.index-home.result in
    let target : ℕ = c.index-goal.result in
    let info = c.requires.info in
    let at_home : king ≡ home = c.if-info-home.false in
    let home_there : home ≡ king_home p.side = (c.index-home.ensures.number ∙ c.king_home.ensures) ∙ ap king_home info.side in
    let way = clear_way p.men p.side c.args.wing (king_home c.args.info.now.side)
    (rook_home c.args.info.now.side c.args.wing) c.castling_way-between.result c.args.info.now.occupied
    (ap king_home info.side) (ap (λ (colour : Colour). rook_home colour c.args.wing) info.side)
    (omega arith) c.castling_way-between.ensures info.occupied in
    let goal_there : target ≡ king_goal p.side c.args.wing =
    (c.index-goal.ensures.number ∙ c.king_goal.ensures) ∙ ap (λ (colour : Colour). king_goal colour c.args.wing) info.side in
    c.single.ensures t l ∙ eqb_back target t
    ∙ (elim (eqb target t) as (λ b. eqb target t ≡ b → b ≡ castles_to p p.side c.args.wing king t) [
      | true ↦ λ e.
          let at_goal : t ≡ target = sym (eqb-true target t e) in
          let midway : crossed king t ≡ (home + target) / 2 = omega arith in
          sym (castles_from p p.side c.args.wing king t (record {
            right = ap (λ (colour : Colour). has_right_of p.rights colour c.args.wing) (sym info.side)
                ∙ sym c.has_right.ensures ∙ c.if-not-has_right.false;
            home = at_home ∙ home_there;
            goal = at_goal ∙ goal_there;
            clear = ap (λ (a : ℕ). is_clear p.men a (rook_home p.side c.args.wing))
                (at_home ∙ (c.index-home.ensures.number ∙ c.king_home.ensures)) ∙ way
                ∙ eq-eqb (bit_and c.castling_way-between.result c.args.info.now.occupied) 0 c.if-between-info-ne0.false;
            safe = sym (c.is_checked_once.ensures.check) ∙ c.if-is_checked_once.false;
            safe_way = ap (λ (s : ℕ). is_attacked p.men s by) midway ∙ sym (c.is_attacked_in.ensures) ∙ c.if-is_attacked_in.false;
            safe_goal = ap (λ (s : ℕ). is_attacked p.men s by) at_goal
                ∙ sym (c.is_attacked_in-else-is_attacked_in.ensures) ∙ c.if-is_attacked_in-2.false;
          }))
      | false ↦ λ e. sym (false_from_ne_true (castles_to p p.side c.args.wing king t) (λ h.
          let x = castles_says p p.side c.args.wing king t h in
          eqb-false target t e (goal_there ∙ sym x.goal)))
    ]) refl

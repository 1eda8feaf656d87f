use Rattle.std.proofs.Common.{◌≡◌, List, Option, None, is_some, length, set, refl, sym, ap, length-set, ◌∙◌}
use Rattle.chess_board.specs.declared.men.Man.{Man}
use Rattle.chess_board.specs.Men.{other_side}
use Rattle.chess_moves.proofs.Arrivals.{hit_on_arrival}
use Rattle.chess_moves.proofs.KingTargets.{king}
use Rattle.chess_moves.proofs.Moved.{stands_without, stand_still}
use Rattle.chess_moves.proofs.OwnColours.{own_not_other}
use Rattle.chess_moves.proofs.checks_and_pins.unsafe_squares.Goals as goal

pub returns : goal.returns
returns c = λ t own on own_is.
    let s = c.args.info.now in
    let p = s.position.now in
    let h = c.requires.info in
    let by : c.other.result ≡ other_side p.side = c.other.ensures ∙ ap other_side h.side in
    let len = h.sound.squares in
    let gone : List (Option Man) = set p.men s.king None in
    let len1 : length gone ≡ 64 = simp length-set len in
    let cleared = stands_without is_some p.men s.occupied c.without-others.result s.king None len h.on_board
    c.without-others.ensures refl h.occupied in
    let still = stand_still s.enemy (other_side p.side) p.men s.king None len h.on_board
    (own_not_other p (king p.side) s.king h.king refl) refl h.enemy in
    let hit = rw by at c.attacked_squares.ensures in
    hit gone cleared still t on ∙ sym (hit_on_arrival gone t own (other_side p.side) len1 on own_is)

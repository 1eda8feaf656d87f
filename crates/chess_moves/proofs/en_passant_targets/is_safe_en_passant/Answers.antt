use Rattle.std.proofs.Common.{◌≡◌, List, Option, None, Some, is_some, length, set, refl, ap, not, length-set, ◌∙◌}
use Rattle.chess_board.specs.declared.men.Man.{Man}
use Rattle.chess_board.specs.Men.{other_side}
use Rattle.chess_moves.proofs.Moved.{stands_without, stands_with, stand_still}
use Rattle.chess_moves.proofs.en_passant_targets.is_safe_en_passant.Goals as goal

pub returns : goal.returns
returns c = λ man from_own own.
    let s = c.args.info.now in
    let p = s.position.now in
    let h = c.requires.info in
    let by : c.other.result ≡ other_side p.side = c.other.ensures ∙ ap other_side h.side in
    let len = h.sound.squares in
    let gone : List (Option Man) = set p.men c.args.origin None in
    let come : List (Option Man) = set gone c.args.target (Some man) in
    let after : List (Option Man) = set come c.args.captured None in
    let len1 : length gone ≡ 64 = simp length-set len in
    let len2 : length come ≡ 64 = simp length-set len in
    let cleared = stands_without is_some p.men s.occupied c.without.result c.args.origin None len c.requires.on_board.0 c.without.ensures refl h.occupied in
    let filled = stands_with is_some gone c.without.result c.with-moved.result c.args.target
    (Some man) len1 c.requires.on_board.1 c.with-moved.ensures refl cleared in
    let passed = stands_without is_some come c.with-moved.result c.without-after.result c.args.captured None len2
    c.requires.on_board.2 c.without-after.ensures refl filled in
    let still = stand_still s.enemy (other_side p.side) p.men c.args.origin None len c.requires.on_board.0 from_own refl h.enemy in
    let left = c.without-2.ensures gone (other_side p.side) (Some man) len1 still own in
    let hit = rw by at c.is_hit_over.ensures in
    ap not (hit after passed (c.without-left.ensures come (other_side p.side) None len2 left refl))

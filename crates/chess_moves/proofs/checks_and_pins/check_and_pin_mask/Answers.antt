use Rattle.std.proofs.Common.{◌≡◌, ℕ, List, Option, None, Some, is_some, length, set, not, ◌&&◌, ◌∙◌, refl, ap, sym, length-set}
use Rattle.square_sets.specs.Members.{has}
use Rattle.chess_board.specs.declared.men.Man.{Man}
use Rattle.chess_board.specs.Men.{other_side}
use Rattle.chess_moves.specs.inside.Hits.{hits_from, is_hit}
use Rattle.chess_moves.specs.inside.LegalityInfo.{gets_through}
use Rattle.chess_moves.proofs.AnyLemmas.{any_same}
use Rattle.chess_moves.proofs.Moved.{stands_without, stand_still}
use Rattle.chess_moves.proofs.Placed.{attacks_placed}
use Rattle.chess_moves.proofs.checks_and_pins.check_and_pin_mask.Goals as goal

pub returns : goal.returns
unfolding is_hit
returns c = λ man from_own own t on.
    let s = c.args.info.now in
    let p = s.position.now in
    let h = c.requires.info in
    let by : c.other.result ≡ other_side p.side = c.other.ensures ∙ ap other_side h.side in
    let len = h.sound.squares in
    let gone : List (Option Man) = set p.men c.args.origin None in
    let k : ℕ = s.king in
    let len1 : length gone ≡ 64 = simp length-set len in
    let cleared = stands_without is_some p.men s.occupied c.without-lifted.result c.args.origin None len c.requires.on_board
    c.without-lifted.ensures refl h.occupied in
    let still = stand_still s.enemy (other_side p.side) p.men c.args.origin None len c.requires.on_board from_own refl h.enemy in
    let through = rw by at c.attackers-through.ensures in
    c.capture_or_block.ensures t on
    ∙ ap not (any_same (λ a. has c.attackers-through.result a && gets_through a k t)
    (λ a. hits_from (set gone t (Some man)) (other_side p.side) a k) 64
    (λ a l. ap (λ x. x && gets_through a k t) (through gone cleared still a l)
    ∙ sym (attacks_placed gone t man (other_side p.side) a k len1 on own)))

use Rattle.std.proofs.Common.{◌≡◌, ℕ, ◌<◌, not, ◌&&◌, ◌∙◌, ap, bit_and, bit_or}
use Rattle.square_sets.specs.Members.{has}
use Rattle.chess_board.specs.Men.{other_side}
use Rattle.chess_moves.specs.inside.Hits.{hits_from}
use Rattle.chess_moves.specs.inside.Leaps.{leaps}
use Rattle.chess_moves.specs.inside.LegalityInfo.{gets_through}
use Rattle.chess_moves.specs.inside.SideMen.{StandFor}
use Rattle.chess_moves.proofs.AnyLemmas.{any_same}
use Rattle.chess_moves.proofs.AttackSets.{attackers_are}
use Rattle.chess_moves.proofs.checks_and_pins.check_mask.Goals as goal

pub returns : goal.returns
returns c = λ t on.
    let info = c.args.info.now in
    let men = info.position.now.men in
    let k : ℕ = info.king in
    let h = c.requires.info in
    let by = c.other.ensures ∙ ap other_side h.side in
    let stand : StandFor info.enemy c.other.result men = rw by h.enemy in
    let checkers : ℕ = bit_or (bit_or (bit_or (bit_or (bit_and info.enemy.pawns c.leap.result) (bit_and info.enemy.knights c.leap-2.result))
    c.args.diagonal) c.args.straight) (bit_and info.enemy.king c.leap-3.result) in
    let check : (a : ℕ) → a < 64 → has checkers a ≡ hits_from men c.other.result a k =
    attackers_are info.occupied info.enemy c.other.result men k c.leap.result c.leap-2.result c.args.diagonal c.args.straight c.leap-3.result
    h.occupied stand (λ s l. c.leap.ensures s l ∙ ap (λ back. leaps back k s) c.capture_back-back.ensures)
    c.leap-2.ensures c.requires.diagonal c.requires.straight c.leap-3.ensures in
    c.capture_or_block.ensures t on
    ∙ ap not (any_same (λ a. has checkers a && gets_through a k t) (λ a. hits_from men (other_side info.position.now.side) a k && gets_through a k t) 64
    (λ a l. ap (λ x. x && gets_through a k t) (check a l ∙ ap (λ b. hits_from men b a k) by)))

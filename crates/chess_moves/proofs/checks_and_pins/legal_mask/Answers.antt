use Rattle.std.proofs.Common.{◌∙◌, sym}
use Rattle.chess_board.specs.Men.{other_side}
use Rattle.chess_moves.proofs.Unpinned.{safe_unpinned}
use Rattle.chess_moves.proofs.checks_and_pins.legal_mask.Goals as goal

pub returns-then-not-contains : goal.returns-then-not-contains
returns-then-not-contains c = λ man from_own own t on.
    let s = c.args.info.now in
    let p = s.position.now in
    let h = c.requires.info in
    let unheld = sym c.contains.ensures ∙ c.if-not-contains.true in
    h.check_mask c.args.origin t c.requires.on_board on unheld ∙ safe_unpinned p.men man s.king c.args.origin t (other_side p.side) h.sound.squares on own
    (λ a l. h.pin_squares c.args.origin a c.requires.on_board l unheld from_own)

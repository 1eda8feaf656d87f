use Rattle.std.proofs.Common.{◌<◌, sym, ap, subst, ◌∙◌}
use Rattle.std.proofs.lemmas.Bool.{or_parts}
use Rattle.square_sets.specs.Members.{has}
use Rattle.chess_board.specs.Positions.{man_at}
use Rattle.chess_moves.proofs.PlainChecks.{plain_check}
use Rattle.chess_moves.proofs.SetBits.{has_or}
use Rattle.chess_moves.proofs.discovered_checks.check_targets.Goals as goal

pub returns-then-contains : goal.returns-then-contains
returns-then-contains c = λ m legal e t none.
    let behind = c.squares_behind.result in
    let special = c.special_squares-special.result in
    let both = or_parts (has behind m.target) (has special m.target) (sym (has_or behind special m.target) ∙ none) in
    let from : m.origin < 64 = subst (λ s. s < 64) (sym e) c.requires.mover.on_board in
    let plain = c.special_squares-special.ensures m legal (ap (man_at c.args.info.now.position.now.men) e ∙ c.requires.mover.there) from t both.1 in
    c.squares_behind.ensures m legal e t plain both.0

pub returns-else-contains : goal.returns-else-contains
returns-else-contains c = λ m legal e t none.
    let own = c.squares_of.result in
    let special = c.special_squares-special.result in
    let both = or_parts (has own m.target) (has special m.target) (sym (has_or own special m.target) ∙ none) in
    let from : m.origin < 64 = subst (λ s. s < 64) (sym e) c.requires.mover.on_board in
    let here = ap (man_at c.args.info.now.position.now.men) e ∙ c.requires.mover.there in
    let plain = c.special_squares-special.ensures m legal here from t both.1 in
    let hidden = ap (has c.args.check_squares.now.queen) e ∙ sym c.contains.ensures ∙ c.if-contains.false in
    sym (plain_check c.args.info.now.position.now c.args.check_squares.now c.args.mover.man m c.requires.check_squares from t here legal hidden plain)
    ∙ ap (λ set. has set m.target) (sym c.squares_of.ensures) ∙ both.0

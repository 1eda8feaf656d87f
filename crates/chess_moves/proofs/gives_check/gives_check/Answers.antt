use Rattle.std.proofs.Common.{◌≡◌, ◌||◌, None, Some, sym, ap, ◌∙◌, arith}
use Rattle.std.proofs.lemmas.Bool.{both_ways, or_parts, not-true}
use Rattle.square_sets.specs.Members.{has}
use Rattle.chess_board.specs.declared.men.Man.{Man}
use Rattle.chess_board.specs.Men.{is_of}
use Rattle.chess_board.specs.Positions.{Setup, man_at}
use Rattle.chess_board.specs.Attacks.{is_in_check}
use Rattle.chess_board.specs.Legality.{is_legal}
use Rattle.chess_board.specs.Moves.{Move}
use Rattle.chess_moves.specs.declared.check_squares.CheckSquares.{CheckSquares}
use Rattle.chess_moves.specs.inside.CheckSquares.{squares_of, is_special}
use Rattle.chess_moves.specs.GivesCheck.{gives_check}
use Rattle.chess_moves.proofs.PlainChecks.{plain_check}
use Rattle.chess_moves.proofs.Played.{not_own}
use Rattle.chess_moves.proofs.gives_check.gives_check.Goals as goal

pub returns-in_default : goal.returns-in_default
returns-in_default c =
    let p : Setup = c.args.position.now in
    let none : man_at p.men c.args.m.origin ≡ None = ap (λ m. man_at p.men m.origin) (sym c.m.view_is) ∙ sym c.man.ensures ∙ c.in_default.is in
    absurd (both_ways (is_legal p c.args.m) (not_own p c.args.m (ap (is_of p.side) none)) c.requires.legal)

pub returns : goal.returns
unfolding gives_check
returns c = c.in_check.ensures ∙ ap (λ q. is_in_check q.men q.side) c.after.ensures

pub returns-then-is_told : goal.returns-then-is_told
returns-then-is_told c =
    let p : Setup = c.args.position.now in
    let check_squares : CheckSquares = c.args.check_squares.now in
    let man : Man = c.in-Some.man in
    let m : Move = c.args.m in
    let o : c.m.inside.origin ≡ m.origin = ap (λ m. m.origin) c.m.view_is in
    let t : c.index.result ≡ m.target = c.index.ensures.number ∙ ap (λ m. m.target) c.m-2.view_is in
    let there : man_at p.men m.origin ≡ Some man = ap (man_at p.men) (sym o) ∙ sym c.man.ensures ∙ c.in-Some.is in
    let told = or_parts (has check_squares.queen m.origin) (is_special p man m)
    (not-true (has check_squares.queen m.origin || is_special p man m) (sym c.is_told.ensures ∙ c.if-is_told.true)) in
    c.attacks_king.ensures ∙ ap (has (squares_of check_squares man.kind)) t
    ∙ plain_check p check_squares man m c.requires.check_squares (omega (arith, c.m.invariant))
    (omega (arith, c.index.ensures.on_board)) there c.requires.legal told.0 told.1

use Rattle.std.proofs.Common.{◌≡◌, ◌∙◌, true, ◌<◌, ap, sym, subst, suc, ◌∷◌, List, drop, drop-cons, add-one}
use Rattle.chess_board.specs.Positions.{Setup}
use Rattle.chess_board.specs.Moves.{Move}
use Rattle.chess_board.specs.MakeMove.{after_setup}
use Rattle.chess_board.specs.Legality.{is_legal}
use Rattle.chess_moves.specs.Laws.{IsLine}
use Rattle.problem_tests.proofs.answer_tests.is_line.Goals as goal

pub loop-m-preserved : goal.loop-m-preserved
loop-m-preserved c = λ later.
    let now = c.loop-m.now in
    let moves = c.args.moves.now in
    let i = c.loop-m.m-index in
    let m = c.m-item.result in
    let on : (m.origin < 64) × (m.target < 64) = subst (λ (n : Move). (n.origin < 64) × (n.target < 64)) c.m.view_is c.m.invariant in
    let legal : is_legal now m ≡ true = ap (is_legal now) (sym c.m.view_is) ∙ sym c.is_legal.ensures ∙ c.if-not-is_legal.false in
    let split : drop i moves ≡ m ∷ drop (suc i) moves = drop-cons moves i m c.loop-m-test.true ∙ ap (λ n. n ∷ drop (suc i) moves) (sym c.m-item.is) in
    let after_it : c.after-now.result ≡ after_setup now m = c.after-now.ensures ∙ ap (after_setup now) c.m.view_is in
    let more : IsLine c.after-now.result (drop (suc i) moves) = rw add-one at later in
    let on_more : IsLine (after_setup now m) (drop (suc i) moves) = subst (λ (p : Setup). IsLine p (drop (suc i) moves)) after_it more in
    c.loop-m.invariant (subst (λ (ms : List Move). IsLine now ms) (sym split) ((on.0, on.1, legal), on_more))

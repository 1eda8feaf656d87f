use Rattle.std.proofs.Common.{◌≡◌, ◌∙◌, true, ◌<◌, ap, sym, subst, suc, ◌∷◌, List, drop, drop-cons, add-one}
use Rattle.chess_board.specs.Moves.{Move}
use Rattle.chess_board.specs.Legality.{is_legal}
use Rattle.chess_problems.specs.Outcomes.{AreLegal}
use Rattle.problem_tests.proofs.answer_tests.are_legal.Goals as goal

pub loop-m-preserved : goal.loop-m-preserved
loop-m-preserved c = λ later.
    let p = c.args.position.now in
    let moves = c.args.moves.now in
    let i = c.loop-m.m-index in
    let m = c.m-item.result in
    let on : (m.origin < 64) × (m.target < 64) = subst (λ (n : Move). (n.origin < 64) × (n.target < 64)) c.m.view_is c.m.invariant in
    let legal : is_legal p m ≡ true = ap (is_legal p) (sym c.m.view_is) ∙ sym c.is_legal.ensures ∙ c.if-not-is_legal.false in
    let split : drop i moves ≡ m ∷ drop (suc i) moves = drop-cons moves i m c.loop-m-test.true ∙ ap (λ n. n ∷ drop (suc i) moves) (sym c.m-item.is) in
    let more : AreLegal p (drop (suc i) moves) = rw add-one at later in
    c.loop-m.invariant (subst (λ (ms : List Move). AreLegal p ms) (sym split) ((c.legal_listed.ensures p m).1 (on.0, on.1, legal), more))

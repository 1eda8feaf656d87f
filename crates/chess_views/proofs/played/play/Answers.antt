use Rattle.std.proofs.Common.{◌≡◌, ◌∙◌, None, sym, ap}
use Rattle.chess_board.specs.Fens.{FenValue}
use Rattle.chess_notation.specs.MoveReading.{move_named}
use Rattle.chess_views.proofs.PlayedSteps.{played_stops}
use Rattle.chess_views.proofs.played.play.Goals as goal

pub returns-in-None : goal.returns-in-None
returns-in-None c =
    let position : c.reached.inside.position ≡ c.loop-index.reached.position = ap (λ (v : FenValue). v.position) c.reached.view_is in
    let unnamed : move_named c.reached.inside.position c.as_bytes.result.now ≡ None = sym c.read_move.ensures.named ∙ c.in-None.is in
    sym (played_stops c.loop-index.reached c.args.words.now c.loop-index.index _ c.loop-index-test.true
    (rw (position, c.as_bytes.ensures.value) at unnamed)) ∙ c.loop-index.invariant

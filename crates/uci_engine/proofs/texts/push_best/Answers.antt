use Rattle.std.proofs.Common.{ap, sym, ◌∙◌, ◌++◌}
use Rattle.std.specs.Prelude.{codes}
use Rattle.chess_board.specs.Moves.{move_text}
use Rattle.uci_engine.specs.SearchLines.{best_text}
use Rattle.uci_engine.proofs.WrittenLines.{first, on}
use Rattle.uci_engine.proofs.texts.push_best.Goals as goal

pub returns : goal.returns
returns c =
    let old = c.args.text.now.items in
    on old c.push_move.new.text.items _ (codes "bestmove " ++ move_text c.in-Some.m) (codes "\n")
    (first old c.push_move.new.text.items (codes "bestmove ") (move_text c.in-Some.m) c.in_ok-push_move.ensures) c.in_ok-push-2.ensures ∙ ap (λ b. old ++ best_text b) (sym c.in-Some.is)

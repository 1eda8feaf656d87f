use Rattle.std.proofs.Common.{◌∙◌, ℕ, List, ap}
use Rattle.std.specs.Borrow.{Bor}
use Rattle.uci_commands.specs.PositionCommands.{spelt}
use Rattle.uci_commands.proofs.PositionsSaid.{fen_of_words}
use Rattle.uci_commands.proofs.position_commands.fen_said.Goals as goal

pub returns-in_ok-line_fen : goal.returns-in_ok-line_fen
returns-in_ok-line_fen c =
    fen_of_words (λ (s : Bor (List ℕ)). s.now) c.args.words.now _ c.eq.result c.eq-else-eq.result c.as_slice.result.now _ c.in-len1-up.len_at_least
    c.eq.ensures c.if-eq.false c.eq-else-eq.ensures c.if-eq-2.true
    (c.as_slice.ensures.value ∙ c.in_ok-text.ensures ∙ ap spelt c.count_before.ensures.words) c.in_ok-line_fen.ensures

use Rattle.std.proofs.Common.{false, subst}
use Rattle.chess_board.specs.Fens.{Spells}
use Rattle.plain_commands.specs.FenCommands.{ShowsFen, shown_text}
use Rattle.plain_commands.proofs.Shown.{shows_text, stops_showing}
use Rattle.plain_commands.proofs.fen_commands.show_fen.Goals as goal

pub returns-clause-ok : goal.returns-clause-ok
returns-clause-ok g c =
    let spells = subst (λ text. Spells text c.in-Some.fen) c.as_bytes.ensures.value c.in-Some.ensures.read.0 in
    shows_text (ShowsFen (shown_text c.args.command) c.args.fen.now) c.in_ok-text.text.items c.as_slice.result.now
    c.show.result _ _ c.as_slice.ensures.value
    (c.in-Some.fen, spells, c.in-Some.ensures.read.1, c.in_ok-text.ensures) c.show.ensures.ok

pub returns-clause-err : goal.returns-clause-err
returns-clause-err g c =
    let spells = subst (λ text. Spells text c.in-Some.fen) c.as_bytes.ensures.value c.in-Some.ensures.read.0 in
    stops_showing (ShowsFen (shown_text c.args.command) c.args.fen.now false) c.in_ok-text.text.items c.as_slice.result.now
    c.show.result _ _ c.as_slice.ensures.value
    (c.in-Some.fen, spells, c.in-Some.ensures.read.1, c.in_ok-text.ensures) c.show.ensures.err c.show.ensures.part

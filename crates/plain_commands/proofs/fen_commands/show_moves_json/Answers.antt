use Rattle.std.proofs.Common.{◌≡◌, ◌∙◌, true, Err, ap, subst}
use Rattle.std.proofs.lemmas.Result.{err_from_is_err_and}
use Rattle.chess_board.specs.Faults.{fault_name}
use Rattle.chess_board.specs.Fens.{IsFault}
use Rattle.json_replies.specs.Moves.{error_json}
use Rattle.plain_commands.specs.FenCommands.{ShowsObject}
use Rattle.plain_commands.proofs.Shown.{stops_showing}
use Rattle.plain_commands.proofs.fen_commands.show_moves_json.Goals as goal

pub returns-in_err-show-in-Err-clause-err : goal.returns-in_err-show-in-Err-clause-err
returns-in_err-show-in-Err-clause-err g c =
    let r = c.from_residual-in_err-show-in-Err in
    let p = err_from_is_err_and r.result r.ensures.1 in
    let refused = subst (λ text. IsFault text c.in-Err.fault) c.as_bytes.ensures.value c.in-Err.ensures.refused in
    let named : c.in_ok-text-in-Err.text.items ≡ error_json (fault_name c.in-Err.fault) =
    c.in_ok-text-in-Err.ensures ∙ ap error_json c.code.ensures in
    rw (p.1, p.2) (stops_showing (ShowsObject c.args.fen.now) c.in_ok-text-in-Err.text.items c.as_slice-in-Err.result.now
    (Err c.in_err-show-in-Err.field-0.0) _ _ c.as_slice-in-Err.ensures.value (true, (c.in-Err.fault, refused, named))
    c.in_err-show-in-Err.ensures.err c.in_err-show-in-Err.ensures.part)

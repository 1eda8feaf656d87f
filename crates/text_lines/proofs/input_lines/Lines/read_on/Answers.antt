use Rattle.std.proofs.lemmas.Result.{err_from_is_err_and}
use Rattle.text_lines.proofs.input_lines.Lines.read_on.Goals as goal

pub returns-in_err-resize-clause-unreadable : goal.returns-in_err-resize-clause-unreadable
returns-in_err-resize-clause-unreadable g c =
    let (other, is, same) = err_from_is_err_and c.from_residual.result c.from_residual.ensures.1 in
    rw (is, same) (λ never. cc)

pub returns-in_err-resize-clause-steady : goal.returns-in_err-resize-clause-steady
returns-in_err-resize-clause-steady g c = λ may. may

pub returns-in_err-count-clause-unreadable : goal.returns-in_err-count-clause-unreadable
returns-in_err-count-clause-unreadable g c =
    let (other, is, same) = err_from_is_err_and c.from_residual-in_err-count.result c.from_residual-in_err-count.ensures.1 in
    rw (is, same) c.in_err-count.ensures.unreadable

pub returns-in_err-count-clause-steady : goal.returns-in_err-count-clause-steady
returns-in_err-count-clause-steady g c = c.read.ensures.steady

pub returns-clause-steady : goal.returns-clause-steady
returns-clause-steady g c = c.read.ensures.steady

use Rattle.std.proofs.Common.{◌++◌, [], drop, ap, subst}
use Rattle.std.proofs.lemmas.Result.{err_from_is_err_and}
use Rattle.std.proofs.KnownBytes.{Consumes-nil}
use Rattle.text_lines.specs.inside.InputLines.{left_of}
use Rattle.text_lines.proofs.InputLines.{end_taken, ended_line, one_line_append, one_line_nil, open_line}
use Rattle.text_lines.proofs.input_lines.Lines.take_line.Goals as goal

pub returns-then-branch-clause-ok : goal.returns-then-branch-clause-ok
returns-then-branch-clause-ok g c =
    let before = c.loop.invariant in
    let (piece, one, cut, keeps) = c.in_ok-take_piece.ensures.ended c.if-branch.true in (
      before.0 ++ piece,
      keeps before.0 before.1.kept,
      (
        one_line_append before.0 piece before.1.one one,
        ended_line _ _ _ before.0 _ piece _ (ap g.I.Input.left c.take_piece.ensures.input) before.1.taken cut,
      ),
    )

pub returns-then-branch-2-clause-ok : goal.returns-then-branch-2-clause-ok
returns-then-branch-2-clause-ok g c =
    let before = c.loop.invariant in
    let (one, taken, keeps) = c.in_ok-take_piece.ensures.open c.if-branch.false in
    let (none, end) = c.in_ok-read_on.ensures.end c.if-branch-2.true in
    let piece = drop c.loop.self.taken c.loop.self.piece.items in (
      before.0 ++ piece,
      keeps before.0 before.1.kept,
      (
        one_line_append before.0 piece before.1.one one,
        open_line _ _ _ _ before.0 piece _ _ (ap g.I.Input.left c.take_piece.ensures.input) c.in_ok-read_on.ensures.fresh
            before.1.taken c.in_ok-read_on.ensures.bytes,
        end_taken _ _ _ c.in_ok-read_on.ensures.fresh none end,
      ),
    )

pub loop-preserved : goal.loop-preserved
loop-preserved g c =
    let before = c.loop.invariant in
    let (one, taken, keeps) = c.in_ok-take_piece.ensures.open c.if-branch.false in
    let piece = drop c.loop.self.taken c.loop.self.piece.items in (
      before.0 ++ piece,
      record {
        kept = keeps before.0 before.1.kept;
        one = one_line_append before.0 piece before.1.one one;
        taken = open_line _ _ _ _ before.0 piece _ _ (ap g.I.Input.left c.take_piece.ensures.input) c.in_ok-read_on.ensures.fresh
            before.1.taken c.in_ok-read_on.ensures.bytes;
        steady = λ may. before.1.steady (subst g.I.Input.breaks c.take_piece.ensures.input (c.read_on.ensures.steady may));
      },
    )

pub loop-init : goal.loop-init
loop-init g c = (
  [],
  record {
    kept = c.new-kept.ensures;
    one = one_line_nil;
    taken = Consumes-nil (left_of g.I.Input.left c.args.self.now);
    steady = λ may. may;
  },
)

pub returns-in_err-take_piece-clause-unreadable : goal.returns-in_err-take_piece-clause-unreadable
returns-in_err-take_piece-clause-unreadable g c =
    let (other, is, same) = err_from_is_err_and c.from_residual.result c.from_residual.ensures.1 in
    rw (is, same) (λ never. cc)

pub returns-in_err-take_piece-clause-steady : goal.returns-in_err-take_piece-clause-steady
returns-in_err-take_piece-clause-steady g c = λ may. c.loop.invariant.1.steady (subst g.I.Input.breaks c.take_piece.ensures.input may)

pub returns-then-branch-clause-steady : goal.returns-then-branch-clause-steady
returns-then-branch-clause-steady g c = λ may. c.loop.invariant.1.steady (subst g.I.Input.breaks c.take_piece.ensures.input may)

pub returns-in_err-read_on-clause-unreadable : goal.returns-in_err-read_on-clause-unreadable
returns-in_err-read_on-clause-unreadable g c =
    let (other, is, same) = err_from_is_err_and c.from_residual-in_err-read_on.result c.from_residual-in_err-read_on.ensures.1 in
    rw (is, same) (λ unreadable. c.loop.invariant.1.steady
    (subst g.I.Input.breaks c.take_piece.ensures.input (c.in_err-read_on.ensures.unreadable unreadable)))

pub returns-in_err-read_on-clause-steady : goal.returns-in_err-read_on-clause-steady
returns-in_err-read_on-clause-steady g c = λ may.
    c.loop.invariant.1.steady (subst g.I.Input.breaks c.take_piece.ensures.input (c.read_on.ensures.steady may))

pub returns-then-branch-2-clause-steady : goal.returns-then-branch-2-clause-steady
returns-then-branch-2-clause-steady g c = λ may.
    c.loop.invariant.1.steady (subst g.I.Input.breaks c.take_piece.ensures.input (c.read_on.ensures.steady may))

pub returns-clause-unreadable : goal.returns-clause-unreadable
returns-clause-unreadable g c = λ never. cc

pub returns-clause-steady : goal.returns-clause-steady
returns-clause-steady g c = c.loop.invariant.1.steady

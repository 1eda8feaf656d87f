use Rattle.std.proofs.Common.{◌++◌, ◌∷◌, [], refl, arith, length-append}
use Rattle.std.proofs.lemmas.Result.{err_from_is_err_and}
use Rattle.parallel_answers.specs.inside.OpenReplies.{KnownFrom, rules_from}
use Rattle.parallel_answers.proofs.Ordering.{all_begin, between_gains, between_line, between_none, gave_up, never_read, stopped, stopped_by, whole}
use Rattle.parallel_answers.proofs.ordered_answers.answer_each.Goals as goal

pub loop-number-init : goal.loop-number-init
loop-number-init g c =
    let asked = c.args.answering.now.lines.now in
    let own = rules_from (g.T.LineTask.replies asked.by.now) (g.T.LineTask.waits asked.by.now) (g.T.LineTask.marks asked.by.now) asked.from in
    let knows = KnownFrom (g.T.LineTask.knows asked.by.now) asked.from in (
      [],
      record {
        taken = c.new-lines.ensures.none;
        number = refl;
        so_far = between_none own knows c.new-replies.result c.args.tally.now (g.O.Write.contents c.args.out.now) c.new-replies.ensures.none
            c.new-replies.ensures.first c.new-replies.ensures.refused;
        steady = c.new-lines.ensures.steady;
      },
    )

pub returns-in_err-write_on-clause-err : goal.returns-in_err-write_on-clause-err
returns-in_err-write_on-clause-err g c =
    let asked = c.args.answering.now.lines.now in
    let own = rules_from (g.T.LineTask.replies asked.by.now) (g.T.LineTask.waits asked.by.now) (g.T.LineTask.marks asked.by.now) asked.from in
    let knows = KnownFrom (g.T.LineTask.knows asked.by.now) asked.from in
    let (lines, inv) = c.loop-number.invariant in
    let (other, is, same) = err_from_is_err_and c.from_residual.result c.from_residual.ensures.1 in
    rw (is, same) (stopped own knows (g.I.Input.left c.args.input) lines c.loop-number.replies c.in_err-write_on.field-0.0 c.args.tally.now
    c.loop-number.tally _ _ _ (c.lines_begin.ensures _ _ lines inv.taken) inv.so_far c.in_err-write_on.ensures.breaks)

pub returns-in_err-taken-clause-err : goal.returns-in_err-taken-clause-err
returns-in_err-taken-clause-err g c =
    let asked = c.args.answering.now.lines.now in
    let own = rules_from (g.T.LineTask.replies asked.by.now) (g.T.LineTask.waits asked.by.now) (g.T.LineTask.marks asked.by.now) asked.from in
    let knows = KnownFrom (g.T.LineTask.knows asked.by.now) asked.from in
    let (lines, inv) = c.loop-number.invariant in
    let (text, gains, on) = c.in_ok-write_on.ensures.gains in
    let (other, is, same) = err_from_is_err_and c.from_residual-in_err-taken.result c.from_residual-in_err-taken.ensures.1 in
    rw (is, same) (never_read own knows (g.I.Input.left c.args.input) lines c.write_on.new.replies c.in_err-taken.field-0.0 c.args.tally.now
    c.write_on.new.tally _ _ (c.lines_begin.ensures _ _ lines inv.taken)
    (between_gains own knows lines c.loop-number.replies c.write_on.new.replies c.args.tally.now c.loop-number.tally c.write_on.new.tally _ _ _ text
    inv.so_far gains on))

pub returns-in_err-hand_in-clause-err : goal.returns-in_err-hand_in-clause-err
returns-in_err-hand_in-clause-err g c =
    let asked = c.args.answering.now.lines.now in
    let own = rules_from (g.T.LineTask.replies asked.by.now) (g.T.LineTask.waits asked.by.now) (g.T.LineTask.marks asked.by.now) asked.from in
    let knows = KnownFrom (g.T.LineTask.knows asked.by.now) asked.from in
    let (lines, inv) = c.loop-number.invariant in
    let (text, gains, on) = c.in_ok-write_on.ensures.gains in
    let (other, is, same) = err_from_is_err_and c.from_residual-in_err-hand_in.result c.from_residual-in_err-hand_in.ensures.1 in
    rw (is, same) (stopped_by own knows (g.I.Input.left c.args.input) lines c.write_on.new.replies c.in_err-hand_in.field-0.0 c.args.tally.now
    c.write_on.new.tally _ _ (c.lines_begin.ensures _ _ lines inv.taken)
    (between_gains own knows lines c.loop-number.replies c.write_on.new.replies c.args.tally.now c.loop-number.tally c.write_on.new.tally _ _ _ text
    inv.so_far gains on) c.in_err-hand_in.ensures.memory)

pub returns-in_err-write_on-2-clause-err : goal.returns-in_err-write_on-2-clause-err
returns-in_err-write_on-2-clause-err g c =
    let asked = c.args.answering.now.lines.now in
    let own = rules_from (g.T.LineTask.replies asked.by.now) (g.T.LineTask.waits asked.by.now) (g.T.LineTask.marks asked.by.now) asked.from in
    let knows = KnownFrom (g.T.LineTask.knows asked.by.now) asked.from in
    let (lines, inv) = c.loop-number.invariant in
    let (text, gains, on) = c.in_ok-write_on.ensures.gains in
    let (line, told, last) = c.in_ok-taken.ensures.last c.if-taken.true in
    let all = last (g.I.Input.left c.args.input) lines inv.taken in
    let so_far = between_gains own knows lines c.loop-number.replies c.write_on.new.replies c.args.tally.now c.loop-number.tally
    c.write_on.new.tally _ _ _ text inv.so_far gains on in
    let more = between_line own knows lines line c.loop-number.number c.write_on.new.replies c.hand_in.new.replies c.args.tally.now
    c.write_on.new.tally _ _ so_far inv.number c.in_ok-hand_in.ensures.first c.in_ok-hand_in.ensures.refused
    (λ rest at left. c.in_ok-hand_in.ensures.opened line rest told at left) in
    let (other, is, same) = err_from_is_err_and c.from_residual-in_err-write_on-2.result c.from_residual-in_err-write_on-2.ensures.1 in
    rw (is, same) (stopped own knows (g.I.Input.left c.args.input) (lines ++ line ∷ []) c.hand_in.new.replies c.in_err-write_on-2.field-0.0
    c.args.tally.now c.write_on.new.tally _ _ _ (all_begin (g.I.Input.left c.args.input) (lines ++ line ∷ []) all) more
    c.in_err-write_on-2.ensures.breaks)

pub returns-then-taken-clause-ok : goal.returns-then-taken-clause-ok
returns-then-taken-clause-ok g c =
    let asked = c.args.answering.now.lines.now in
    let own = rules_from (g.T.LineTask.replies asked.by.now) (g.T.LineTask.waits asked.by.now) (g.T.LineTask.marks asked.by.now) asked.from in
    let knows = KnownFrom (g.T.LineTask.knows asked.by.now) asked.from in
    let (lines, inv) = c.loop-number.invariant in
    let (text, gains, on) = c.in_ok-write_on.ensures.gains in
    let (line, told, last) = c.in_ok-taken.ensures.last c.if-taken.true in
    let all = last (g.I.Input.left c.args.input) lines inv.taken in
    let so_far = between_gains own knows lines c.loop-number.replies c.write_on.new.replies c.args.tally.now c.loop-number.tally
    c.write_on.new.tally _ _ _ text inv.so_far gains on in
    let more = between_line own knows lines line c.loop-number.number c.write_on.new.replies c.hand_in.new.replies c.args.tally.now
    c.write_on.new.tally _ _ so_far inv.number c.in_ok-hand_in.ensures.first c.in_ok-hand_in.ensures.refused
    (λ rest at left. c.in_ok-hand_in.ensures.opened line rest told at left) in
    let (here, then, appends) = c.in_ok-write_on-2.ensures.gains in
    whole own knows (g.I.Input.left c.args.input) (lines ++ line ∷ []) c.write_on-then-taken.new.replies c.args.tally.now
    c.write_on-then-taken.new.tally _ _ all
    (between_gains own knows (lines ++ line ∷ []) c.hand_in.new.replies c.write_on-then-taken.new.replies c.args.tally.now c.write_on.new.tally
    c.write_on-then-taken.new.tally _ _ _ here more then appends)
    c.in_ok-write_on-2.ensures.few

pub loop-number-preserved : goal.loop-number-preserved
loop-number-preserved g c =
    let asked = c.args.answering.now.lines.now in
    let own = rules_from (g.T.LineTask.replies asked.by.now) (g.T.LineTask.waits asked.by.now) (g.T.LineTask.marks asked.by.now) asked.from in
    let knows = KnownFrom (g.T.LineTask.knows asked.by.now) asked.from in
    let (lines, inv) = c.loop-number.invariant in
    let (text, gains, on) = c.in_ok-write_on.ensures.gains in
    let (line, told, next) = c.in_ok-taken.ensures.more c.if-taken.false in
    let so_far = between_gains own knows lines c.loop-number.replies c.write_on.new.replies c.args.tally.now c.loop-number.tally
    c.write_on.new.tally _ _ _ text inv.so_far gains on in (
      lines ++ line ∷ [],
      record {
        taken = next (g.I.Input.left c.args.input) lines inv.taken;
        number = omega (arith, inv.number, length-append lines (line ∷ []));
        so_far = between_line own knows lines line c.loop-number.number c.write_on.new.replies c.hand_in.new.replies c.args.tally.now
            c.write_on.new.tally _ _ so_far inv.number c.in_ok-hand_in.ensures.first c.in_ok-hand_in.ensures.refused
            (λ rest at left. c.in_ok-hand_in.ensures.opened line rest told at left);
        steady = λ may. inv.steady (c.take.ensures.steady may);
      },
    )

pub returns-clause-err : goal.returns-clause-err
returns-clause-err g c =
    let asked = c.args.answering.now.lines.now in
    let own = rules_from (g.T.LineTask.replies asked.by.now) (g.T.LineTask.waits asked.by.now) (g.T.LineTask.marks asked.by.now) asked.from in
    let knows = KnownFrom (g.T.LineTask.knows asked.by.now) asked.from in
    let (lines, inv) = c.loop-number.invariant in
    gave_up own knows (g.I.Input.left c.args.input) lines c.loop-number.replies c.args.tally.now c.loop-number.tally _ _
    (c.lines_begin.ensures _ _ lines inv.taken) inv.so_far

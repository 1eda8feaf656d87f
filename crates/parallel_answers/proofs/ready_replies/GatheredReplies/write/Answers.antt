use Rattle.std.proofs.Common.{OnErr, Result, Ok, Err, List, ℕ, drop, subst, sym, take, take-append-drop}
use Rattle.byte_streams.specs.Stops.{AppendsPart}
use Rattle.parallel_answers.proofs.ready_replies.GatheredReplies.write.Goals as goal

on_err : {T E P : Type 0} (r : Result T E) → P → OnErr r P
on_err (Ok x) p = tt
on_err (Err e) p = p

pub returns-clause-part : goal.returns-clause-part
returns-clause-part g c =
    let written = c.put_counted-ended.new.written in
    on_err c.put_counted-ended.result
    (subst (λ (l : List ℕ). AppendsPart (g.O.Write.contents c.args.out.now) (g.O.Write.contents c.put_counted-ended.new.out) l)
    c.as_slice.ensures.value (
      take written c.as_slice.result.now,
      drop written c.as_slice.result.now,
      sym (take-append-drop written c.as_slice.result.now),
      c.put_counted-ended.ensures.first,
    ))

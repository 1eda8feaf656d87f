use Rattle.std.proofs.Common.{OnErr, Result, Ok, Err, drop, sym, take, take-append-drop}
use Rattle.byte_streams.proofs.writing.put.Goals as goal

on_err : {T E P : Type 0} (r : Result T E) → P → OnErr r P
on_err (Ok x) p = tt
on_err (Err e) p = p

pub returns-clause-part : goal.returns-clause-part
returns-clause-part g c = on_err c.put_counted.result (
  take c.put_counted.new.written c.args.text.now,
  drop c.put_counted.new.written c.args.text.now,
  sym (take-append-drop c.put_counted.new.written c.args.text.now),
  c.put_counted.ensures.first,
)

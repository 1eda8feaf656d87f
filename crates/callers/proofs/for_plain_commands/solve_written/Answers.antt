use Rattle.std.proofs.Common.{◌∙◌, ap, map, refl}
use Rattle.std.specs.String.{string_bytes}
use Rattle.callers.proofs.Worked.{solve_written}
use Rattle.callers.proofs.for_plain_commands.solve_written.Goals as goal

pub returns-in-Some-eq1 : goal.returns-in-Some-eq1
returns-in-Some-eq1 c =
    solve_written c.records_clear.ensures _ _ _ c.in-Some-eq1.field-0 _ c.plain_command.new.out.items refl refl
    (ap (map string_bytes) c.as_slice.ensures ∙ c.in-Ok.ensures)
    c.in-Some-eq1.ensures.ends c.new-out.ensures.items c.in-Some-eq1.field-0-test

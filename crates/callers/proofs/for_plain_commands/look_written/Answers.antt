use Rattle.std.proofs.Common.{◌∙◌, ap, map}
use Rattle.std.specs.String.{string_bytes}
use Rattle.callers.proofs.Worked.{look_written}
use Rattle.callers.proofs.for_plain_commands.look_written.Goals as goal

pub returns-in-Some-eq0 : goal.returns-in-Some-eq0
returns-in-Some-eq0 c =
    look_written c.spells_one.ensures _ _ _ c.in-Some-eq0.field-0 _ c.plain_command.new.out.items
    (ap (map string_bytes) c.as_slice.ensures ∙ c.in-Ok.ensures)
    c.in-Some-eq0.ensures.ends c.new-out.ensures.items c.in-Some-eq0.field-0-test

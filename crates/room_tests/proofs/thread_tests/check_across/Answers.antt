use Rattle.std.proofs.Common.{subst}
use Rattle.room_ends.specs.Windows.{SameWindow}
use Rattle.room_tests.proofs.Rooms.{of_then, of_window}
use Rattle.room_tests.proofs.thread_tests.check_across.Goals as goal

pub settle-requires : goal.settle-requires
settle-requires g c =
    let w = c.join-first.result.window in
    let s = subst (λ v. SameWindow v w) c.start-first.ensures c.join-first.ensures in
    let h = of_window c.in_ok-keeper.first w c.in_ok-keeper.keeper c.in_ok-keeper.ensures.first s in
    let k = of_then w c.in_ok-keeper.keeper c.keep-done.new.keeper h c.keep-done.ensures in
    let l = of_then w c.keep-done.new.keeper c.close.new.self k c.close.ensures.rings.stays.room in
    of_then w c.close.new.self c.send_home.new.self l c.send_home.ensures.rings.stays.room

pub settle-requires-2 : goal.settle-requires-2
settle-requires-2 g c =
    let w = c.join-second.result.window in
    let s = subst (λ v. SameWindow v w) c.start-second.ensures c.join-second.ensures in
    let h = of_window c.in_ok-keeper.second w c.in_ok-keeper.keeper c.in_ok-keeper.ensures.second s in
    let k = of_then w c.in_ok-keeper.keeper c.keep-done.new.keeper h c.keep-done.ensures in
    let l = of_then w c.keep-done.new.keeper c.close.new.self k c.close.ensures.rings.stays.room in
    let m = of_then w c.close.new.self c.send_home.new.self l c.send_home.ensures.rings.stays.room in
    of_then w c.send_home.new.self c.settle.new.self m c.settle.ensures.stays.room

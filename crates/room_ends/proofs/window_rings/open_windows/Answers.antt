use Rattle.std.proofs.Common.{◌≡◌, ◌+◌, arith, rules, length, vec_len, subst}
use Rattle.room_ends.specs.WindowRings.{letters_taken, deliveries_put, ring_of}
use Rattle.room_ends.specs.Opening.{IsFresh}
use Rattle.room_ends.proofs.Openings.{opened_snoc, fresh_snoc, rings_snoc}
use Rattle.room_ends.proofs.window_rings.open_windows.Goals as goal

pub loop-number-preserved : goal.loop-number-preserved
loop-number-preserved c =
    let i = c.loop-number.invariant in
    let e = c.in_ok-window.ensures in
    let w = c.push_reserved.ensures in
    let l = c.push_reserved-in-loop-number.ensures in
    let ends = c.loop-number.ends in
    let lines = c.loop-number.lines in
    let long : length ends.items ≡ vec_len ends = search rules in
    let at : c.loop-number.number ≡ 0 + length ends.items = omega (arith, i.count, long) in
    let fresh = subst (λ n. IsFresh c.args.ring c.args.default n c.in_ok-window.window c.in_ok-window.line) at e.fresh in
    record {
      count = omega (arith, w.len, i.count);
      count_lines = omega (arith, l.len, i.count_lines);
      places = omega (arith, w.capacity, i.places);
      places_lines = omega (arith, l.capacity, i.places_lines);
      opened = rw (w.items, l.items) (opened_snoc c.args.ring c.args.default 0 ends.items lines.items _ _ i.opened fresh);
      taken = rw l.items (fresh_snoc letters_taken lines.items _ c.loop-number.number i.taken e.taken);
      put = rw l.items (fresh_snoc deliveries_put lines.items _ c.loop-number.number i.put e.put);
      rings = rw l.items (rings_snoc ring_of c.args.ring lines.items _ c.loop-number.number i.rings e.ring);
    }

pub push_reserved-requires : goal.push_reserved-requires
push_reserved-requires c = omega (arith, c.loop-number.invariant.count, c.loop-number.invariant.places, c.loop-number-test.true)

pub push_reserved-requires-in-loop-number : goal.push_reserved-requires-in-loop-number
push_reserved-requires-in-loop-number c =
    omega (arith, c.loop-number.invariant.count_lines, c.loop-number.invariant.places_lines, c.loop-number-test.true)

pub returns : goal.returns
returns c =
    let i = c.loop-number.invariant in
    let all : c.loop-number.number ≡ c.args.windows = omega (arith, c.loop-number-test.false, c.loop-number.auto.number-end) in
    let long : length c.loop-number.ends.items ≡ vec_len c.loop-number.ends = search rules in
    let long_lines : length c.loop-number.lines.items ≡ vec_len c.loop-number.lines = search rules in
    record {
      windows = omega (arith, long, i.count, all);
      lines = omega (arith, long_lines, i.count_lines, all);
      opened = i.opened;
      taken = rw all at i.taken;
      put = rw all at i.put;
      rings = rw all at i.rings;
    }

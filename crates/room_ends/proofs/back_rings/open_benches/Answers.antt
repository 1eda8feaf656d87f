use Rattle.std.proofs.Common.{◌≡◌, ◌∙◌, arith, rules, length, vec_len}
use Rattle.room_ends.specs.Benches.{heard, receiver_ring}
use Rattle.room_ends.specs.Opening.{IsIdle}
use Rattle.room_ends.proofs.Openings.{idle_snoc, fresh_snoc, rings_snoc}
use Rattle.room_ends.proofs.back_rings.open_benches.Goals as goal

pub loop-preserved : goal.loop-preserved
loop-preserved c =
    let i = c.loop.invariant in
    let s = c.in_ok-stealer.ensures in
    let e = c.in_ok-bench.ensures in
    let b = c.push_reserved.ensures in
    let r = c.push_reserved-in-loop.ensures in
    let ends = c.loop.ends in
    let receivers = c.loop.receivers in
    let one : IsIdle c.stealer.new.self c.args.ring c.in_ok-bench.bench c.in_ok-bench.receiver = record {
      takes = rw e.stealer s.at;
      got = rw e.stealer s.got;
      given = e.given;
      places = e.bench_ring;
      ends = e.ends;
    } in
    record {
      count = omega (arith, b.len, i.count);
      count_receivers = omega (arith, r.len, i.count_receivers);
      places = omega (arith, b.capacity, i.places);
      places_receivers = omega (arith, r.capacity, i.places_receivers);
      idle = rw (b.items, r.items) (idle_snoc c.loop.producer c.stealer.new.self s.deque c.args.ring ends.items receivers.items _ _ i.idle one);
      heard = rw r.items (fresh_snoc heard receivers.items _ c.loop.counter i.heard e.heard);
      rings = rw r.items (rings_snoc receiver_ring c.args.ring receivers.items _ c.loop.counter i.rings e.receiver_ring);
      passes = omega (arith, s.handed, i.passes);
      orders = s.orders ∙ i.orders;
      deque = s.deque ∙ i.deque;
    }

pub push_reserved-requires : goal.push_reserved-requires
push_reserved-requires c = omega (arith, c.loop.invariant.count, c.loop.invariant.places, c.loop-test.true)

pub push_reserved-requires-in-loop : goal.push_reserved-requires-in-loop
push_reserved-requires-in-loop c = omega (arith, c.loop.invariant.count_receivers, c.loop.invariant.places_receivers, c.loop-test.true)

pub returns : goal.returns
returns c =
    let i = c.loop.invariant in
    let all : c.loop.counter ≡ c.args.benches = omega (arith, c.loop-test.false, c.loop.auto.counter-end) in
    let long : length c.loop.ends.items ≡ vec_len c.loop.ends = search rules in
    let long_receivers : length c.loop.receivers.items ≡ vec_len c.loop.receivers = search rules in
    record {
      benches = omega (arith, long, i.count, all);
      receivers = omega (arith, long_receivers, i.count_receivers, all);
      idle = i.idle;
      heard = rw all at i.heard;
      rings = rw all at i.rings;
      passes = omega (arith, i.passes, all);
      orders = i.orders;
      deque = i.deque;
    }

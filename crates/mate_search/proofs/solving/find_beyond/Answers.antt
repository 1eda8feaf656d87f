use Rattle.std.proofs.Common.{◌≡◌, ◌<◌, ◌+◌, ◌-◌, true, List, Some, get_or, length, sym, ap, ◌∙◌, arith}
use Rattle.std.proofs.lemmas.Bool.Decides.{nat_tests}
use Rattle.std.proofs.lemmas.List.{nil_from_length}
use Rattle.std.proofs.lemmas.List.Elements.{All-get_or}
use Rattle.chess_board.specs.Legality.{is_legal}
use Rattle.chess_board.specs.Moves.{Move}
use Rattle.chess_problems.specs.Problems.{ProblemValue}
use Rattle.mate_search.specs.inside.Truth.{first_moves, truth}
use Rattle.mate_search.specs.Wins.{leaves_lost}
use Rattle.mate_search.specs.inside.Variation.{keys, variation}
use Rattle.mate_search.proofs.AtOnce.{first_kept}
use Rattle.mate_search.proofs.FirstMoves.{first_moves_each}
use Rattle.mate_search.proofs.Keys.{dist_no_key, dist_by_key, keys_legal, truth_by_keys, truth_none}
use Rattle.mate_search.proofs.Least.{dist_fewer}
use Rattle.mate_search.proofs.solving.find_beyond.Goals as goal

pub push_keys-requires-clause-legal : goal.push_keys-requires-clause-legal
push_keys-requires-clause-legal g c =
    rw (c.as_slice.ensures.value, c.push_first_moves.ensures, ap (λ (q : ProblemValue). q.position) c.problem.view_is)
    (first_moves_each c.args.problem.now)

pub push_variation-requires-clause-legal : goal.push_variation-requires-clause-legal
push_variation-requires-clause-legal g c =
    let q = c.args.problem.now in
    let position = ap (λ (q : ProblemValue). q.position) c.problem.view_is in
    let found : c.push_keys.new.out.items ≡ keys (first_moves q) q.position (c.loop-k.k + 1) =
    rw (c.as_slice.ensures.value, c.push_first_moves.ensures, position) at c.in_ok-push_keys.ensures.keys in
    let some : 0 < length c.push_keys.new.out.items = omega (arith, c.in-len1-up.len_at_least, ap length c.as_slice-in-loop-k.ensures.value) in
    let key = c.key-item.is ∙ ap (λ (ms : List Move). get_or ms 0 c.key-item.result) (c.as_slice-in-loop-k.ensures.value ∙ found) in
    rw (position, key) (All-get_or (λ m. is_legal q.position m ≡ true) (keys (first_moves q) q.position (c.loop-k.k + 1)) 0 c.key-item.result
    (omega (arith, some, ap length found)) (keys_legal (first_moves q) q.position (c.loop-k.k + 1) (first_moves_each q)))

pub loop-k-preserved : goal.loop-k-preserved
loop-k-preserved g c =
    let q = c.args.problem.now in
    let none : length c.push_keys.new.out.items ≡ 0 = grind (arith, nat_tests) in
    let found : c.push_keys.new.out.items ≡ keys (first_moves q) q.position (c.loop-k.k + 1) =
    rw (c.as_slice.ensures.value, c.push_first_moves.ensures, ap (λ (q : ProblemValue). q.position) c.problem.view_is)
    at c.in_ok-push_keys.ensures.keys in
    record {
      none = dist_no_key (first_moves q) q.position c.loop-k.k c.loop-k.invariant.none (ap length (sym found) ∙ none);
      blank = (nil_from_length c.push_keys.new.out.items none, c.loop-k.invariant.blank.1);
      room = cc;
    }

pub returns-in-len1-up-clause-least : goal.returns-in-len1-up-clause-least
returns-in-len1-up-clause-least g c =
    let q = c.args.problem.now in
    let is : c.new.result ≡ Some (c.loop-k.k + 1) = grind (arith, nat_tests) in
    let some : 0 < length c.push_keys.new.out.items = omega (arith, c.in-len1-up.len_at_least, ap length c.as_slice-in-loop-k.ensures.value) in
    let found : c.push_keys.new.out.items ≡ keys (first_moves q) q.position (c.loop-k.k + 1) =
    rw (c.as_slice.ensures.value, c.push_first_moves.ensures, ap (λ (q : ProblemValue). q.position) c.problem.view_is)
    at c.in_ok-push_keys.ensures.keys in
    is ∙ sym (dist_by_key (first_moves q) q.position c.loop-k.k q.bound c.loop-k.invariant.none (omega (arith, some, ap length found))
    (omega (arith, c.get-k-end.ensures.moves, ap (λ (q : ProblemValue). q.bound) c.problem.view_is)))

pub returns-in-len1-up-clause-truth : goal.returns-in-len1-up-clause-truth
unfolding truth
returns-in-len1-up-clause-truth g c =
    let q = c.args.problem.now in
    let n = c.loop-k.k + 1 in
    let is : c.new.result ≡ Some (c.loop-k.k + 1) = grind (arith, nat_tests) in
    let some : 0 < length c.push_keys.new.out.items = omega (arith, c.in-len1-up.len_at_least, ap length c.as_slice-in-loop-k.ensures.value) in
    let position = ap (λ (q : ProblemValue). q.position) c.problem.view_is in
    let found : c.push_keys.new.out.items ≡ keys (first_moves q) q.position n =
    rw (c.as_slice.ensures.value, c.push_first_moves.ensures, position) at c.in_ok-push_keys.ensures.keys in
    let key = c.key-item.is ∙ ap (λ (ms : List Move). get_or ms 0 c.key-item.result) c.as_slice-in-loop-k.ensures.value in
    let first = first_kept (leaves_lost (n - 1) q.position) (first_moves q) c.push_keys.new.out.items c.key-item.result (sym found) some in
    let line : c.push_variation.new.out.items ≡ variation (first_moves q) q.position n =
    rw (c.loop-k.invariant.blank.1, position) at (c.in_ok-push_variation.ensures.variation (first_moves q) (rw position (ap Some key ∙ first))) in
    let least = dist_by_key (first_moves q) q.position c.loop-k.k q.bound c.loop-k.invariant.none (omega (arith, some, ap length found))
    (omega (arith, c.get-k-end.ensures.moves, ap (λ (q : ProblemValue). q.bound) c.problem.view_is)) in
    truth_by_keys (first_moves q) q.position n q.bound c.new.result (record { keys = c.push_keys.new.out; pv = c.push_variation.new.out })
    is least found line

pub returns-clause-least : goal.returns-clause-least
returns-clause-least g c = sym (dist_fewer (first_moves c.args.problem.now) c.args.problem.now.position c.args.problem.now.bound c.loop-k.k
    (omega (arith, c.get-k-end.ensures.moves, ap (λ (q : ProblemValue). q.bound) c.problem.view_is)) c.loop-k.invariant.none)

pub returns-clause-truth : goal.returns-clause-truth
unfolding truth
returns-clause-truth g c =
    let q = c.args.problem.now in
    sym (truth_none (first_moves q) q.position q.bound (dist_fewer (first_moves q) q.position q.bound c.loop-k.k
    (omega (arith, c.get-k-end.ensures.moves, ap (λ (q : ProblemValue). q.bound) c.problem.view_is)) c.loop-k.invariant.none))

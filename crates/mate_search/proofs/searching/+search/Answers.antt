use Rattle.std.proofs.Common.{◌≡◌, ◌-◌, not, refl, sym, ap, ◌∙◌, arith, rules}
use Rattle.chess_moves.specs.inside.Listing.{legal_moves}
use Rattle.mate_search.specs.Wins.{win, lost}
use Rattle.std.specs.List.{list_all}
use Rattle.mate_search.proofs.Searches.{all_kept}
use Rattle.mate_search.proofs.Wins.{all_legal, refuted_by, refuted_by_next, some_next, all_behind, win_by_next, no_win_left, win_none, lost_none}
use Rattle.chess_board.specs.Legality.{is_legal}
use Rattle.chess_board.specs.MakeMove.{after_setup}
use Rattle.mate_search.proofs.Replies.{none_loses, refuted_by_men, all_replies, lost_by_all, goes_on}
use denote.Enum.Bare.{sameb}
use Rattle.chess_moves.specs.contracts.verdicts.Verdict.{the_type as verdict_type}
use Rattle.chess_moves.specs.declared.verdicts.Verdict.TheVariants.{Stalemate}
use Rattle.mate_search.proofs.Known.{win_within_more, no_win_within_fewer, least_found}
use Rattle.mate_search.proofs.searching.+search.Goals as goal

pub least_win-returns-clause-none : goal.least_win-returns-clause-none
least_win-returns-clause-none t g c = λ e. no_win_within_fewer c.loop-k.k c.args.n c.args.position.now (omega arith) c.loop-k.invariant.none

pub loses_each-loop-r-init : goal.loses_each-loop-r-init
loses_each-loop-r-init t g c =
    let moves : c.into_iter-r-iterator.result ≡ legal_moves c.args.position.now =
    c.into_iter-r-iterator.ensures.into_iter_gives ∙ c.legal_moves-r-items.ensures.moves in
    record { all = rw moves refl; some = rw moves refl; legal = rw moves (all_legal c.args.position.now); room = refl }

pub wins_longer-returns-then-mates-clause-found : goal.wins_longer-returns-then-mates-clause-found
wins_longer-returns-then-mates-clause-found t g c =
    sym (win_within_more 1 c.args.n c.args.position.now (omega arith) (sym c.mates.ensures ∙ c.if-mates.true))

pub wins_longer-returns-in-Some-2-clause-found : goal.wins_longer-returns-in-Some-2-clause-found
wins_longer-returns-in-Some-2-clause-found t g c =
    let least = least_found c.args.n c.args.position.now c.in_ok-k.field-0 c.in-Some-2.k c.in-Some-2.is c.in_ok-k.ensures.least in
    sym (win_within_more c.in-Some-2.k c.args.n c.args.position.now least.1 least.3)

pub refutes-returns-clause-refuted : goal.refutes-returns-clause-refuted
refutes-returns-clause-refuted t g c = λ e. refuted_by c.legal_listed.ensures c.args.k c.args.position.now c.in-Some.r
    (omega (arith, c.r.invariant)) (omega (arith, c.r.invariant))
    (sym c.is_legal.ensures ∙ c.if-not-is_legal.false) (ap (win c.args.k) (sym c.after.ensures) ∙ sym c.in_ok-wins.ensures.found ∙ c.if-branch.false)

pub wins_by_some-loop-m-init : goal.wins_by_some-loop-m-init
wins_by_some-loop-m-init t g c =
    let moves : c.into_iter-m-iterator.result ≡ legal_moves c.args.position.now =
    c.into_iter-m-iterator.ensures.into_iter_gives ∙ c.legal_moves-m-items.ensures.moves in
    record { any = rw moves refl; legal = rw moves (all_legal c.args.position.now); room = refl }

pub is_refuted_by_capture-loop-r-init : goal.is_refuted_by_capture-loop-r-init
is_refuted_by_capture-loop-r-init t g c =
    let moves : c.into_iter-r-iterator.result ≡ legal_moves c.args.position.now =
    c.into_iter-r-iterator.ensures.into_iter_gives ∙ c.legal_moves-r-items.ensures.moves in
    record { all = rw moves (λ e. e); some = rw moves (λ e. e); legal = rw moves (all_legal c.args.position.now); room = refl }

pub each_loses-loop-r-init : goal.each_loses-loop-r-init
each_loses-loop-r-init t g c =
    let moves = legal_moves c.args.position.now in
    let kept = c.into_iter-r-iterator.ensures.into_iter_gives ∙ c.legal_moves_of-r-items.ensures in
    record {
      all = ap (list_all (λ r. win c.args.k (after_setup c.args.position.now r))) kept;
      legal = all_kept (is_legal c.args.position.now) _ moves c.into_iter-r-iterator.result kept (all_legal c.args.position.now);
      room = refl;
    }

pub is_refuted_by_check-loop-r-init : goal.is_refuted_by_check-loop-r-init
is_refuted_by_check-loop-r-init t g c =
    let moves : c.into_iter-r-iterator.result ≡ legal_moves c.args.position.now =
    c.into_iter-r-iterator.ensures.into_iter_gives ∙ c.legal_moves-r-items.ensures.moves in
    record { all = rw moves (λ e. e); some = rw moves (λ e. e); legal = rw moves (all_legal c.args.position.now); room = refl }

pub loses-returns-then-k-eq0-clause-lost : goal.loses-returns-then-k-eq0-clause-lost
loses-returns-then-k-eq0-clause-lost t g c = c.is_mated.ensures ∙ sym (lost_none c.args.k c.args.position.now c.if-k-eq0.true)

pub wins-returns-in-0-clause-found : goal.wins-returns-in-0-clause-found
wins-returns-in-0-clause-found t g c = sym (win_none c.args.n c.args.position.now c.in-0.is)

pub wins_by_some-returns-then-branch-clause-found : goal.wins_by_some-returns-then-branch-clause-found
wins_by_some-returns-then-branch-clause-found t g c = sym (win_by_next c.args.n c.args.position.now c.loop-m.m-iterator c.next.new.self c.in-Some.m
    c.requires.some c.loop-m.invariant.any c.in-Some.ensures.steps
    (ap (lost (c.args.n - 1)) (sym c.after.ensures) ∙ sym c.in_ok-loses_again.ensures.lost ∙ c.if-branch.true))

pub wins_by_some-returns-clause-found : goal.wins_by_some-returns-clause-found
wins_by_some-returns-clause-found t g c =
    sym (no_win_left c.args.n c.args.position.now c.loop-m.m-iterator c.requires.some c.loop-m.invariant.any c.in-None.ensures.steps.0)

pub is_refuted_by_capture-returns-then-not-branch-clause-refuted : goal.is_refuted_by_capture-returns-then-not-branch-clause-refuted
is_refuted_by_capture-returns-then-not-branch-clause-refuted t g c = λ _.
    refuted_by_next c.args.k c.args.position.now c.loop-r.r-iterator c.next.new.self c.in-Some.r
    c.in-Some.ensures.steps c.loop-r.invariant.all c.loop-r.invariant.some
    (ap (win c.args.k) (sym c.after.ensures) ∙ sym c.in_ok-wins.ensures.found ∙ c.if-not-branch.true)

pub is_refuted_by_check-returns-then-not-branch-clause-refuted : goal.is_refuted_by_check-returns-then-not-branch-clause-refuted
is_refuted_by_check-returns-then-not-branch-clause-refuted t g c = λ _.
    refuted_by_next c.args.k c.args.position.now c.loop-r.r-iterator c.next.new.self c.in-Some.r
    c.in-Some.ensures.steps c.loop-r.invariant.all c.loop-r.invariant.some
    (ap (win c.args.k) (sym c.after-next.ensures) ∙ sym c.in_ok-wins.ensures.found ∙ c.if-not-branch.true)

pub is_refuted_by_capture-loop-r-preserved : goal.is_refuted_by_capture-loop-r-preserved
is_refuted_by_capture-loop-r-preserved t g c = record {
  all = λ e. all_behind (λ s. win c.args.k (after_setup c.args.position.now s)) c.loop-r.r-iterator c.next.new.self c.in-Some.r
      c.in-Some.ensures.steps (c.loop-r.invariant.all e);
  some = λ _. c.loop-r.invariant.some (some_next c.loop-r.r-iterator c.next.new.self c.in-Some.r c.in-Some.ensures.steps);
  legal = all_behind (is_legal c.args.position.now) c.loop-r.r-iterator c.next.new.self c.in-Some.r c.in-Some.ensures.steps c.loop-r.invariant.legal;
  room = search rules;
}

pub is_refuted_by_check-loop-r-preserved : goal.is_refuted_by_check-loop-r-preserved
is_refuted_by_check-loop-r-preserved t g c = record {
  all = λ e. all_behind (λ s. win c.args.k (after_setup c.args.position.now s)) c.loop-r.r-iterator c.next.new.self c.in-Some.r
      c.in-Some.ensures.steps (c.loop-r.invariant.all e);
  some = λ _. c.loop-r.invariant.some (some_next c.loop-r.r-iterator c.next.new.self c.in-Some.r c.in-Some.ensures.steps);
  legal = all_behind (is_legal c.args.position.now) c.loop-r.r-iterator c.next.new.self c.in-Some.r c.in-Some.ensures.steps c.loop-r.invariant.legal;
  room = search rules;
}

pub each_loses-returns-then-men-eq0-clause-each : goal.each_loses-returns-then-men-eq0-clause-each
each_loses-returns-then-men-eq0-clause-each t g c = sym (none_loses c.args.k c.args.position.now c.args.men c.if-men-eq0.true)

pub loses_by_men-returns-then-not-branch-clause-lost : goal.loses_by_men-returns-then-not-branch-clause-lost
loses_by_men-returns-then-not-branch-clause-lost t g c = sym (refuted_by_men c.args.k c.args.position.now c.others_of.result
    (sym c.in_ok-each_loses.ensures.each ∙ c.if-not-branch.true))

pub loses_by_men-returns-then-not-branch-2-clause-lost : goal.loses_by_men-returns-then-not-branch-2-clause-lost
loses_by_men-returns-then-not-branch-2-clause-lost t g c = sym (refuted_by_men c.args.k c.args.position.now c.men-king.result
    (sym c.in_ok-each_loses-2.ensures.each ∙ c.if-not-branch-2.true))

pub loses_by_men-returns-clause-lost : goal.loses_by_men-returns-clause-lost
loses_by_men-returns-clause-lost t g c =
    let all = all_replies c.legal_listed.ensures c.args.k c.args.position.now c.side.result c.others_of.result c.men-king.result c.side.ensures.side
    c.others_of.ensures c.men-king.ensures (sym c.in_ok-each_loses.ensures.each ∙ c.if-not-branch.false)
    (sym c.in_ok-each_loses-2.ensures.each ∙ c.if-not-branch-2.false) in
    c.ne.ensures ∙ ap (λ v. not (sameb verdict_type v Stalemate)) c.verdict.ensures ∙ goes_on c.args.position.now
    ∙ sym (lost_by_all c.args.k c.args.position.now all)

pub wins_in_two-loop-m-init : goal.wins_in_two-loop-m-init
wins_in_two-loop-m-init t g c =
    let moves : c.into_iter-m-iterator.result ≡ legal_moves c.args.position.now =
    c.into_iter-m-iterator.ensures.into_iter_gives ∙ c.legal_moves-m-items.ensures.moves in
    record { any = rw moves refl; legal = rw moves (all_legal c.args.position.now); room = refl }

pub wins_in_two-returns-then-branch-clause-found : goal.wins_in_two-returns-then-branch-clause-found
wins_in_two-returns-then-branch-clause-found t g c = sym (win_by_next 2 c.args.position.now c.loop-m.m-iterator c.next.new.self c.in-Some.m
    (omega arith) c.loop-m.invariant.any c.in-Some.ensures.steps
    (ap (lost 1) (sym c.after.ensures) ∙ sym c.in_ok-loses_again.ensures.lost ∙ c.if-branch.true))

pub wins_in_two-returns-clause-found : goal.wins_in_two-returns-clause-found
wins_in_two-returns-clause-found t g c =
    sym (no_win_left 2 c.args.position.now c.loop-m.m-iterator (omega arith) c.loop-m.invariant.any c.in-None.ensures.steps.0)

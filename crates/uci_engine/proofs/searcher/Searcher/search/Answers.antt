use Rattle.std.proofs.Common.{◌+◌, refl, sym, subst, ap, ◌∙◌, arith}
use Rattle.chess_problems.specs.Problems.{ProblemValue}
use Rattle.uci_engine.specs.SearchLines.{IsMateLine, first_key, line_of}
use Rattle.uci_engine.proofs.SearchLines.{bound_is, ends_with, ends_without, none_fewer, none_first, none_of, said_first, said_keys, said_length}
use Rattle.uci_engine.proofs.searcher.Searcher.search.Goals as goal

pub returns-then-is_none : goal.returns-then-is_none
returns-then-is_none g c =
    ends_without c.args.asked.now 0 c.args.last.now.items c.args.last.now.items _ (omega arith) (none_first c.args.asked.now) refl
    c.in_ok-push_last.ensures

pub returns-in-Ok-Mate : goal.returns-in-Ok-Mate
returns-in-Ok-Mate g c =
    let n = c.loop-before.before in
    ends_with c.args.asked.now _ n c.in-Some.bound c.in-Ok-Mate.field-0 c.first_of.result c.args.last.now.items c.loop-before.last.items _
    (omega (arith, c.loop-before-test.true, c.get-most.ensures.moves, ap (λ (q : ProblemValue). q.bound) c.asked.view_is)) c.loop-before.invariant.none
    (bound_is (n + 1) c.in-Some.bound (sym c.new.ensures ∙ c.in-Some.is)) c.within-problem.ensures c.in-Ok-Mate.ensures.truth
    (λ no. cc) (c.first_of.ensures ∙ ap first_key (sym c.in-Ok-Mate.field-0-is)) c.loop-before.invariant.last
    c.in_ok-push_best-in-Ok-Mate.ensures

pub returns-in-Err : goal.returns-in-Err
returns-in-Err g c =
    ends_without c.args.asked.now c.loop-before.before c.args.last.now.items c.loop-before.last.items _
    (omega (arith, c.loop-before-test.true, c.get-most.ensures.moves, ap (λ (q : ProblemValue). q.bound) c.asked.view_is)) c.loop-before.invariant.none c.loop-before.invariant.last
    (rw c.from.ensures at c.in_ok-push_last-in-Err.ensures)

pub returns : goal.returns
returns g c =
    let most = c.get-most.result in
    ends_without c.args.asked.now most c.args.last.now.items c.loop-before.last.items _ (omega (arith, c.get-most.ensures.moves, ap (λ (q : ProblemValue). q.bound) c.asked.view_is))
    (none_fewer c.args.asked.now most c.loop-before.before (omega (arith, c.loop-before-test.false)) c.loop-before.invariant.none)
    c.loop-before.invariant.last (rw c.from-2.ensures at c.in_ok-push_last-2.ensures)

pub say_of-requires : goal.say_of-requires
say_of-requires g c =
    said_first c.args.asked.now _ c.loop-before.before c.in-Some.bound c.in-Ok-Mate.field-0 c.in-Ok-Mate.pv.items c.in_ok-first-in-Ok-Mate.first.items
    c.loop-before.invariant.none (bound_is (c.loop-before.before + 1) c.in-Some.bound (sym c.new.ensures ∙ c.in-Some.is)) c.within-problem.ensures
    c.in-Ok-Mate.ensures.truth (λ no. cc) (ap line_of c.in-Ok-Mate.field-0-is)
    (subst (λ l. IsMateLine c.within-problem.result.bound 1 l c.in_ok-first-in-Ok-Mate.first.items) c.as_slice.ensures.value
    c.in_ok-first-in-Ok-Mate.ensures)

pub say_of-requires-in-Ok-Mate : goal.say_of-requires-in-Ok-Mate
say_of-requires-in-Ok-Mate g c =
    said_keys c.args.asked.now _ c.loop-before.before c.in-Some.bound c.in-Ok-Mate.field-0 c.in_ok-more-in-Ok-Mate.more.items
    c.loop-before.invariant.none (bound_is (c.loop-before.before + 1) c.in-Some.bound (sym c.new.ensures ∙ c.in-Some.is)) c.within-problem.ensures
    c.in-Ok-Mate.ensures.truth (λ no. cc) c.in_ok-more-in-Ok-Mate.ensures

pub say_of-requires-in-Ok-NoMate : goal.say_of-requires-in-Ok-NoMate
say_of-requires-in-Ok-NoMate g c = said_length c.args.asked.now c.loop-before.before c.in_ok-length-in-Ok-NoMate.length.items c.loop-before.invariant.none
    (none_of c.args.asked.now _ c.loop-before.before c.in-Some.bound c.in-Ok-NoMate.field-0
    (bound_is (c.loop-before.before + 1) c.in-Some.bound (sym c.new.ensures ∙ c.in-Some.is)) c.within-problem.ensures c.in-Ok-NoMate.ensures.truth
    c.in-Ok-NoMate.field-0-is) c.in_ok-length-in-Ok-NoMate.ensures

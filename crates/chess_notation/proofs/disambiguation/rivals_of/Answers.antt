use Rattle.std.proofs.Common.{◌≡◌, ◌==◌, ◌&&◌, ◌||◌, Bool, true, false, List, [], refl, ap, ◌∙◌}
use Rattle.std.specs.List.{list_any}
use Rattle.chess_board.specs.Moves.{Move}
use Rattle.chess_board.specs.Squares.{file_of, rank_of}
use Rattle.chess_notation.specs.Disambiguation.{is_rival, some_rival}
use Rattle.chess_notation.proofs.SuchMen.{AreOthers, rivals_kept, no_rivals}
use Rattle.chess_notation.proofs.disambiguation.rivals_of.Goals as goal

pub returns-then-others-eq0-clause-some : goal.returns-then-others-eq0-clause-some
returns-then-others-eq0-clause-some c =
    let p = c.args.position.now in
    let man = c.args.man in
    let m = c.args.m in
    let o : c.index-origin.result ≡ m.origin = c.index-origin.ensures.number ∙ ap (λ (n : Move). n.origin) c.m.view_is in
    let are : AreOthers c.without-others.result p man m = record { each = λ s l. c.without-others.ensures s l ∙ rw (c.men.ensures s l, o) refl } in
    no_rivals c.legal_listed.ensures p man m c.without-others.result (λ n. true) are c.if-others-eq0.true

pub returns-then-others-eq0-clause-on_file : goal.returns-then-others-eq0-clause-on_file
returns-then-others-eq0-clause-on_file c =
    let p = c.args.position.now in
    let man = c.args.man in
    let m = c.args.m in
    let o : c.index-origin.result ≡ m.origin = c.index-origin.ensures.number ∙ ap (λ (n : Move). n.origin) c.m.view_is in
    let are : AreOthers c.without-others.result p man m = record { each = λ s l. c.without-others.ensures s l ∙ rw (c.men.ensures s l, o) refl } in
    no_rivals c.legal_listed.ensures p man m c.without-others.result (λ n. file_of n.origin == file_of m.origin) are c.if-others-eq0.true

pub returns-then-others-eq0-clause-on_rank : goal.returns-then-others-eq0-clause-on_rank
returns-then-others-eq0-clause-on_rank c =
    let p = c.args.position.now in
    let man = c.args.man in
    let m = c.args.m in
    let o : c.index-origin.result ≡ m.origin = c.index-origin.ensures.number ∙ ap (λ (n : Move). n.origin) c.m.view_is in
    let are : AreOthers c.without-others.result p man m = record { each = λ s l. c.without-others.ensures s l ∙ rw (c.men.ensures s l, o) refl } in
    no_rivals c.legal_listed.ensures p man m c.without-others.result (λ n. rank_of n.origin == rank_of m.origin) are c.if-others-eq0.true

pub loop-n-init : goal.loop-n-init
loop-n-init c =
    let p = c.args.position.now in
    let man = c.args.man in
    let m = c.args.m in
    let o : c.index-origin.result ≡ m.origin = c.index-origin.ensures.number ∙ ap (λ (n : Move). n.origin) c.m.view_is in
    let are : AreOthers c.without-others.result p man m = record { each = λ s l. c.without-others.ensures s l ∙ rw (c.men.ensures s l, o) refl } in
    let law = c.legal_listed.ensures in
    let others = c.without-others.result in
    let items = c.into_iter-n-iterator.ensures.into_iter_gives ∙ c.legal_moves_of-n-items.ensures in (
      refl,
      ap (list_any (λ n. is_rival p man m n && true)) items ∙ rivals_kept law p man m others (λ n. true) are,
      ap (list_any (λ n. is_rival p man m n && (file_of n.origin == file_of m.origin))) items
          ∙ rivals_kept law p man m others (λ n. file_of n.origin == file_of m.origin) are,
      ap (list_any (λ n. is_rival p man m n && (rank_of n.origin == rank_of m.origin))) items
          ∙ rivals_kept law p man m others (λ n. rank_of n.origin == rank_of m.origin) are,
    )

-- Where no move is left, what was found is what there is among all.
none_to_come : (found : Bool) (f : Move → Bool) (ms : List Move) (all : Bool) → ms ≡ [] → (found || list_any f ms) ≡ all → found ≡ all
none_to_come true f ms all is e = e
none_to_come false f ms all is e = rw is at e

pub returns-clause-some : goal.returns-clause-some
unfolding some_rival
returns-clause-some c = none_to_come _ (λ n. is_rival c.args.position.now c.args.man c.args.m n && true) c.loop-n.n-iterator _
    c.in-None.ensures.steps.0 (rw c.loop-n.invariant.0 at c.loop-n.invariant.1)

pub returns-clause-on_file : goal.returns-clause-on_file
unfolding some_rival
returns-clause-on_file c = none_to_come _ (λ n. is_rival c.args.position.now c.args.man c.args.m n && (file_of n.origin == file_of c.args.m.origin)) c.loop-n.n-iterator _
    c.in-None.ensures.steps.0 (rw c.loop-n.invariant.0 at c.loop-n.invariant.2)

pub returns-clause-on_rank : goal.returns-clause-on_rank
unfolding some_rival
returns-clause-on_rank c = none_to_come _ (λ n. is_rival c.args.position.now c.args.man c.args.m n && (rank_of n.origin == rank_of c.args.m.origin)) c.loop-n.n-iterator _
    c.in-None.ensures.steps.0 (rw c.loop-n.invariant.0 at c.loop-n.invariant.3)

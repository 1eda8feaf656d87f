use Rattle.std.proofs.Common.{◌≡◌, ℕ, false, Option, sym, ap, ◌∙◌, arith}
use Rattle.std.proofs.lemmas.Bool.Decides.{nat_tests}
use Rattle.chess_problems.specs.Problems.{ProblemValue}
use Rattle.chess_moves.specs.inside.Listing.{legal_moves}
use Rattle.mate_search.specs.Wins.{win}
use Rattle.mate_search.specs.inside.Findings.{outcome_of}
use Rattle.mate_search.specs.inside.Truth.{truth_among}
use Rattle.mate_search.proofs.FirstMoves.{none_of_all, truth_of_all}
use Rattle.mate_search.proofs.solving.find_of_all.Goals.{else-known-eq0-via-then-known-eq0+else-mates_at_once, else-known-eq0-via-else-known-eq0}
use Rattle.mate_search.proofs.solving.find_of_all.Goals as goal

pub find_beyond-requires-clause-none : goal.find_beyond-requires-clause-none
find_beyond-requires-clause-none g c =
    let none : win c.max.result c.problem.inside.position ≡ false = elim c.else-known-eq0.branch [
      | else-known-eq0-via-then-known-eq0+else-mates_at_once w ↦
          let one : c.max.result ≡ 1 = grind (arith, nat_tests) in
          rw one (sym w.mates_at_once.ensures.found ∙ w.if-mates_at_once.false)
      | else-known-eq0-via-else-known-eq0 w ↦
          let same : c.max.result ≡ c.entry-known.result.none_within = grind (arith, nat_tests) in
          rw same c.entry-known.ensures.known.none
    ] in
    none_of_all c.args.problem.now c.max.result c.requires.all (rw (ap (λ (q : ProblemValue). q.position) c.problem.view_is) at none)

pub returns-then-mates_at_once-clause-truth : goal.returns-then-mates_at_once-clause-truth
returns-then-mates_at_once-clause-truth g c =
    ap (λ (dm : Option ℕ). outcome_of dm c.mates_at_once.new.found) c.new.ensures
    ∙ c.mates_at_once.ensures.truth c.if-mates_at_once.true c.problem.inside.bound (omega arith)
    ∙ ap (λ (q : ProblemValue). truth_among (legal_moves q.position) q.position q.bound) c.problem.view_is
    ∙ truth_of_all c.args.problem.now c.requires.all

use Rattle.std.proofs.Common.{refl, arith, sym, ◌≡◌, ◌≢◌, ◌∙◌, ◌<◌, length}
use Rattle.std.proofs.lemmas.Bool.Decides.{nat_tests}
use Rattle.chess_board.proofs.RankSteps.{two_runs, long_run, no_man, one_too_many, too_short}
use Rattle.chess_board.proofs.RankBoards.{rank_begun, run_put, square_free, man_put, rank_put}
use Rattle.chess_board.proofs.placement.read_rank.Goals as goal
use Rattle.chess_board.proofs.placement.read_rank.Goals.{then-is_run_digit+else-after_digit+else-file-count-gt8, else-is_run_digit+in-Some+else-file-eq8}

pub loop-byte-init : goal.loop-byte-init
loop-byte-init c = rank_begun c.args.men.now c.args.rank c.args.text.now c.requires.empty

pub returns-then-after_digit-clause-none : goal.returns-then-after_digit-clause-none
returns-then-after_digit-clause-none c = λ _.
    two_runs _ _ _ _ _ c.loop-byte.invariant.so_far c.loop-byte-test.true refl (cc) c.if-after_digit.true

pub returns-then-file-count-gt8-clause-none : goal.returns-then-file-count-gt8-clause-none
returns-then-file-count-gt8-clause-none c = λ _.
    let h = c.loop-byte.invariant in
    long_run _ _ _ _ _ h.so_far c.loop-byte-test.true refl (cc) c.if-after_digit.false (omega (arith, h.long))

pub returns-in_default-clause-none : goal.returns-in_default-clause-none
returns-in_default-clause-none c = λ _.
    no_man _ _ _ _ _ c.loop-byte.invariant.so_far c.loop-byte-test.true refl (cc) (sym c.man_of_letter.ensures ∙ c.in_default.is)

pub returns-then-file-eq8-clause-none : goal.returns-then-file-eq8-clause-none
returns-then-file-eq8-clause-none c = λ _.
    let h = c.loop-byte.invariant in
    let full : length h.front ≡ 8 = grind (arith, nat_tests) in
    one_too_many _ _ _ _ _ c.in-Some.man h.so_far c.loop-byte-test.true refl (cc) (sym c.man_of_letter.ensures ∙ c.in-Some.is) full

pub put-requires : goal.put-requires
put-requires c =
    let h = c.loop-byte.invariant in
    let inside : c.loop-byte.file < 8 = grind (arith, nat_tests) in
    square_free _ c.args.men.now c.args.rank c.loop-byte.file _ _ _ _ h c.requires.empty inside c.numbered.ensures

pub loop-byte-preserved : goal.loop-byte-preserved
loop-byte-preserved c =
    let l = c.loop-byte in
    elim c.if-is_run_digit.branch [
      | then-is_run_digit+else-after_digit+else-file-count-gt8 w ↦
          rw (w.men-is, w.after_digit-is)
          (run_put l.men c.args.men.now c.args.rank l.file _ c.args.text.now l.after_digit l.byte-index _ l.invariant c.loop-byte-test.true refl (cc)
          w.if-after_digit.false w.file-is (omega arith))
      | else-is_run_digit+in-Some+else-file-eq8 w ↦
          let inside : l.file < 8 = grind (arith, nat_tests) in
          rw (w.file-is, w.after_digit-is)
          (man_put l.men c.args.men.now _ c.args.rank l.file w.numbered.result c.args.text.now l.after_digit l.byte-index _ w.in-Some.man l.invariant
          c.requires.empty c.loop-byte-test.true refl (cc) (sym w.man_of_letter.ensures ∙ w.in-Some.is) inside w.numbered.ensures
          (w.men-is ∙ w.put.ensures))
    ]

pub returns-clause-read : goal.returns-clause-read
returns-clause-read c = λ full.
    rank_put _ _ _ _ _ _ _ c.loop-byte.invariant c.loop-byte-test.false (grind (arith, nat_tests))

pub returns-clause-none : goal.returns-clause-none
returns-clause-none c = λ other.
    let h = c.loop-byte.invariant in
    let short : length h.front ≢ 8 = grind (arith, nat_tests) in
    too_short _ _ _ _ h.so_far c.loop-byte-test.false short

use Rattle.std.proofs.Common.{◌++◌, [], arith, refl}
use Rattle.std.proofs.KnownBytes.{Appends-nil, Appends-trans}
use Rattle.std.proofs.lemmas.List.{length-map}
use Rattle.file_answers.proofs.AnsweredFiles.{all_so_far, all_told, answered_none, answers_next, stops_there}
use Rattle.file_answers.proofs.Opened.{held_by}
use Rattle.file_answers.proofs.OpenedFiles.{opened_each, opened_there}
use Rattle.file_answers.proofs.opened_files.answer_opened.Goals as goal

pub returns-in-Err-clause-err : goal.returns-in-Err-clause-err
returns-in-Err-clause-err g c =
    let (gained, so_far, grown, before, left, count) = c.loop-name.invariant in
    let (has, breaks, behind) = opened_there _ _ _ _ c.args.opened.names.now c.loop-name.name-index _ _ _ _ c.loop-name-test.true left
    c.in-Some.ensures.cases.0 in
    let (input, part, may, reply, appends) = c.in-Err.ensures.err in
    rw c.stop_at.ensures (stops_there c.holds_reads.ensures.each (g.S.Source.holds c.args.opened.source.now)
    (g.S.Source.refuses c.args.opened.source.now)
    (g.A.FileAnswers.told c.args.answers.now) (g.A.FileAnswers.replies c.args.answers.now)
    (g.A.FileAnswers.first c.args.answers.now) (g.A.FileAnswers.tells c.args.answers.now) 1 c.args.opened.names.now
    c.loop-name.name-index _ 1 c.loop-name.refused _ c.in-Err.stop (g.O.Write.contents c.args.out.now) _ _ gained
    input part c.loop-name-test.true so_far before (held_by _ _ input has may) reply appends
    (λ unreadable. breaks (c.in-Err.ensures.unreadable unreadable)))

pub loop-name-init : goal.loop-name-init
loop-name-init g c =
    let each = opened_each _ _ _ _ _ _ c.requires.opened in (
      [],
      answered_none _ _ _ _,
      omega arith,
      Appends-nil (g.O.Write.contents c.args.out.now),
      rw c.into_iter-rest.ensures.rest c.requires.opened,
      omega (arith, each, c.into_iter-rest.ensures.len, length-map c.args.opened.names.now (λ s. s.now)),
    )

pub loop-name-preserved : goal.loop-name-preserved
loop-name-preserved g c =
    let (gained, so_far, grown, before, left, count) = c.loop-name.invariant in
    let (has, breaks, behind) = opened_there _ _ _ _ c.args.opened.names.now c.loop-name.name-index _ _ _ _ c.loop-name-test.true left
    c.in-Some.ensures.cases.0 in
    let (input, text, may, reply, appends) = c.in-Ok.ensures.ok in (
      gained ++ text,
      (answers_next c.holds_reads.ensures.more (g.S.Source.holds c.args.opened.source.now) (g.A.FileAnswers.told c.args.answers.now) 1
          c.args.opened.names.now c.loop-name.name-index _ 1 c.loop-name.refused _ _ _ _ gained input text c.in-Ok.count
          c.loop-name-test.true grown c.in-Ok.ensures.grows so_far (held_by _ _ input has may) reply refl),
      omega (arith, grown, c.in-Ok.ensures.grows),
      Appends-trans _ _ _ gained text before appends,
      behind,
      omega (arith, count, c.in-Some.ensures.cases.1),
    )

pub returns-clause-ok : goal.returns-clause-ok
returns-clause-ok g c =
    let (gained, so_far, grown, appends, left, count) = c.loop-name.invariant in record {
      gained = gained;
      shows = all_told (g.A.FileAnswers.told c.args.answers.now) (g.A.FileAnswers.replies c.args.answers.now)
          (g.A.FileAnswers.tells c.args.answers.now) (g.S.Source.holds c.args.opened.source.now) 1 c.args.opened.names.now
          c.loop-name.name-index 1 c.loop-name.refused _ gained c.loop-name-test.false so_far;
      appends = appends;
    }

pub returns-clause-told : goal.returns-clause-told
returns-clause-told g c =
    let (gained, so_far, grown, appends, left, count) = c.loop-name.invariant in record {
      gained = gained;
      shows = all_so_far (g.A.FileAnswers.told c.args.answers.now) (g.S.Source.holds c.args.opened.source.now) 1
          c.args.opened.names.now c.loop-name.name-index 1 c.loop-name.refused _ gained c.loop-name-test.false so_far;
      appends = appends;
    }

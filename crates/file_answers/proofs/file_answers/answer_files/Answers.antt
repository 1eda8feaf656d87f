use Rattle.std.proofs.Common.{◌++◌, [], arith, refl}
use Rattle.std.proofs.KnownBytes.{Appends-nil, Appends-trans}
use Rattle.std.proofs.lemmas.Result.{err_from_is_err_and}
use Rattle.file_answers.proofs.AnsweredFiles.{all_so_far, all_told, answered_none, answers_next, stops_there}
use Rattle.file_answers.proofs.Opened.{held_by}
use Rattle.file_answers.proofs.Unopened.{may_refuse, stopped_unopened}
use Rattle.file_answers.proofs.file_answers.answer_files.Goals as goal

pub loop-name-init : goal.loop-name-init
loop-name-init g c = (
  [],
  rw c.get-from.ensures.number (answered_none _ _ _ _),
  omega arith,
  Appends-nil (g.O.Write.contents c.args.out.now),
  c.get-from.ensures.some,
)

pub returns-in_err-file-clause-err : goal.returns-in_err-file-clause-err
returns-in_err-file-clause-err g c =
    let (other, is, same) = err_from_is_err_and c.from_residual.result c.from_residual.ensures.1 in
    let (gained, so_far, grown, before, some) = c.loop-name.invariant in
    let (input, part, may, reply, appends) =
    stopped_unopened c.in_err-file.field-0.0 (g.A.FileAnswers.first c.args.answers.now c.loop-name.from _)
    (g.S.Source.holds c.args.files.now.source.now _) (g.O.Write.contents c.loop-name.out)
    (c.begins_with_nothing.ensures c.loop-name.from _) c.in_err-file.ensures.refused in
    rw (is, same) (stops_there c.holds_reads.ensures.each (g.S.Source.holds c.args.files.now.source.now)
    (g.S.Source.refuses c.args.files.now.source.now)
    (g.A.FileAnswers.told c.args.answers.now) (g.A.FileAnswers.replies c.args.answers.now)
    (g.A.FileAnswers.first c.args.answers.now) (g.A.FileAnswers.tells c.args.answers.now) c.args.files.now.from c.args.files.now.names.now
    c.loop-name.name-index _ c.loop-name.from c.loop-name.refused _ c.in_err-file.field-0.0 (g.O.Write.contents c.args.out.now) _ _ gained
    input part c.loop-name-test.true so_far before may reply appends (may_refuse c.in_err-file.ensures.refused))

pub returns-in-Err-clause-err : goal.returns-in-Err-clause-err
returns-in-Err-clause-err g c =
    let (gained, so_far, grown, before, some) = c.loop-name.invariant in
    let (input, part, may, reply, appends) = c.in-Err.ensures.err in
    rw c.stop_at.ensures (stops_there c.holds_reads.ensures.each (g.S.Source.holds c.args.files.now.source.now)
    (g.S.Source.refuses c.args.files.now.source.now)
    (g.A.FileAnswers.told c.args.answers.now) (g.A.FileAnswers.replies c.args.answers.now)
    (g.A.FileAnswers.first c.args.answers.now) (g.A.FileAnswers.tells c.args.answers.now) c.args.files.now.from c.args.files.now.names.now
    c.loop-name.name-index _ c.loop-name.from c.loop-name.refused _ c.in-Err.stop (g.O.Write.contents c.args.out.now) _ _ gained
    input part c.loop-name-test.true so_far before (held_by _ _ input c.in_ok-file.ensures.bytes may) reply appends
    (λ unreadable. c.in_ok-file.ensures.breaks (c.in-Err.ensures.unreadable unreadable)))

pub loop-name-preserved : goal.loop-name-preserved
loop-name-preserved g c =
    let (gained, so_far, grown, before, some) = c.loop-name.invariant in
    let (input, text, may, reply, appends) = c.in-Ok.ensures.ok in (
      gained ++ text,
      (answers_next c.holds_reads.ensures.more (g.S.Source.holds c.args.files.now.source.now)
          (g.A.FileAnswers.told c.args.answers.now) c.args.files.now.from c.args.files.now.names.now c.loop-name.name-index _
          c.loop-name.from c.loop-name.refused _ _ _ _ gained input text c.in-Ok.count
          c.loop-name-test.true grown c.in-Ok.ensures.grows so_far (held_by _ _ input c.in_ok-file.ensures.bytes may) reply refl),
      omega (arith, grown, c.in-Ok.ensures.grows),
      Appends-trans _ _ _ gained text before appends,
      omega arith,
    )

pub returns-clause-ok : goal.returns-clause-ok
returns-clause-ok g c =
    let (gained, so_far, grown, appends, some) = c.loop-name.invariant in record {
      gained = gained;
      shows = all_told (g.A.FileAnswers.told c.args.answers.now) (g.A.FileAnswers.replies c.args.answers.now)
          (g.A.FileAnswers.tells c.args.answers.now) (g.S.Source.holds c.args.files.now.source.now) c.args.files.now.from c.args.files.now.names.now
          c.loop-name.name-index c.loop-name.from c.loop-name.refused _ gained c.loop-name-test.false so_far;
      appends = appends;
    }

pub returns-clause-told : goal.returns-clause-told
returns-clause-told g c =
    let (gained, so_far, grown, appends, some) = c.loop-name.invariant in record {
      gained = gained;
      shows = all_so_far (g.A.FileAnswers.told c.args.answers.now) (g.S.Source.holds c.args.files.now.source.now) c.args.files.now.from
          c.args.files.now.names.now c.loop-name.name-index c.loop-name.from c.loop-name.refused _ gained c.loop-name-test.false so_far;
      appends = appends;
    }

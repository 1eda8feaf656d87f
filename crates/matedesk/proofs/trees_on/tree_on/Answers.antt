use Rattle.std.proofs.Common.{IfErr, IfOk, map, subst}
use Rattle.command_words.specs.Asked.{tree_on}
use Rattle.file_answers.specs.Writing.{Gains}
use Rattle.plain_commands.specs.Told.{StopsTelling, Tells}
use Rattle.matedesk.proofs.NoWorkers.{ends_untold_on}
use Rattle.matedesk.proofs.trees_on.tree_on.Goals as goal

pub returns-in-Err : goal.returns-in-Err
returns-in-Err g c =
    rw c.unserved.ensures (ends_untold_on (g.S.Source.holds c.args.source.now) (g.S.Source.refuses c.args.source.now)
    c.ends_by_status.ensures c.tells_none.ensures c.args.asked.now.workers c.args.asked.now.bound c.args.asked.now.form c.args.asked.now.letters.now c.args.asked.now.files.from
    (map (λ s. s.now) c.args.asked.now.files.names.now) (g.O.Write.contents c.args.out.now))

pub returns : goal.returns
returns g c =
    let holds = g.S.Source.holds c.args.source.now in
    let refuses = g.S.Source.refuses c.args.source.now in
    let from = c.args.asked.now.files.from in
    let names = map (λ s. s.now) c.args.asked.now.files.names.now in
    let old = g.O.Write.contents c.args.out.now in
    let new = g.O.Write.contents c.answer_files-ended.new.out in
    let ended = c.answer_files-ended.result in
    let ok = subst (λ f. IfOk ended (λ refused. Gains (Tells holds c.args.asked.now.bound f from names refused) old new)) c.tree_form.ensures
    c.answer_files-ended.ensures.ok in
    let err = subst (λ f. IfErr ended (λ stop. StopsTelling holds refuses c.args.asked.now.bound f from names stop old new)) c.tree_form.ensures
    c.answer_files-ended.ensures.err in
    c.ends_by_status.ensures (tree_on c.args.asked.now.workers c.args.asked.now.bound c.args.asked.now.form c.args.asked.now.letters.now from names) ended c.status_of.result old new
    c.status_of.ensures ok err

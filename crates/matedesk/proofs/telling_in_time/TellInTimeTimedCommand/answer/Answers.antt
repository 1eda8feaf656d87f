use Rattle.std.proofs.Common.{◌-◌, IfOk, map, subst}
use Rattle.std.specs.Bool.{⊤}
use Rattle.command_words.specs.Asked.{tree_limited}
use Rattle.file_answers.specs.Writing.{Gains}
use Rattle.plain_commands.specs.Told.{TellsLimited, tree_form_of}
use Rattle.matedesk.proofs.Uncounted.{in_time}
use Rattle.matedesk.proofs.telling_in_time.TellInTimeTimedCommand.answer.Goals as goal

pub returns-clause-ok : goal.returns-clause-ok
returns-clause-ok g c =
    let asked = c.args.self.now.asked.now in
    let names = map (λ s. s.now) asked.files.names.now in
    let holds = g.S.Source.holds c.args.timed.now.source.now in
    let old = g.O.Write.contents c.args.out.now in
    let new = g.O.Write.contents c.answer_files.new.out in
    let n = c.answer_files.new.memory.undecided - c.args.memory.now.undecided in
    let told = subst (λ f. IfOk c.answer_files.result
    (λ refused. Gains (TellsLimited holds ⊤ c.args.self.now.seconds asked.bound f asked.files.from names refused n) old new))
    c.tree_form.ensures c.answer_files.ensures.told in
    in_time holds (tree_limited c.args.self.now.seconds asked.bound asked.form asked.letters.now asked.files.from names)
    (λ refused n. TellsLimited holds ⊤ c.args.self.now.seconds asked.bound (tree_form_of asked.form asked.letters.now) asked.files.from names refused n)
    old new n (λ refused gains. gains) (λ refused n some gains. (refused, n, some, gains)) c.answer_files.result told

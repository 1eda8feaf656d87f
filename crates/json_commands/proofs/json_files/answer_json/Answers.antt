use Rattle.std.proofs.Common.{◌-◌, map}
use Rattle.json_commands.proofs.SeveralFiles.{err_each, ok_each, told_each}
use Rattle.json_commands.proofs.json_files.answer_json.Goals as goal

pub returns-clause-ok : goal.returns-clause-ok
returns-clause-ok g c = ok_each (g.S.Source.holds c.args.files.now.source.now) (g.S.Source.refuses c.args.files.now.source.now) c.args.json.now.form
    (g.H.LineHandler.replies c.args.json.now.handler.now) c.args.files.now.from (map (λ s. s.now) c.args.files.now.names.now) c.has_several.result
    (g.O.Write.contents c.args.out.now) (g.O.Write.contents c.answer_files.new.out) c.answer_files.result c.has_several.ensures
    c.answer_files.ensures.ok

pub returns-clause-told : goal.returns-clause-told
returns-clause-told g c = told_each (g.S.Source.holds c.args.files.now.source.now) (g.S.Source.refuses c.args.files.now.source.now)
    c.args.json.now.form
    (g.H.LineHandler.replies c.args.json.now.handler.now) c.args.files.now.from (map (λ s. s.now) c.args.files.now.names.now) c.has_several.result
    (g.O.Write.contents c.args.out.now) (g.O.Write.contents c.answer_files.new.out) (g.H.LineHandler.marks c.args.json.now.handler.now)
    (g.H.LineHandler.tally c.answer_files.new.memory - g.H.LineHandler.tally c.args.memory.now) c.answer_files.result c.has_several.ensures
    c.answer_files.ensures.told

pub returns-clause-err : goal.returns-clause-err
returns-clause-err g c = err_each (g.S.Source.holds c.args.files.now.source.now) (g.S.Source.refuses c.args.files.now.source.now) c.args.json.now.form
    (g.H.LineHandler.replies c.args.json.now.handler.now) c.args.files.now.from (map (λ s. s.now) c.args.files.now.names.now) c.has_several.result
    (g.O.Write.contents c.args.out.now) (g.O.Write.contents c.answer_files.new.out) c.answer_files.result c.has_several.ensures
    c.answer_files.ensures.err

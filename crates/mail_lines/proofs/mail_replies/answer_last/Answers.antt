use Rattle.std.proofs.Common.{◌++◌, ◌+◌, ◌∷◌, [], inl, refl, subst, sym}
use Rattle.std.proofs.lemmas.Result.{IfErr-weaker, IfOk-weaker}
use Rattle.mail_lines.specs.inside.MailReplies.{AreWritten, rules_from}
use Rattle.mail_lines.specs.inside.OpenMails.{empty_lines, with_crs}
use Rattle.mail_lines.proofs.JoinedLines.{mail_ended}
use Rattle.mail_lines.proofs.WrittenMails.{breaks_before, breaks_next, empty_written, ok_both, skips_from, written_next}
use Rattle.mail_lines.proofs.mail_replies.answer_last.Goals as goal

pub returns-in-Some-clause-ok : goal.returns-in-Some-clause-ok
returns-in-Some-clause-ok g c =
    let by = c.args.lines.now.by.now in
    let rules = rules_from (g.H.LineHandler.replies by) (g.H.LineHandler.knows by) (g.H.LineHandler.follows by) c.args.lines.now.from in
    let skips = skips_from (g.H.LineHandler.replies by) (g.H.LineHandler.knows by) (g.H.LineHandler.follows by) c.args.lines.now.from
    (λ number. g.met.H.LineHandler.skips by number [] refl) (λ before number. g.met.H.LineHandler.skips_behind by before number [] refl)
    (λ memory before known. g.met.H.LineHandler.passes by memory before [] (inl refl) known) in
    rw (c.in-Some.is)
    (IfOk-weaker c.answer_from.result _ _
    (λ more (written, few) headed number reading lines first start refused o w.
    let one = written_next rules first _ _ start _ _ lines o.text refused more c.in-Some.mail.number few w o.first (written o.text o.is) in
    subst (λ ls. AreWritten rules first c.answer_from.new.memory start (g.O.Write.contents c.answer_from.new.out) (with_crs ls) (refused + more)) (mail_ended c.in-Some.mail number reading lines o)
    (empty_written rules first _ start _ (lines ++ o.text ∷ []) _ o.empty skips one))
    (ok_both c.answer_from.result _ _ c.answer_from.ensures.ok c.answer_from.ensures.few))

pub returns-in-Some-clause-err : goal.returns-in-Some-clause-err
returns-in-Some-clause-err g c =
    rw (c.in-Some.is)
    (IfErr-weaker c.answer_from.result _ _
    (λ stop breaks headed number reading lines first start refused o w.
    breaks_before _ first stop start _ (lines ++ o.text ∷ []) (empty_lines o.empty) (reading []) (sym (mail_ended c.in-Some.mail number reading lines o))
    (breaks_next _ first _ stop start _ _ lines o.text refused c.in-Some.mail.number w o.first (breaks o.text o.is)))
    c.answer_from.ensures.err)

use Rattle.std.proofs.lemmas.Result.{IfErr-weaker, IfOk-weaker}
use Rattle.text_lines.proofs.PassedLines.{followed_on, followed_to_first, knows_first, reply_on, reply_to_first_on}
use Rattle.mail_lines.specs.Mails.{mailed}
use Rattle.mail_lines.specs.inside.MailReplies.{rules_from}
use Rattle.mail_lines.proofs.WrittenMails.{follow_first, follow_whole, reply_first, reply_whole}
use Rattle.mail_lines.proofs.mail_replies.answer_mails.Goals as goal

pub returns-clause-ok : goal.returns-clause-ok
returns-clause-ok g c =
    let rules = rules_from (g.H.LineHandler.replies c.args.lines.now.by.now) (g.H.LineHandler.knows c.args.lines.now.by.now)
    (g.H.LineHandler.follows c.args.lines.now.by.now) c.args.lines.now.from in
    IfOk-weaker c.write_mails.result _ _
    (λ refused (bytes, may, written). (
      bytes,
      written.text,
      may,
      reply_on (g.H.LineHandler.replies c.args.lines.now.by.now) c.args.lines.now.from (mailed c.args.letters.now bytes) written.text refused c.requires.from
          (reply_whole rules c.args.memory.now _ _ _ (mailed c.args.letters.now bytes) refused written),
      written.appends,
    ))
    c.write_mails.ensures.ok

pub returns-clause-followed : goal.returns-clause-followed
returns-clause-followed g c =
    let rules = rules_from (g.H.LineHandler.replies c.args.lines.now.by.now) (g.H.LineHandler.knows c.args.lines.now.by.now)
    (g.H.LineHandler.follows c.args.lines.now.by.now) c.args.lines.now.from in
    let from = c.args.lines.now.from in
    IfOk-weaker c.write_mails.result _ _
    (λ refused (bytes, may, written) known.
    let (replies, after) = follow_whole rules c.args.memory.now _ _ _ (mailed c.args.letters.now bytes) refused written
    (knows_first (g.H.LineHandler.knows c.args.lines.now.by.now) c.args.memory.now from known) in (
      bytes,
      written.text,
      may,
      (followed_on (g.H.LineHandler.follows c.args.lines.now.by.now) from (mailed c.args.letters.now bytes) written.text refused c.requires.from replies, after),
      written.appends,
    ))
    c.write_mails.ensures.ok

pub returns-clause-err : goal.returns-clause-err
returns-clause-err g c =
    let rules = rules_from (g.H.LineHandler.replies c.args.lines.now.by.now) (g.H.LineHandler.knows c.args.lines.now.by.now)
    (g.H.LineHandler.follows c.args.lines.now.by.now) c.args.lines.now.from in
    IfErr-weaker c.write_mails.result _ _
    (λ stop (bytes, may, broken). (
      bytes,
      broken.text,
      may,
      reply_to_first_on (g.H.LineHandler.replies c.args.lines.now.by.now) c.args.lines.now.from (mailed c.args.letters.now bytes) broken.text c.requires.from
          (reply_first rules c.args.memory.now stop _ _ (mailed c.args.letters.now bytes) broken),
      broken.appends,
    ))
    c.write_mails.ensures.err

pub returns-clause-broken : goal.returns-clause-broken
returns-clause-broken g c =
    let rules = rules_from (g.H.LineHandler.replies c.args.lines.now.by.now) (g.H.LineHandler.knows c.args.lines.now.by.now)
    (g.H.LineHandler.follows c.args.lines.now.by.now) c.args.lines.now.from in
    let from = c.args.lines.now.from in
    IfErr-weaker c.write_mails.result _ _
    (λ stop (bytes, may, broken) known. (
      bytes,
      broken.text,
      may,
      followed_to_first (g.H.LineHandler.follows c.args.lines.now.by.now) from (mailed c.args.letters.now bytes) broken.text c.requires.from
          (follow_first rules c.args.memory.now stop _ _ (mailed c.args.letters.now bytes) broken
          (knows_first (g.H.LineHandler.knows c.args.lines.now.by.now) c.args.memory.now from known)),
      broken.appends,
    ))
    c.write_mails.ensures.err

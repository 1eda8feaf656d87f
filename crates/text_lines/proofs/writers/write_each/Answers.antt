use Rattle.std.proofs.Common.{◌≡◌, ◌++◌, ◌∷◌, [], refl, sym, ap, ◌∙◌, subst, arith, map, length-append}
use Rattle.std.proofs.lemmas.List.{map-append}
use Rattle.std.proofs.lemmas.Result.{err_from_is_err_and}
use Rattle.std.proofs.KnownBytes.{Appends-nil, Appends-trans, Consumes-nil, Consumes-trans}
use Rattle.std.specs.Io.KnownBytes.{Consumes}
use Rattle.text_lines.specs.inside.InputLines.{TakesLine, left_of}
use Rattle.text_lines.specs.inside.LinesFrom.{FollowsFrom, KnowsFrom, RepliesFrom}
use Rattle.text_lines.specs.Lines.{texts_of, without_cr}
use Rattle.text_lines.specs.Replies.{IsReply, IsReplyFrom}
use Rattle.text_lines.proofs.WrittenReplies.{more_between}
use Rattle.text_lines.proofs.LineReplies.{behind_next, gave_up, last_lines, last_reply, opens_more, replies_next, stopped, texts_before}
use Rattle.text_lines.proofs.writers.write_each.Goals as goal

pub loop-number-init : goal.loop-number-init
loop-number-init g c = (
  [],
  [],
  [],
  record {
    taken = subst (λ k. Consumes k (left_of g.I.Input.left c.new-rest.result) []) c.new-rest.ensures.left
        (Consumes-nil (left_of g.I.Input.left c.new-rest.result));
    opens = λ rest. refl;
    replies = (refl, refl);
    marks = (refl, omega arith);
    follows = λ known. ((refl, refl), known);
    grows = omega arith;
    number = omega arith;
    appends = Appends-nil (g.O.Write.contents c.args.out.now);
    few = omega arith;
    steady = λ may. subst g.I.Input.breaks c.new-rest.ensures.input may;
    room = refl;
  },
)

pub returns-in_err-answered-clause-err : goal.returns-in_err-answered-clause-err
returns-in_err-answered-clause-err g c =
    let (seen, lines, text, so_far) = c.loop-number.invariant in
    let (other, is, same) = err_from_is_err_and c.from_residual.result c.from_residual.ensures.1 in
    rw (is, same)
    (stopped c.in_err-answered.field-0.0 (λ _. RepliesFrom (g.W.LineWriter.replies c.args.lines.now.by.now) c.args.lines.now.from) c.loop-number.number c.loop-number.refused
    (g.I.Input.left c.args.input) _ _ (g.O.Write.contents c.args.out.now)
    (g.O.Write.contents c.loop-number.out) (g.O.Write.contents c.answer_next.new.out) seen text lines
    so_far.taken so_far.opens so_far.replies so_far.number so_far.appends
    c.in_err-answered.ensures.unanswered
    (λ broken.
    let (is_last, line, here, count, (one, follows), takes, part) = c.in_err-answered.ensures.cut broken in
    (is_last, line, here, count, one, takes, part)))

pub returns-in_err-answered-clause-broken : goal.returns-in_err-answered-clause-broken
returns-in_err-answered-clause-broken g c =
    let (seen, lines, text, so_far) = c.loop-number.invariant in
    let (other, is, same) = err_from_is_err_and c.from_residual.result c.from_residual.ensures.1 in
    rw (is, same)
    (λ known.
    let (replies, all) = so_far.follows known in
    stopped c.in_err-answered.field-0.0 (FollowsFrom (g.W.LineWriter.follows c.args.lines.now.by.now) c.args.lines.now.from) c.loop-number.number c.loop-number.refused
    (g.I.Input.left c.args.input) _ _ (g.O.Write.contents c.args.out.now)
    (g.O.Write.contents c.loop-number.out) (g.O.Write.contents c.answer_next.new.out) seen text lines
    so_far.taken so_far.opens replies so_far.number so_far.appends
    c.in_err-answered.ensures.unanswered
    (λ broken.
    let (is_last, line, here, count, (one, follows), takes, part) = c.in_err-answered.ensures.cut broken in
    (is_last, line, here, count, follows (map without_cr lines) (texts_before lines c.loop-number.number so_far.number) all, takes, part)))

pub returns-then-answered-clause-followed : goal.returns-then-answered-clause-followed
returns-then-answered-clause-followed g c = λ known.
    let (seen, lines, text, so_far) = c.loop-number.invariant in
    let (line, here, reply, marks, knows, takes, appends) = c.in_ok-answered.ensures.ok in
    let takes' = subst (λ b. TakesLine b (left_of g.I.Input.left c.loop-number.rest)
    (left_of g.I.Input.left c.answer_next.new.input) line) c.if-answered.true takes in
    let (replies, all) = so_far.follows known in
    let (follows, then) = knows (map without_cr lines) (texts_before lines c.loop-number.number so_far.number) all in
    let (may, whole) = last_reply (FollowsFrom (g.W.LineWriter.follows c.args.lines.now.by.now) c.args.lines.now.from) c.loop-number.number c.loop-number.refused
    c.in_ok-answered.answered.refused (g.I.Input.left c.args.input) _ _ seen line text here lines
    so_far.taken so_far.opens replies so_far.number takes' follows in
    let these : texts_of (seen ++ line) ≡ map without_cr lines ++ without_cr line ∷ [] =
    ap (map without_cr) (last_lines seen line lines so_far.opens takes'.0) ∙ map-append without_cr lines (line ∷ []) in (
      seen ++ line,
      text ++ here,
      may,
      (whole, subst (KnowsFrom (g.W.LineWriter.knows c.args.lines.now.by.now) c.args.lines.now.from c.answer_next.new.memory) (sym these) then),
      Appends-trans _ _ _ text here so_far.appends appends,
    )

pub returns-then-answered-clause-marked : goal.returns-then-answered-clause-marked
returns-then-answered-clause-marked g c =
    let (seen, lines, text, so_far) = c.loop-number.invariant in
    let (line, here, reply, marks, knows, takes, appends) = c.in_ok-answered.ensures.ok in
    let takes' = subst (λ b. TakesLine b (left_of g.I.Input.left c.loop-number.rest)
    (left_of g.I.Input.left c.answer_next.new.input) line) c.if-answered.true takes in
    let (may, replies) = last_reply (λ _. RepliesFrom (g.W.LineWriter.replies c.args.lines.now.by.now) c.args.lines.now.from) c.loop-number.number c.loop-number.refused
    c.in_ok-answered.answered.refused (g.I.Input.left c.args.input) _ _ seen line text here lines
    so_far.taken so_far.opens so_far.replies so_far.number takes' reply in
    let (same, all) = last_reply (λ _. RepliesFrom (g.W.LineWriter.marks c.args.lines.now.by.now) c.args.lines.now.from) c.loop-number.number _ _
    (g.I.Input.left c.args.input) _ _ seen line text here lines
    so_far.taken so_far.opens so_far.marks so_far.number takes' marks in (
      seen ++ line,
      text ++ here,
      may,
      (
        replies,
        more_between (IsReply (RepliesFrom (g.W.LineWriter.marks c.args.lines.now.by.now) c.args.lines.now.from) (seen ++ line) (text ++ here)) _ _ _
            so_far.grows c.in_ok-answered.ensures.grows all,
      ),
      Appends-trans _ _ _ text here so_far.appends appends,
    )

pub loop-number-preserved : goal.loop-number-preserved
loop-number-preserved g c =
    let (seen, lines, text, so_far) = c.loop-number.invariant in
    let (line, here, reply, marks, knows, takes, appends) = c.in_ok-answered.ensures.ok in
    let (one, on) = subst (λ b. TakesLine b (left_of g.I.Input.left c.loop-number.rest)
    (left_of g.I.Input.left c.answer_next.new.input) line) c.if-answered.false takes in (
      seen ++ (line ++ 10 ∷ []),
      lines ++ line ∷ [],
      text ++ here,
      record {
        taken = Consumes-trans _ _ _ seen (line ++ 10 ∷ []) so_far.taken on;
        opens = opens_more seen line lines one so_far.opens;
        replies = replies_next (RepliesFrom (g.W.LineWriter.replies c.args.lines.now.by.now) c.args.lines.now.from) c.loop-number.number lines line text here
            c.loop-number.refused c.in_ok-answered.answered.refused so_far.number so_far.replies reply;
        marks = more_between (IsReplyFrom (RepliesFrom (g.W.LineWriter.marks c.args.lines.now.by.now) c.args.lines.now.from) 1 (lines ++ line ∷ []) (text ++ here)) _ _ _
            so_far.grows c.in_ok-answered.ensures.grows
            (replies_next (RepliesFrom (g.W.LineWriter.marks c.args.lines.now.by.now) c.args.lines.now.from) c.loop-number.number lines line text here _ _ so_far.number so_far.marks marks);
        follows = λ known.
            let (so_far_these, all) = so_far.follows known in
            let (follows, then) = knows (map without_cr lines) (texts_before lines c.loop-number.number so_far.number) all in (
              behind_next (FollowsFrom (g.W.LineWriter.follows c.args.lines.now.by.now) c.args.lines.now.from) c.loop-number.number lines line text here
                  c.loop-number.refused c.in_ok-answered.answered.refused so_far.number so_far_these follows,
              subst (KnowsFrom (g.W.LineWriter.knows c.args.lines.now.by.now) c.args.lines.now.from c.answer_next.new.memory) (sym (map-append without_cr lines (line ∷ []))) then,
            );
        grows = omega (arith, so_far.grows, c.in_ok-answered.ensures.grows);
        number = omega (arith, so_far.number, length-append lines (line ∷ []));
        appends = Appends-trans _ _ _ text here so_far.appends appends;
        few = omega (arith, so_far.few, c.in_ok-answered.ensures.few);
        steady = λ may. so_far.steady (c.answer_next.ensures.steady may);
        room = c.answer_next.ensures.room ∙ so_far.room;
      },
    )

pub returns-clause-err : goal.returns-clause-err
returns-clause-err g c =
    let (seen, lines, text, so_far) = c.loop-number.invariant in
    gave_up (λ _. RepliesFrom (g.W.LineWriter.replies c.args.lines.now.by.now) c.args.lines.now.from) c.loop-number.refused (g.I.Input.left c.args.input) _
    (g.O.Write.contents c.args.out.now) (g.O.Write.contents c.loop-number.out) seen text lines
    so_far.taken so_far.opens so_far.replies so_far.appends

pub returns-clause-broken : goal.returns-clause-broken
returns-clause-broken g c = λ known.
    let (seen, lines, text, so_far) = c.loop-number.invariant in
    let (replies, all) = so_far.follows known in
    gave_up (FollowsFrom (g.W.LineWriter.follows c.args.lines.now.by.now) c.args.lines.now.from) c.loop-number.refused (g.I.Input.left c.args.input) _
    (g.O.Write.contents c.args.out.now) (g.O.Write.contents c.loop-number.out) seen text lines
    so_far.taken so_far.opens replies so_far.appends

pub returns-in_err-answered-clause-unreadable : goal.returns-in_err-answered-clause-unreadable
returns-in_err-answered-clause-unreadable g c =
    let (seen, lines, text, so_far) = c.loop-number.invariant in
    let (other, is, same) = err_from_is_err_and c.from_residual.result c.from_residual.ensures.1 in
    rw (is, same) (λ unreadable. so_far.steady (c.in_err-answered.ensures.unreadable unreadable))

pub returns-in_err-answered-clause-room : goal.returns-in_err-answered-clause-room
returns-in_err-answered-clause-room g c =
    let (seen, lines, text, so_far) = c.loop-number.invariant in
    c.answer_next.ensures.room ∙ so_far.room

pub returns-then-answered-clause-grows : goal.returns-then-answered-clause-grows
returns-then-answered-clause-grows g c =
    let (seen, lines, text, so_far) = c.loop-number.invariant in
    omega (arith, so_far.grows, c.in_ok-answered.ensures.grows)

pub returns-then-answered-clause-room : goal.returns-then-answered-clause-room
returns-then-answered-clause-room g c =
    let (seen, lines, text, so_far) = c.loop-number.invariant in
    c.answer_next.ensures.room ∙ so_far.room

pub returns-clause-unreadable : goal.returns-clause-unreadable
returns-clause-unreadable g c = λ never. cc

pub returns-clause-room : goal.returns-clause-room
returns-clause-room g c =
    let (seen, lines, text, so_far) = c.loop-number.invariant in
    so_far.room

pub overflow_add-refused : goal.overflow_add-refused
overflow_add-refused g c =
    let (seen, lines, text, so_far) = c.loop-number.invariant in
    omega (arith, so_far.few, c.loop-number-test.true, c.in_ok-answered.ensures.few)

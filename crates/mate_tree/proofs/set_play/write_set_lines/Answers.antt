use Rattle.std.proofs.Common.{◌≡◌, sym, ap, ◌∙◌}
use Rattle.std.specs.List.{flat_map}
use Rattle.mate_tree.specs.Continuations.{soonest}
use Rattle.mate_tree.specs.SetPlay.{headed, set_line, set_line_within}
use Rattle.mate_tree.specs.inside.Sheets.{is_some_line}
use Rattle.mate_tree.proofs.AddedLines.{adds_as, adds_asked, headed_all, headed_closed, headed_more, headed_none}
use Rattle.mate_tree.proofs.set_play.write_set_lines.Goals as goal

pub loop-r-init : goal.loop-r-init
loop-r-init g c = headed_none c.args.writer.now

pub returns-then-is_closed : goal.returns-then-is_closed
returns-then-is_closed g c =
    adds_as (ap (λ rs. headed c.args.heading.now (flat_map (set_line_within c.args.left c.args.position.now) rs))
    (c.as_slice-r-items.ensures.value ∙ c.legal-replies.ensures))
    (headed_closed (sym c.is_closed.ensures ∙ c.if-is_closed.true) c.loop-r.invariant)

pub returns : goal.returns
returns g c =
    adds_as (ap (λ rs. headed c.args.heading.now (flat_map (set_line_within c.args.left c.args.position.now) rs))
    (c.as_slice-r-items.ensures.value ∙ c.legal-replies.ensures))
    (headed_all c.loop-r-test.false c.loop-r.invariant)

pub loop-r-preserved : goal.loop-r-preserved
loop-r-preserved g c =
    let q = c.args.position.now in
    let r = c.r-item.result in
    let f = set_line_within c.args.left q in
    let same : set_line q r c.soonest-outcome.result ≡ f r =
    ap (set_line q r) (c.soonest-outcome.ensures.truth ∙ ap (soonest c.args.left) c.after.ensures) in
    let has = c.has_line-has.ensures q r ∙ ap is_some_line same in
    headed_more c.loop-r-test.true c.r-item.is has c.loop-r.invariant
    (adds_asked c.loop-r.writer c.soonest-outcome.new.memo c.soonest-outcome.ensures.room c.write_name.ensures)
    (adds_as same c.write_set_line.ensures)

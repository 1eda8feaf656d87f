use Rattle.std.proofs.Common.{◌+◌, ◌-◌, sym, ap, subst, ◌∙◌, rules}
use Rattle.chess_problems.specs.Outcomes.{AreLegal}
use Rattle.mate_tree.specs.Variations.{variations}
use Rattle.mate_tree.proofs.AddedLines.{adds_as, adds_asked, adds_first, adds_more, adds_none, lines_all, lines_closed, lines_more, lines_none}
use Rattle.mate_tree.proofs.LegalMoves.{legal_at}
use Rattle.mate_tree.proofs.VariationsBelow.{mated_is, sequels_are, told_is, variations_closed, variations_nothing, variations_whole}
use Rattle.mate_tree.proofs.variations.+play.Goals as goal

pub write_next_moves-loop-index-init : goal.write_next_moves-loop-index-init
write_next_moves-loop-index-init t g c = lines_none c.args.writer.now

pub write_next_moves-returns-then-is_closed : goal.write_next_moves-returns-then-is_closed
write_next_moves-returns-then-is_closed t g c =
    lines_closed (sym c.is_closed.ensures ∙ c.if-is_closed.true) c.loop-index.invariant

pub write_next_moves-returns : goal.write_next_moves-returns
write_next_moves-returns t g c =
    lines_all c.loop-index-test.false c.loop-index.invariant

pub write_next_moves-write_next_move-requires : goal.write_next_moves-write_next_move-requires
write_next_moves-write_next_move-requires t g c =
    let legal = legal_at c.legal_listed.ensures c.args.position.now c.args.moves.now c.loop-index.index c.index-moves-index.result
    c.loop-index-test.true c.index-moves-index.is c.requires.legal in
    search (rules, legal)

pub write_next_moves-loop-index-preserved : goal.write_next_moves-loop-index-preserved
write_next_moves-loop-index-preserved t g c =
    lines_more c.loop-index-test.true c.index-moves-index.is
    c.loop-index.invariant c.write_next_move.ensures

pub write_next_move-returns : goal.write_next_move-returns
write_next_move-returns t g c =
    adds_first c.write_move_line.ensures
    (adds_as (ap (variations c.args.at.shown c.args.at.number (c.args.at.left - 1)) c.after.ensures) c.write_variations.ensures)

pub write_sequels-returns-in-Mate : goal.write_sequels-returns-in-Mate
write_sequels-returns-in-Mate t g c =
    rw (
      ← c.after-next.ensures,
      ← c.soonest-outcome.ensures.truth,
      ← c.has_dual.ensures,
      c.in-Mate.is,
      ← c.get.ensures.moves,
      ← c.as_slice.ensures.value,
    )
    (adds_asked c.args.writer.now c.soonest-outcome.new.memo c.soonest-outcome.ensures.room
    (adds_first c.write_defence_line.ensures c.write_next_moves.ensures))

pub write_variation-returns-then-is_told : goal.write_variation-returns-then-is_told
write_variation-returns-then-is_told t g c =
    adds_as (told_is (variations (c.args.at.shown - 1) (c.args.at.number + 1)) (c.args.at.shown - 1) c.args.at.number c.args.at.left
    c.args.position.now c.args.replies.now c.args.r (sym c.is_told.ensures ∙ c.if-is_told.true)) (adds_none c.args.writer.now)

pub write_variation-returns-then-not-write_mates_line : goal.write_variation-returns-then-not-write_mates_line
write_variation-returns-then-not-write_mates_line t g c =
    adds_as (sequels_are (variations (c.args.at.shown - 1) (c.args.at.number + 1)) (c.args.at.shown - 1) c.args.at.number c.args.at.left
    c.args.position.now c.args.replies.now c.args.r c.write_mates_line.result (sym c.is_told.ensures ∙ c.if-is_told.false)
    c.write_mates_line.ensures.some c.if-not-write_mates_line.true)
    (adds_more c.write_mates_line.ensures.line c.write_sequels.ensures)

pub write_variation-returns-else-not-write_mates_line : goal.write_variation-returns-else-not-write_mates_line
write_variation-returns-else-not-write_mates_line t g c =
    adds_as (mated_is (variations (c.args.at.shown - 1) (c.args.at.number + 1)) (c.args.at.shown - 1) c.args.at.number c.args.at.left
    c.args.position.now c.args.replies.now c.args.r c.write_mates_line.result (sym c.is_told.ensures ∙ c.if-is_told.false)
    c.write_mates_line.ensures.some c.if-not-write_mates_line.false)
    c.write_mates_line.ensures.line

pub write_variations-loop-index-init : goal.write_variations-loop-index-init
write_variations-loop-index-init t g c = lines_none _

pub write_variations-returns-then-at-eq0 : goal.write_variations-returns-then-at-eq0
write_variations-returns-then-at-eq0 t g c =
    variations_nothing c.args.at.shown c.args.at.number c.args.at.left c.args.position.now c.args.writer.now c.if-at-eq0.true

pub write_variations-returns-then-is_closed : goal.write_variations-returns-then-is_closed
write_variations-returns-then-is_closed t g c =
    adds_asked c.args.writer.now c.parrying-list.new.memo c.parrying-list.ensures.room
    (variations_closed _ _ _ _ c.if-at-eq0.false
    (c.as_slice-replies.ensures.value ∙ c.parrying-list.ensures.list) (sym c.is_closed.ensures ∙ c.if-is_closed.true) c.loop-index.invariant)

pub write_variations-write_variation-requires : goal.write_variations-write_variation-requires
write_variations-write_variation-requires t g c =
    let legal = subst (AreLegal c.args.position.now) (sym c.as_slice-replies.ensures.value) c.parrying-list.ensures.legal in
    let own = legal_at c.legal_listed.ensures c.args.position.now c.as_slice-replies.result.now c.loop-index.index c.index-replies-index.result
    c.loop-index-test.true c.index-replies-index.is legal in
    search (rules, legal, own)

pub write_variations-loop-index-preserved : goal.write_variations-loop-index-preserved
write_variations-loop-index-preserved t g c =
    lines_more c.loop-index-test.true c.index-replies-index.is
    c.loop-index.invariant c.write_variation.ensures

pub write_variations-returns : goal.write_variations-returns
write_variations-returns t g c =
    adds_asked c.args.writer.now c.parrying-list.new.memo c.parrying-list.ensures.room
    (variations_whole _ _ _ _ c.if-at-eq0.false
    (c.as_slice-replies.ensures.value ∙ c.parrying-list.ensures.list) c.loop-index-test.false c.loop-index.invariant)

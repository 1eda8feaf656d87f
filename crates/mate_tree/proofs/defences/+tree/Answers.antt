use Rattle.std.proofs.Common.{◌-◌, sym, ap, ◌∙◌, rules}
use Rattle.mate_tree.specs.Defences.{defences}
use Rattle.mate_tree.proofs.AddedLines.{adds_as, adds_asked, adds_first, lines_all, lines_closed, lines_more, lines_none}
use Rattle.mate_tree.proofs.DefencesBelow.{defences_closed, defences_nothing, defences_whole}
use Rattle.mate_tree.proofs.LegalMoves.{legal_at}
use Rattle.mate_tree.proofs.defences.+tree.Goals as goal

pub write_attacks-loop-index-init : goal.write_attacks-loop-index-init
write_attacks-loop-index-init t g c = lines_none c.args.writer.now

pub write_attacks-returns-then-is_closed : goal.write_attacks-returns-then-is_closed
write_attacks-returns-then-is_closed t g c =
    lines_closed (sym c.is_closed.ensures ∙ c.if-is_closed.true) c.loop-index.invariant

pub write_attacks-returns : goal.write_attacks-returns
write_attacks-returns t g c =
    lines_all c.loop-index-test.false c.loop-index.invariant

pub write_attacks-write_attack-requires : goal.write_attacks-write_attack-requires
write_attacks-write_attack-requires t g c =
    let legal = legal_at c.legal_listed.ensures c.args.position.now c.args.moves.now c.loop-index.index c.index-moves-index.result
    c.loop-index-test.true c.index-moves-index.is c.requires.legal in
    search (rules, legal)

pub write_attacks-loop-index-preserved : goal.write_attacks-loop-index-preserved
write_attacks-loop-index-preserved t g c =
    lines_more c.loop-index-test.true c.index-moves-index.is
    c.loop-index.invariant c.write_attack.ensures

pub write_attack-returns : goal.write_attack-returns
write_attack-returns t g c =
    adds_first c.write_attack_line.ensures
    (adds_as (ap (defences c.args.at.shown c.args.at.number (c.args.at.left - 1)) c.after.ensures) c.write_defences.ensures)

pub write_defence-returns-in-Mate : goal.write_defence-returns-in-Mate
write_defence-returns-in-Mate t g c =
    rw (
      ← c.after-next.ensures,
      ← c.soonest-outcome.ensures.truth,
      ← c.has_dual.ensures,
      c.in-Mate.is,
      ← c.get.ensures.moves,
      ← c.as_slice.ensures.value,
    )
    (adds_asked c.args.writer.now c.soonest-outcome.new.memo c.soonest-outcome.ensures.room
    (adds_first c.write_defence_line.ensures c.write_attacks.ensures))

pub write_defences-loop-r-init : goal.write_defences-loop-r-init
write_defences-loop-r-init t g c = lines_none c.args.writer.now

pub write_defences-returns-then-at-eq0 : goal.write_defences-returns-then-at-eq0
write_defences-returns-then-at-eq0 t g c =
    defences_nothing c.args.at.shown c.args.at.number c.args.at.left c.args.position.now c.args.writer.now c.if-at-eq0.true

pub write_defences-returns-then-is_closed : goal.write_defences-returns-then-is_closed
write_defences-returns-then-is_closed t g c =
    defences_closed _ _ _ _ c.if-at-eq0.false
    (c.as_slice-r-items.ensures.value ∙ c.legal-replies.ensures) (sym c.is_closed.ensures ∙ c.if-is_closed.true) c.loop-r.invariant

pub write_defences-loop-r-preserved : goal.write_defences-loop-r-preserved
write_defences-loop-r-preserved t g c =
    lines_more c.loop-r-test.true c.r-item.is c.loop-r.invariant c.write_defence.ensures

pub write_defences-returns : goal.write_defences-returns
write_defences-returns t g c =
    defences_whole _ _ _ _ c.if-at-eq0.false
    (c.as_slice-r-items.ensures.value ∙ c.legal-replies.ensures) c.loop-r-test.false c.loop-r.invariant

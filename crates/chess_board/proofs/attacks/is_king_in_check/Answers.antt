use Rattle.std.proofs.Common.{sym, ◌∙◌}
use Rattle.chess_board.proofs.SetScans.{scan_all, scan_rest, scan_found, scan_none}
use Rattle.chess_board.proofs.attacks.is_king_in_check.Goals as goal

pub loop-square-init : goal.loop-square-init
loop-square-init c =
    let start = c.into_iter-square-iterator.ensures.into_iter_gives ∙ c.squares-square-items.ensures in
    rw start (scan_all _ _ _ c.men.result c.men.ensures)

pub numbered-requires : goal.numbered-requires
numbered-requires c = c.in-Some.ensures.steps.lowest.on_board

pub returns-then-is_attacked_by : goal.returns-then-is_attacked_by
returns-then-is_attacked_by c =
    let hit = rw (c.numbered.ensures, c.other.ensures) at (sym c.is_attacked_by.ensures ∙ c.if-is_attacked_by.true) in
    sym (scan_found _ _ _ _ _ _ c.in-Some.ensures.steps c.loop-square.invariant hit)

pub loop-square-preserved : goal.loop-square-preserved
loop-square-preserved c =
    let safe = rw (c.numbered.ensures, c.other.ensures) at (sym c.is_attacked_by.ensures ∙ c.if-is_attacked_by.false) in
    scan_rest _ _ _ _ _ _ c.in-Some.ensures.steps c.loop-square.invariant safe

pub returns : goal.returns
returns c = sym (scan_none _ _ _ _ c.in-None.ensures.steps.0 c.loop-square.invariant)

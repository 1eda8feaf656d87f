use Rattle.std.proofs.Common.{true, false, refl, sym, ap, ◌∙◌}
use Rattle.std.proofs.Math.Bool.{and-true, and-false}
use Rattle.square_sets.specs.Members.{has}
use Rattle.chess_board.specs.EnPassant.{captured_pawn}
use Rattle.chess_moves.proofs.SetBits.{has_none}
use Rattle.chess_moves.proofs.OwnColours.{other_colour, own_not_other}
use Rattle.chess_moves.proofs.PawnTargets.{en_passant_goes_safely}
use Rattle.chess_moves.proofs.en_passant_targets.safe_en_passant.Goals as goal

pub returns-then-passing-eq0 : goal.returns-then-passing-eq0
returns-then-passing-eq0 c = λ t on.
    let none = sym (c.en_passant_targets-passing.ensures t on) ∙ ap (λ set. has set t) c.if-passing-eq0.true ∙ has_none 0 t refl in
    rw (none, has_none 0 t refl) refl

pub returns-then-is_safe_en_passant : goal.returns-then-is_safe_en_passant
returns-then-is_safe_en_passant c = λ t on.
    let p = c.args.info.now.position.now in
    let man = c.args.mover.man in
    let o = c.args.mover.origin in
    let r = c.requires in
    let h = c.requires.info in
    let passing = c.en_passant_targets-passing.result in
    let taken = c.index.ensures.number ∙ c.captured_pawn-captured.ensures
    ∙ ap (λ a. captured_pawn a c.numbered-2.result) c.numbered.ensures ∙ ap (λ b. captured_pawn o b) c.numbered-2.ensures in
    let told = rw (c.if-is_safe_en_passant.true, taken) at c.is_safe_en_passant.ensures in
    let safe = told man (own_not_other p man o r.mover.there r.mover.own) (other_colour man.colour p.side r.mover.own) in
    sym (and-true (has passing t)) ∙ en_passant_goes_safely c.args.info.now p man o passing c.lowest-target.result true h r.mover.there
    r.mover.own r.pawn c.en_passant_targets-passing.ensures c.lowest-target.ensures.on_board c.lowest-target.ensures.there safe t on

pub returns-else-is_safe_en_passant : goal.returns-else-is_safe_en_passant
returns-else-is_safe_en_passant c = λ t on.
    let p = c.args.info.now.position.now in
    let man = c.args.mover.man in
    let o = c.args.mover.origin in
    let r = c.requires in
    let h = c.requires.info in
    let passing = c.en_passant_targets-passing.result in
    let taken = c.index.ensures.number ∙ c.captured_pawn-captured.ensures
    ∙ ap (λ a. captured_pawn a c.numbered-2.result) c.numbered.ensures ∙ ap (λ b. captured_pawn o b) c.numbered-2.ensures in
    let told = rw (c.if-is_safe_en_passant.false, taken) at c.is_safe_en_passant.ensures in
    let safe = told man (own_not_other p man o r.mover.there r.mover.own) (other_colour man.colour p.side r.mover.own) in
    has_none 0 t refl ∙ sym (and-false (has passing t))
    ∙ en_passant_goes_safely c.args.info.now p man o passing c.lowest-target.result false h r.mover.there r.mover.own r.pawn
    c.en_passant_targets-passing.ensures c.lowest-target.ensures.on_board c.lowest-target.ensures.there safe t on

use Rattle.std.proofs.Common.{◌∷◌, [], sym, ◌∙◌, ap, length, length-append, arith}
use Rattle.chess_board.specs.Legality.{is_legal}
use Rattle.chess_moves.specs.GivesCheck.{gives_check, checking_moves}
use Rattle.chess_moves.proofs.KeptMoves.{all_first, all_others, filter_kept, filter_lost, filter_none}
use Rattle.chess_moves.proofs.gives_check.checks.Goals as goal

pub gives_check-requires-clause-legal : goal.gives_check-requires-clause-legal
gives_check-requires-clause-legal c =
    all_first (is_legal c.args.position.now) c.in-Some.m c.loop-m.m-iterator c.next.new.self c.in-Some.ensures.steps c.loop-m.invariant.legal

pub loop-m-preserved-then-gives_check : goal.loop-m-preserved-then-gives_check
loop-m-preserved-then-gives_check c =
    let p = c.args.position.now in
    let gives = sym c.gives_check.ensures ∙ c.if-gives_check.true in
    record {
      kept = filter_kept (gives_check p) c.in-Some.m c.loop-m.m-iterator c.next.new.self c.loop-m.list.items c.push.new.self.items
          (checking_moves p) c.in-Some.ensures.steps gives
          c.push.ensures.items c.loop-m.invariant.kept;
      few = omega (
        arith,
        c.loop-m.invariant.few,
        ap length c.in-Some.ensures.steps,
        ap length c.push.ensures.items,
        length-append c.loop-m.list.items (c.in-Some.m ∷ []),
      );
      legal = all_others (is_legal p) c.in-Some.m c.loop-m.m-iterator c.next.new.self c.in-Some.ensures.steps c.loop-m.invariant.legal;
    }

pub loop-m-preserved : goal.loop-m-preserved
loop-m-preserved c =
    let p = c.args.position.now in
    let quiet = sym c.gives_check.ensures ∙ c.if-gives_check.false in
    record {
      kept = filter_lost (gives_check p) c.in-Some.m c.loop-m.m-iterator c.next.new.self c.loop-m.list.items (checking_moves p)
          c.in-Some.ensures.steps quiet
          c.loop-m.invariant.kept;
      few = omega (arith, c.loop-m.invariant.few, ap length c.in-Some.ensures.steps);
      legal = all_others (is_legal p) c.in-Some.m c.loop-m.m-iterator c.next.new.self c.in-Some.ensures.steps c.loop-m.invariant.legal;
    }

pub returns : goal.returns
returns c = filter_none (gives_check c.args.position.now) c.loop-m.m-iterator c.loop-m.list.items (checking_moves c.args.position.now)
    c.in-None.ensures.steps.0 c.loop-m.invariant.kept

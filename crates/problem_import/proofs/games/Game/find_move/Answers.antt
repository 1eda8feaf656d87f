use Rattle.std.proofs.Common.{inr, sym, ◌∙◌}
use Rattle.problem_import.specs.Sources.{SaysMoves}
use Rattle.problem_import.proofs.GameNumbers.{asks_on, asks_same, asks_then, fen_then}
use Rattle.problem_import.proofs.TagFens.{brace_in, ends_drop, ends_ends}
use Rattle.problem_import.proofs.games.Game.find_move.Goals as goal

pub loop-preserved-then-begins_with-2 : goal.loop-preserved-then-begins_with-2
loop-preserved-then-begins_with-2 c =
    let line = c.args.line.now in
    let before = c.args.self.now in
    let after = c.after_comment.new.self in
    let trim = c.trim_ascii_start-text.ensures.value in
    let text = c.trim_ascii_start-text.result.now in
    let rest = c.after_comment.result.now in record {
      fen = fen_then before c.loop.self after c.loop.invariant.fen c.after_comment.ensures.fen;
      asks = asks_on line c.loop.rest.now before c.loop.self after c.loop.invariant.ends c.loop.invariant.asks c.after_comment.ensures.asks;
      ends = ends_ends _ text line (ends_drop text _ 1 c.without_first-rest.ensures)
          (ends_ends text rest line (ends_drop rest text trim.0 trim.1)
          (ends_ends rest c.loop.rest.now line c.after_comment.ensures.rest c.loop.invariant.ends));
      comment = λ is. inr (brace_in line text (ends_ends text rest line (ends_drop rest text trim.0 trim.1)
          (ends_ends rest c.loop.rest.now line c.after_comment.ensures.rest c.loop.invariant.ends))
          (sym c.begins_with-in-loop.ensures ∙ c.if-begins_with-2.true));
    }

pub loop-preserved : goal.loop-preserved
loop-preserved c =
    let line = c.args.line.now in
    let before = c.args.self.now in
    let after = c.after_comment.new.self in
    let trim = c.trim_ascii_start-text.ensures.value in
    let text = c.trim_ascii_start-text.result.now in
    let rest = c.after_comment.result.now in record {
      fen = fen_then before after c.take_mark.new.self (fen_then before c.loop.self after c.loop.invariant.fen c.after_comment.ensures.fen)
          c.take_mark.ensures.fen;
      asks = asks_then (SaysMoves line) before after c.take_mark.new.self
          (asks_on line c.loop.rest.now before c.loop.self after c.loop.invariant.ends c.loop.invariant.asks c.after_comment.ensures.asks)
          (asks_same (SaysMoves line) after c.take_mark.new.self c.take_mark.ensures.asks);
      ends = ends_ends c.in-Some.behind.now text line c.in-Some.ensures.rest
          (ends_ends text rest line (ends_drop rest text trim.0 trim.1)
          (ends_ends rest c.loop.rest.now line c.after_comment.ensures.rest c.loop.invariant.ends));
      comment = λ is. c.loop.invariant.comment (c.after_comment.ensures.comment (sym c.take_mark.ensures.comment ∙ is));
    }

pub returns-in_default-clause-comment : goal.returns-in_default-clause-comment
returns-in_default-clause-comment c = λ is. c.loop.invariant.comment (c.after_comment.ensures.comment (sym c.take_mark.ensures.comment ∙ is))

pub returns-in_default-clause-asks : goal.returns-in_default-clause-asks
returns-in_default-clause-asks c =
    let line = c.args.line.now in
    let before = c.args.self.now in
    let after = c.after_comment.new.self in
    asks_then (SaysMoves line) before after c.take_mark.new.self
    (asks_on line c.loop.rest.now before c.loop.self after c.loop.invariant.ends c.loop.invariant.asks c.after_comment.ensures.asks)
    (asks_same (SaysMoves line) after c.take_mark.new.self c.take_mark.ensures.asks)

use Rattle.std.proofs.Common.{◌++◌, filter, length, sym, ap, ◌∙◌, arith}
use Rattle.std.specs.List.{list_any}
use Rattle.chess_notation.specs.Words.{words_in}
use Rattle.chess_notation.specs.AvoidMoves.{names, named}
use Rattle.chess_notation.proofs.KeptNext.{kept_next}
use Rattle.chess_notation.proofs.claims.moves_claimed.Goals as goal

pub loop-m-init : goal.loop-m-init
unfolding named
loop-m-init c = record {
  moves = ap (λ xs. xs ++ filter (λ m. list_any (λ word. names c.args.position.now word m) (words_in c.args.words.now)) c.into_iter-m-iterator.result) c.new-moves.ensures
      ∙ ap (filter (λ m. list_any (λ word. names c.args.position.now word m) (words_in c.args.words.now))) (c.into_iter-m-iterator.ensures.into_iter_gives ∙ c.legal_moves-m-items.ensures.moves);
  few = omega (arith, ap length c.new-moves.ensures, ap length c.into_iter-m-iterator.ensures.into_iter_gives, c.legal_moves-m-items.ensures.few);
}

pub loop-m-preserved-then-is_named : goal.loop-m-preserved-then-is_named
loop-m-preserved-then-is_named c = record {
  moves = kept_next (λ m. list_any (λ word. names c.args.position.now word m) (words_in c.args.words.now)) c.loop-m.moves.items c.push.new.self.items
      c.loop-m.m-iterator c.next.new.self c.in-Some.m c.in-Some.ensures.steps (sym c.is_named.ensures ∙ c.if-is_named.true) c.push.ensures.items
      ∙ c.loop-m.invariant.moves;
  few = omega (arith, c.push.ensures.len, ap length c.in-Some.ensures.steps, c.loop-m.invariant.few);
}

use Rattle.std.proofs.Common.{◌++◌, filter, sym, ap, ◌∙◌, arith}
use Rattle.std.specs.List.{list_any}
use Rattle.chess_notation.specs.Words.{words_in}
use Rattle.chess_notation.specs.AvoidMoves.{names, named}
use Rattle.chess_notation.proofs.KeptNext.{kept_next, room_next}
use Rattle.chess_notation.proofs.avoid_moves.moves_named.Goals as goal

pub loop-m-init : goal.loop-m-init
unfolding named
loop-m-init c = ap (λ xs. xs ++ filter (λ m. list_any (λ word. names c.args.position.now word m) (words_in c.args.words.now)) c.into_iter-m-iterator.result) c.new-moves.ensures
    ∙ ap (filter (λ m. list_any (λ word. names c.args.position.now word m) (words_in c.args.words.now))) (c.into_iter-m-iterator.ensures.into_iter_gives ∙ c.legal_moves-m-items.ensures.moves)

pub push-requires : goal.push-requires
push-requires c = (
  omega arith,
  omega (
    arith,
    room_next (λ m. list_any (λ word. names c.args.position.now word m) (words_in c.args.words.now)) c.loop-m.moves.items
        c.loop-m.m-iterator c.next.new.self (named c.args.position.now (words_in c.args.words.now)) c.in-Some.m c.in-Some.ensures.steps
        (sym c.is_named.ensures ∙ c.if-is_named.true) c.loop-m.invariant,
  ),
)

pub loop-m-preserved-then-is_named : goal.loop-m-preserved-then-is_named
loop-m-preserved-then-is_named c = kept_next (λ m. list_any (λ word. names c.args.position.now word m) (words_in c.args.words.now)) c.loop-m.moves.items c.push.new.self.items
    c.loop-m.m-iterator c.next.new.self c.in-Some.m c.in-Some.ensures.steps (sym c.is_named.ensures ∙ c.if-is_named.true) c.push.ensures.items
    ∙ c.loop-m.invariant

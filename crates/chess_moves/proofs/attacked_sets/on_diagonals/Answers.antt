use Rattle.std.proofs.Common.{refl, sym, ◌∙◌}
use Rattle.chess_moves.specs.inside.Directions.{is_on_diagonal}
use Rattle.chess_moves.proofs.AttackedSets.{joined_from, none_to_join}
use Rattle.chess_moves.proofs.SetBits.{has_none}
use Rattle.chess_moves.proofs.attacked_sets.on_diagonals.Goals as goal

pub loop-a-init : goal.loop-a-init
loop-a-init c = λ t l. let start = c.into_iter-a-iterator.ensures.into_iter_gives ∙ c.squares-a-items.ensures in let none =
    has_none 0 t refl in rw (start, none) refl

pub diagonals-set-requires : goal.diagonals-set-requires
diagonals-set-requires c = c.in-Some.ensures.steps.lowest.on_board

pub loop-a-preserved : goal.loop-a-preserved
loop-a-preserved c = λ t l.
    joined_from (λ a. is_on_diagonal a t) c.loop-a.set c.diagonals-set.result c.loop-a.a-iterator
    c.in-Some.a c.next.new.self t c.in-Some.ensures.steps (c.diagonals-set.ensures t l)
    ∙ c.loop-a.invariant t l

pub returns : goal.returns
returns c = λ t l. sym (none_to_join (λ a. is_on_diagonal a t) c.loop-a.set c.loop-a.a-iterator t
    c.in-None.ensures.steps.0) ∙ c.loop-a.invariant t l

use Rattle.std.proofs.Common.{◌≡◌, ◌++◌, [], flat_map, map, take}
use Rattle.chess_views.specs.Lines.{line}
use Rattle.fault_explanations.specs.Explained.{explanation_text}
use Rattle.fault_explanations.proofs.explaining.push_more.Given as goal

abbrev pub invariant-loop-next : goal.invariant-loop-next
invariant-loop-next l =
    l.text.items ≡ l.fn.text.items ++ flat_map (λ next. line [] ++ explanation_text next) (map (λ e. e.now) (take l.next-index l.more))

use Rattle.std.proofs.Common.{◌≡◌, ◌∙◌, ◌++◌, ◌∷◌, ◌+◌, ◌<◌, ℕ, suc, List, add-one, ap, append_assoc, drop, drop-cons, flat_map, get_or, length, sym}
use Rattle.json_replies.specs.Moves.{move_object}
use Rattle.json_replies.proofs.moves.move_objects.Goals as goal

one_more : {X : Type 0} (f : X → List ℕ) (all text more : List ℕ) (xs : List X) (i : ℕ) (x : X) → i < length xs → x ≡ get_or xs i x
    → more ≡ text ++ f x → all ≡ text ++ flat_map f (drop i xs) → all ≡ more ++ flat_map f (drop (i + 1) xs)
one_more f all text more xs i x here at written so =
    rw (written, append_assoc, add-one) (so ∙ ap (λ ys. text ++ flat_map f ys) (drop-cons xs i x here ∙ ap (λ y. y ∷ drop (suc i) xs) (sym at)))

pub loop-m-preserved : goal.loop-m-preserved
loop-m-preserved c = one_more (move_object c.args.position.now) _ _ _ c.as_slice-m-items.result.now c.loop-m.m-index c.m-item.result
    c.loop-m-test.true c.m-item.is c.in_ok-push_move.ensures c.loop-m.invariant

use Rattle.std.proofs.Common.{[], ◌∷◌, ◌++◌, ap, ◌∙◌, append_assoc}
use Rattle.room_tests.proofs.Rooms.{opened_of}
use Rattle.room_tests.proofs.test_scenes.ends_of_two.Goals as goal

pub returns-clause-first : goal.returns-clause-first
returns-clause-first c = opened_of _ _ c.pop-2.new.self.items c.in-Some-pop.first
    (c.in-Some.second ∷ []) c.in_ok-keeper.field-0.windows.items c.in_ok-keeper.field-0.keeper
    (c.in-Some.ensures.items ∙ (ap (λ ws. ws ++ c.in-Some.second ∷ []) c.in-Some-pop.ensures.items
    ∙ append_assoc c.pop-2.new.self.items (c.in-Some-pop.first ∷ []) (c.in-Some.second ∷ []))) c.in_ok-keeper.ensures.room.opened

pub returns-clause-second : goal.returns-clause-second
returns-clause-second c = opened_of _ _ c.pop.new.self.items c.in-Some.second [] c.in_ok-keeper.field-0.windows.items
    c.in_ok-keeper.field-0.keeper c.in-Some.ensures.items c.in_ok-keeper.ensures.room.opened

-- Which records a window withdrew, by its letters.
use Rattle.std.specs.Prelude.{ℕ, zero, suc, Bool, true, false, ◌&&◌, ◌||◌, List, [], ◌∷◌, ◌++◌}
use Rattle.mate_jobs.specs.declared.deliveries.Delivery.{Delivery}
use Rattle.desk_room.specs.Deliveries.{is_answer}
use Rattle.room_ends.specs.declared.letters.Letter.{Letter}
use Rattle.room_ends.specs.declared.letters.Letter.TheVariants.{Record, Withdrawal, Farewell}

-- the n-th of these marked; nothing where there is no n-th
abbrev pub mark : ℕ → List Bool → List Bool
mark n [] = []
mark zero (m ∷ ms) = true ∷ ms
mark (suc n) (m ∷ ms) = m ∷ mark n ms

-- these marks, and those that the letters behind add
abbrev pub marks_onto : List Bool → List Letter → List Bool
marks_onto ms [] = ms
marks_onto ms (Record r ∷ rest) = marks_onto (ms ++ false ∷ []) rest
marks_onto ms (Withdrawal n ∷ rest) = marks_onto (mark n ms) rest
marks_onto ms (Farewell ∷ rest) = marks_onto ms rest

-- for each record among the letters, in order, whether a withdrawal of it stands behind it
abbrev pub marks : List Letter → List Bool
marks letters = marks_onto [] letters

-- Notices stand only in the places of marked records.
abbrev pub are_notices_marked : List Delivery → List Bool → Bool
are_notices_marked [] ms = true
are_notices_marked (d ∷ ds) [] = is_answer d && are_notices_marked ds []
are_notices_marked (d ∷ ds) (m ∷ ms) = (is_answer d || m) && are_notices_marked ds ms

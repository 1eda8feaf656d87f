-- Not for believing: how a text is cut into parts, and into words. No contract of a public call rests on it.
use Rattle.std.specs.Prelude.{ℕ, List, [], ◌∷◌, if◌then◌else◌}
use Rattle.std.specs.Char.{is_ascii_alphabetic}
use Rattle.stipulations.specs.Parts.{ends_part}

abbrev pub front : List ℕ → List ℕ
front [] = []
front (b ∷ bs) = if is_ascii_alphabetic b then b ∷ front bs else []

abbrev pub after : List ℕ → List ℕ
after [] = []
after (b ∷ bs) = if is_ascii_alphabetic b then after bs else bs

abbrev pub part_front : (before : ℕ) → List ℕ → List ℕ
part_front before [] = []
part_front before (b ∷ bs) = if ends_part before b bs then [] else b ∷ part_front b bs

abbrev pub part_after : (before : ℕ) → List ℕ → List ℕ
part_after before [] = []
part_after before (b ∷ bs) = if ends_part before b bs then bs else part_after b bs

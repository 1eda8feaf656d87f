-- The tree of a record.
use Rattle.std.specs.Prelude.{ℕ, ◌-◌, List, [], ◌∷◌, ◌++◌, codes, length, map, take, nat_lt, Option, Some, None, if◌then◌else◌}
use Rattle.chess_board.specs.Moves.{Move}
use Rattle.chess_problems.specs.declared.outcomes.Outcome.{Outcome}
use Rattle.chess_problems.specs.declared.outcomes.Outcome.TheVariants.{Mate, NoMate}
use Rattle.chess_problems.specs.Problems.{ProblemValue}
use Rattle.mate_tree.specs.declared.forms.Form.{Form}
use Rattle.mate_tree.specs.Forms.{moves_shown}
use Rattle.mate_tree.specs.Layouts.{laid_out, shown_line}
use Rattle.mate_tree.specs.Keys.{key_lines}
use Rattle.mate_tree.specs.SetPlay.{set_play}
use Rattle.mate_tree.specs.Tries.{tries}

-- the lines of the tree of a mate in n with these keys: set play and tries where they are asked for, and the keys between
abbrev pub mate_lines : Form → ProblemValue → ℕ → List Move → List (List ℕ)
mate_lines form q n keys =
    (if form.set_play then set_play form.column (n - 1) q.position else [])
    ++ key_lines form.defences (moves_shown form.moves n - 1) n q.position keys
    ++ (if form.tries then tries form.column (n - 1) q.position q.avoid else [])

-- the lines of a tree, by what there is to say of the problem: none where there is no mate
unfoldable pub tree_lines : Form → ProblemValue → Outcome → List (List ℕ)
tree_lines form q (Mate n keys pv) = mate_lines form q n keys.items
tree_lines form q NoMate = []

-- All lines, or so many at most, and then two dots where there are more.
abbrev pub limited : Option ℕ → List (List ℕ) → List (List ℕ)
limited None ls = ls
limited (Some most) ls = take most ls ++ (if nat_lt most (length ls) then codes ".." ∷ [] else [])

-- each line that is printed, as it is shown
abbrev pub shown_lines : Form → List (List ℕ) → List (List ℕ)
shown_lines form ls = map (shown_line form.column form.pieces) (limited form.lines ls)

-- Lines as they are printed: in a column, as one line, or one below the other.
abbrev pub printed : Form → List (List ℕ) → List ℕ
printed form ls = laid_out form.column (shown_lines form ls)

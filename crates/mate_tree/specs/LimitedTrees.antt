-- The replies to records whose trees are asked for, where the search for each one's mate may take so many seconds (own to this project).
use Rattle.std.specs.Prelude.{◌≡◌, ℕ, List, [], ◌++◌, false}
use Rattle.chess_notation.specs.Words.{is_blank}
use Rattle.chess_notation.specs.Records.{RecordValue, Reads}
use Rattle.mate_answers.specs.LimitedReplies.{IsNoneSoFar, undecided_line}
use Rattle.mate_tree.specs.declared.forms.Form.{Form}
use Rattle.mate_tree.specs.Lines.{line}
use Rattle.mate_tree.specs.TreeReplies.{IsTreeReply}

-- the reply to a line that says this record, where no more is known of its problem in time than that there is no mate within so many moves:
-- that, in place of a tree, and an empty line
abbrev pub undecided_tree : ℕ → ℕ → List ℕ → RecordValue → List ℕ
undecided_tree none seconds said r = undecided_line none seconds said r ++ line []

-- What one line is answered, and how many refusals that is: as without a limit, or, where the limit may stop a search at all, that it was not
-- decided, and what is true so far.
pub data IsLimitedTree (stops : Type 0) (seconds : ℕ) (form : Form) (default number : ℕ) (said : List ℕ) : List ℕ → ℕ → Type 0 where
  told : (text : List ℕ) (count : ℕ) → IsTreeReply form default number said text count → IsLimitedTree stops seconds form default number said text count
  undecided : stops → (r : RecordValue) (none : ℕ) → is_blank said ≡ false → Reads said default r → IsNoneSoFar r none
      → IsLimitedTree stops seconds form default number said (undecided_tree none seconds said r) 0

-- What one line is answered, and how many of its replies are that it was not decided: one or none.
pub data IsLateTree (stops : Type 0) (seconds : ℕ) (form : Form) (default number : ℕ) (said : List ℕ) : List ℕ → ℕ → Type 0 where
  in_time : (text : List ℕ) (count : ℕ) → IsTreeReply form default number said text count → IsLateTree stops seconds form default number said text 0
  late : stops → (r : RecordValue) (none : ℕ) → is_blank said ≡ false → Reads said default r → IsNoneSoFar r none
      → IsLateTree stops seconds form default number said (undecided_tree none seconds said r) 1

-- The replies to an input of records whose trees are asked for, line by line (own to this project).
use Rattle.std.specs.Prelude.{◌≡◌, ℕ, List, [], ◌++◌, true, false}
use Rattle.chess_notation.specs.declared.epd_faults.EpdFault.{EpdFault}
use Rattle.chess_notation.specs.Words.{is_blank}
use Rattle.chess_notation.specs.Records.{RecordValue, problem_of, Reads}
use Rattle.chess_notation.specs.EpdFaults.{IsFaultOf}
use Rattle.chess_notation.specs.Answers.{answer_text}
use Rattle.text_lines.specs.Refusals.{fault_line}
use Rattle.mate_search.specs.inside.Truth.{truth}
use Rattle.mate_tree.specs.declared.forms.Form.{Form}
use Rattle.mate_tree.specs.Lines.{line}
use Rattle.mate_tree.specs.Trees.{printed, tree_lines}

-- the reply to a line that says this record: its answer, the tree, and an empty line
abbrev pub tree_reply : Form → RecordValue → List ℕ
tree_reply form r = line (answer_text r (truth (problem_of r)))
    ++ printed form (tree_lines form (problem_of r) (truth (problem_of r))) ++ line []

-- What one line is answered, and how many refusals that is: nothing where it is blank.
pub data IsTreeReply (form : Form) (default number : ℕ) (said : List ℕ) : List ℕ → ℕ → Type 0 where
  skipped : is_blank said ≡ true → IsTreeReply form default number said [] 0
  refused : (fault : EpdFault) → is_blank said ≡ false → IsFaultOf said fault
      → IsTreeReply form default number said (fault_line number fault ++ line []) 1
  answered : (r : RecordValue) → is_blank said ≡ false → Reads said default r → IsTreeReply form default number said (tree_reply form r) 0

-- What `tree` shows.
use Rattle.std.specs.Prelude.{ℕ, Bool, List, [], Option, ⊤, if◌then◌else◌}
use Rattle.mate_tree.specs.LimitedTrees.{IsLateTree, IsLimitedTree}
use Rattle.mate_tree.specs.TreeReplies.{IsTreeReply}
use Rattle.mate_tree.specs.declared.forms.Form.{Form}
use Rattle.mate_tree.specs.declared.forms.Pieces.{Pieces}
use Rattle.mate_tree.specs.declared.forms.Pieces.TheVariants.{San, Figurines, Letters}
use Rattle.move_words.specs.Languages.{is_english}
use Rattle.move_words.specs.declared.languages.Letters.{Letters as LettersOf}
use Rattle.command_words.specs.declared.request.TreeForm.{TreeForm}
use Rattle.problem_import.specs.Imported.{letters_in}
use Rattle.byte_streams.specs.declared.stops.Stop.{Stop}
use Rattle.file_answers.specs.FileAnswers.{Answers, AnswersFirst, AnswersTold, StopsAnswering}
use Rattle.text_lines.specs.LinesFrom.{IsReplyOn, IsReplyToFirstOn}

-- what stands for pieces: figurines, which are the same in each language, or such letters
abbrev pub pieces_of : Bool → LettersOf → Pieces
pieces_of figurines l = if figurines then Figurines else if is_english l then San else Letters l

-- what is shown of a tree, as the words ask for it, of which one gives the letters of men
abbrev pub tree_form_of : TreeForm → List ℕ → Form
tree_form_of f letters = record {
  moves = f.moves;
  defences = f.defences;
  set_play = f.set_play;
  tries = f.tries;
  column = f.column;
  pieces = pieces_of f.figurines (letters_in letters);
  lines = f.lines;
}

-- What records are answered whose trees are asked for in such a form, whatever their file is called.
abbrev pub tree_replies : Form → ℕ → ℕ → List ℕ → List ℕ → List ℕ → ℕ → Type 0
tree_replies form bound from name input text refusals = IsReplyOn (IsTreeReply form bound) from input text refusals

abbrev pub first_tree_replies : Form → ℕ → ℕ → List ℕ → List ℕ → List ℕ → Type 0
first_tree_replies form bound from name input text = IsReplyToFirstOn (IsTreeReply form bound) from input text

-- The replies to what the names hold, to the first of them from the line of such a number on, and whether a line of it is refused.
abbrev pub Tells : (List ℕ → Option (List ℕ)) → ℕ → Form → ℕ → List (List ℕ) → Bool → List ℕ → Type 0
Tells holds bound form from names refused gained = Answers holds (tree_replies form bound) from names refused gained

-- What the output gained where `tree` stops.
abbrev pub StopsTelling : (List ℕ → Option (List ℕ)) → (List ℕ → Type 0) → ℕ → Form → ℕ → List (List ℕ)
    → Stop → (old new : Option (List ℕ)) → Type 0
StopsTelling holds refuses bound form from names stop old new =
    StopsAnswering holds refuses (tree_replies form bound) (first_tree_replies form bound) from names stop old new

-- What they are answered where the search for each one's mate may take so many seconds, and whether it may be stopped at all.
abbrev pub limited_tree_replies : Type 0 → ℕ → Form → ℕ → ℕ → List ℕ → List ℕ → List ℕ → ℕ → Type 0
limited_tree_replies stops seconds form bound from name input text refusals =
    IsReplyOn (IsLimitedTree stops seconds form bound) from input text refusals

-- The same, and how many records were not decided.
abbrev pub limited_tree_told : Type 0 → ℕ → Form → ℕ → ℕ → List ℕ → List ℕ → List ℕ → (refusals undecided : ℕ) → Type 0
limited_tree_told stops seconds form bound from name input text refusals undecided =
    limited_tree_replies stops seconds form bound from name input text refusals
    × IsReplyOn (IsLateTree stops seconds form bound) from input text undecided

abbrev pub first_limited_tree_replies : Type 0 → ℕ → Form → ℕ → ℕ → List ℕ → List ℕ → List ℕ → Type 0
first_limited_tree_replies stops seconds form bound from name input text =
    IsReplyToFirstOn (IsLimitedTree stops seconds form bound) from input text

-- What `tree --limit` shows, whether a line is refused, and how many records were not decided.
abbrev pub TellsLimited : (List ℕ → Option (List ℕ)) → (stops : Type 0) → (seconds bound : ℕ) → Form → ℕ → List (List ℕ) → Bool → ℕ
    → List ℕ → Type 0
TellsLimited holds stops seconds bound form from names refused undecided gained =
    AnswersTold holds (limited_tree_told stops seconds form bound) from names refused undecided gained

-- What the output gained where it stops.
abbrev pub StopsTellingLimited : (List ℕ → Option (List ℕ)) → (List ℕ → Type 0) → (stops : Type 0) → (seconds bound : ℕ) → Form → ℕ
    → List (List ℕ) → Stop → (old new : Option (List ℕ)) → Type 0
StopsTellingLimited holds refuses stops seconds bound form from names stop old new = StopsAnswering holds refuses
    (limited_tree_replies stops seconds form bound) (first_limited_tree_replies stops seconds form bound) from names stop old new

-- Before a file is opened there is nothing to write.
abbrev pub TellsNone : Type 0
TellsNone = (holds : List ℕ → Option (List ℕ)) (bound : ℕ) (form : Form) (from : ℕ) (names : List (List ℕ))
    → AnswersFirst holds (tree_replies form bound) (first_tree_replies form bound) from names (λ _. ⊤) []

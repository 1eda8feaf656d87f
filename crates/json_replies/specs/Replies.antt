-- Replies in JSON.
use Rattle.std.specs.Prelude.{◌≡◌, ℕ, List, [], ◌∷◌}
use Rattle.text_lines.specs.Replies.{LineReplies}
use Rattle.json_replies.specs.Answers.{answer_json}
use Rattle.json_replies.specs.Rows.{row_json}
use Rattle.json_replies.specs.Trees.{tree_json}
use Rattle.json_replies.specs.declared.replies.Form.{Form}
use Rattle.json_replies.specs.declared.replies.Form.TheVariants.{Answer, Row, Tree}

abbrev pub json_by : Form → List ℕ → ℕ → List ℕ → List ℕ
json_by Answer front number reply = answer_json front number reply
json_by Row front number reply = row_json front number reply
json_by Tree front number reply = tree_json front number reply

-- a reply that has such a form, in JSON, behind such a front; where nothing is replied, as to a blank line, that is nothing, too
abbrev pub json_of : Form → List ℕ → ℕ → List ℕ → List ℕ
json_of form front number [] = []
json_of form front number (b ∷ bs) = json_by form front number (b ∷ bs)

-- What lines are answered in JSON: what they are answered without it, in another form, and as many refusals.
abbrev pub InJson : Form → List ℕ → LineReplies → LineReplies
InJson form front replies number line text count =
    (reply : List ℕ) × replies number line reply count × (text ≡ json_of form front number reply)

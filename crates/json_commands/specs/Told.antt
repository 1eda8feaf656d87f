-- What `tree --json` shows.
use Rattle.std.specs.Prelude.{ℕ, Bool, List, Option}
use Rattle.byte_streams.specs.declared.stops.Stop.{Stop}
use Rattle.json_replies.specs.declared.replies.Form.TheVariants.{Tree}
use Rattle.mate_tree.specs.TreeReplies.{IsTreeReply}
use Rattle.mate_tree.specs.declared.forms.Form.{Form}
use Rattle.json_commands.specs.JsonFiles.{AnswersJson, StopsJson}

-- The trees of `tree` in JSON, and whether a line is refused.
abbrev pub TellsJson : (List ℕ → Option (List ℕ)) → ℕ → Form → ℕ → List (List ℕ) → Bool → List ℕ → Type 0
TellsJson holds bound form from names refused gained = AnswersJson holds Tree (IsTreeReply form bound) from names refused gained

-- What the output gained where it stops.
abbrev pub StopsTellingJson : (List ℕ → Option (List ℕ)) → (List ℕ → Type 0) → ℕ → Form → ℕ → List (List ℕ) → Stop
    → (old new : Option (List ℕ)) → Type 0
StopsTellingJson holds refuses bound form from names stop old new = StopsJson holds refuses Tree (IsTreeReply form bound) from names stop old new

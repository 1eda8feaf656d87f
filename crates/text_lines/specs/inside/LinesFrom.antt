-- Not for believing: what each line is answered where the first lines are passed over. No contract of a public call rests on it.
use Rattle.std.specs.Prelude.{◌≡◌, ◌<◌, ◌≤◌, ℕ, List, []}
use Rattle.text_lines.specs.LinesFrom.{lines_from}
use Rattle.text_lines.specs.Replies.{LineReplies, RepliesBehind}

pub record RepliesFrom (replies : LineReplies) (from number : ℕ) (line text : List ℕ) (refusals : ℕ) : Type 0 where
  -- a line before that of this number is passed over
  pub passed : number < from → (text ≡ []) × (refusals ≡ 0)
  -- any other is answered
  pub answered : from ≤ number → replies number line text refusals

-- What a line is answered behind the lines before it, of which the first are passed over.
abbrev pub FollowsFrom : RepliesBehind → ℕ → RepliesBehind
FollowsFrom follows from before = RepliesFrom (follows (lines_from from before)) from

-- What goes from line to line is known to be of these lines, of which the first are passed over.
abbrev pub KnowsFrom : {M : Type 0} → (M → List (List ℕ) → Type 0) → ℕ → M → List (List ℕ) → Type 0
KnowsFrom knows from memory before = knows memory (lines_from from before)

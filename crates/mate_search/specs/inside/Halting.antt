-- Not for believing: how a part of a search ends.
use Rattle.std.specs.Prelude.{◌≡◌, Result, IfErr}
use Rattle.mate_search.specs.Memos.{MemoValue}

-- It was stopped only where it may be, and the memo has as much room as before.
pub record EndsSearch {A E : Type 0} (result : Result A E) (MayStop : Type 0) (before after : MemoValue) : Type 0 where
  pub stopped : IfErr result (λ _. MayStop)
  pub room : after.room ≡ before.room

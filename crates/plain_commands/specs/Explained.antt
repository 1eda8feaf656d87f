-- What `explain` shows.
use Rattle.std.specs.Prelude.{Bool, true, false, List, ℕ}
use Rattle.clap.specs.Words.{Text}
use Rattle.fault_explanations.specs.Explained.{Explains}
use Rattle.fen_explanations.specs.Asked.{TellsWords, say_position}

-- Words that say a position are told what is wrong with it, which is a refusal; others name faults, and are told what these mean.
abbrev pub ExplainsBy : Bool → List Text → Bool → List ℕ → Type 0
ExplainsBy true words refused text = TellsWords words refused text
ExplainsBy false words refused text = Explains words refused text

unfoldable pub ExplainsWords : List Text → Bool → List ℕ → Type 0
ExplainsWords words refused text = ExplainsBy (say_position words) words refused text

-- The same where there is something to show, as there is of a position whether or not something is wrong with it.
abbrev pub ExplainsSomeBy : Bool → List Text → List ℕ → Type 0
ExplainsSomeBy true words text = (faulty : Bool) × TellsWords words faulty text
ExplainsSomeBy false words text = Explains words false text

unfoldable pub ExplainsSome : List Text → List ℕ → Type 0
ExplainsSome words text = ExplainsSomeBy (say_position words) words text

-- Whether a line says its number of moves, by what is read with one default bound, or with two.
use Rattle.std.proofs.Common.{◌≡◌, ◌≢◌, ℕ, List, inl, inr, sym, ◌∙◌, ap}
use Rattle.chess_notation.specs.Records.{RecordValue, Reads, IsAskedBound, IsBoundOf}
use Rattle.problem_import.specs.inside.Counted.{SaysBound}

-- A line that asks for a bound by `dm` says the same record whichever the default one is.
asked_by_line : (line : List ℕ) (default other : ℕ) (r : RecordValue) (reads : Reads line default r) → IsAskedBound reads.operations r.bound
    → Reads line other r
asked_by_line line default other r reads asked = record {
  short = reads.short;
  printable = reads.printable;
  fields = reads.fields;
  tail = reads.tail;
  operations = reads.operations;
  words = reads.words;
  position = reads.position;
  sound = reads.sound;
  spelt = reads.spelt;
  once = reads.once;
  bound = inr asked;
  avoid = reads.avoid;
  kept = reads.kept;
}

-- A record whose bound isn't the default one has it of its line.
pub said_by_line : (line : List ℕ) (default : ℕ) (r : RecordValue) → Reads line default r → r.bound ≢ default → SaysBound line
said_by_line line default r reads other = (r, λ taken. by_bound taken reads.bound) where
  by_bound : (taken : ℕ) → IsBoundOf reads.operations default r.bound → Reads line taken r
  by_bound taken (inr asked) = asked_by_line line default taken r reads asked
  by_bound taken (inl none) = absurd (other none.1)

-- A line that is read with one bound as another record than with another doesn't say its own.
pub said_by_none : (line : List ℕ) (one two : ℕ) (r again : RecordValue) → ((other : RecordValue) → Reads line one other → r ≡ other)
    → ((other : RecordValue) → Reads line two other → again ≡ other) → r.bound ≢ again.bound → ¬ (SaysBound line)
said_by_none line one two r again only only' differ (said, each) =
    differ (ap (λ x. x.bound) (only said (each one) ∙ sym (only' said (each two))))

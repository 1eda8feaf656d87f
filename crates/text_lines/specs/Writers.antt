-- What an output gains by the reply to one line (own to this project).
use Rattle.std.specs.Prelude.{◌≡◌, ℕ, ◌+◌, List, [], ◌∷◌, ◌++◌, Option, length}
use Rattle.std.specs.Io.KnownBytes.{Appends, Keeps}
use Rattle.byte_streams.specs.declared.stops.Stop.{Stop}
use Rattle.byte_streams.specs.declared.stops.Stop.TheVariants.{NoMemory, Unreadable, Unwritable, NoReader}
use Rattle.byte_streams.specs.Stops.{AppendsPart}

-- The output grows by a reply that the line may have, which is so many refusals.
abbrev pub Replied : (List ℕ → ℕ → Type 0) → (old new : Option (List ℕ)) → ℕ → Type 0
Replied may old new refusals = (text : List ℕ) × may text refusals × Appends old new text

-- What a reply may be, how many marks it has beside, and what it is by the lines before.
abbrev pub Marked : (may marks follows : List ℕ → ℕ → Type 0) → ℕ → List ℕ → ℕ → Type 0
Marked may marks follows count text refusals = may text refusals × marks text count × follows text refusals

-- What a line may be answered, by the lines before it.
abbrev pub Following : Type 1
Following = List (List ℕ) → (line text : List ℕ) → ℕ → Type 0

-- Whatever the lines before that of such a number, the reply follows them, where what goes from line to line is known to be of them.
abbrev pub Follows : {M : Type 0} → (M → List (List ℕ) → Type 0) → Following → (number : ℕ) → (line : List ℕ) → M → List ℕ → ℕ → Type 0
Follows knows follows number line old text refusals =
    (before : List (List ℕ)) → length before + 1 ≡ number → knows old before → follows before line text refusals

-- It does, and what goes from line to line is known to be of this line, too.
abbrev pub Knows : {M : Type 0} → (M → List (List ℕ) → Type 0) → Following → (number : ℕ) → (line : List ℕ) → (old new : M) → List ℕ → ℕ
    → Type 0
Knows knows follows number line old new text refusals =
    (before : List (List ℕ)) → length before + 1 ≡ number → knows old before → follows before line text refusals × knows new (before ++ line ∷ [])

-- a first part of such a reply
abbrev pub PartReplied : (List ℕ → ℕ → Type 0) → (old new : Option (List ℕ)) → Type 0
PartReplied may old new = (text : List ℕ) × (refusals : ℕ) × may text refusals × AppendsPart old new text

-- Where a reply stops: by want of memory before its first byte, and where a write breaks off, anywhere.
abbrev pub BreaksOff : (List ℕ → ℕ → Type 0) → (old new : Option (List ℕ)) → Stop → Type 0
BreaksOff may old new NoMemory = Keeps old new
BreaksOff may old new Unreadable = ⊥
BreaksOff may old new Unwritable = PartReplied may old new
BreaksOff may old new NoReader = PartReplied may old new

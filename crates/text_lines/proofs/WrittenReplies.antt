-- What an output gains by the reply to a line, by what may be that reply.
use Rattle.std.proofs.Common.{◌≡◌, ◌≤◌, ◌+◌, ◌-◌, ℕ, List, Option, Result, Ok, Err, IfErr, IfOk, true, false, refl, subst, sym, arith}
use Rattle.std.specs.Io.KnownBytes.{Appends, Keeps}
use Rattle.byte_streams.specs.declared.stops.Stop.{Stop}
use Rattle.byte_streams.specs.declared.stops.Stop.TheVariants as stop
use Rattle.byte_streams.specs.declared.inputs.InputFault.{InputFault}
use Rattle.byte_streams.specs.declared.inputs.InputFault.TheVariants as fault
use Rattle.byte_streams.specs.Stops.{AppendsPart, is_of_output, stop_of}
use Rattle.text_lines.specs.Writers.{BreaksOff, Following, Follows, Knows, PartReplied, Replied}

module _ (P : List ℕ → ℕ → Type 0) (old new : Option (List ℕ)) where
  -- ---- read as what another line may be answered

  pub replied_as : (Q : List ℕ → ℕ → Type 0) (r : Result ℕ Stop) → ((text : List ℕ) (n : ℕ) → P text n → Q text n)
      → IfOk r (Replied P old new) → IfOk r (Replied Q old new)
  replied_as Q (Ok n) read (text, may, on) = (text, read text n may, on)
  replied_as Q (Err e) read replied = tt

  pub breaks_as : (Q : List ℕ → ℕ → Type 0) (r : Result ℕ Stop) → ((text : List ℕ) (n : ℕ) → P text n → Q text n)
      → IfErr r (BreaksOff P old new) → IfErr r (BreaksOff Q old new)
  breaks_as Q (Ok n) read breaks = tt
  breaks_as Q (Err stop.NoMemory) read keeps = keeps
  breaks_as Q (Err stop.Unreadable) read never = absurd never
  breaks_as Q (Err stop.Unwritable) read (text, n, may, part) = (text, n, read text n may, part)
  breaks_as Q (Err stop.NoReader) read (text, n, may, part) = (text, n, read text n may, part)

  -- ---- what it comes to

  pub silent_keeps : (s : Stop) → BreaksOff P old new s → is_of_output s ≡ false → Keeps old new
  silent_keeps stop.NoMemory keeps silent = keeps
  silent_keeps stop.Unreadable never silent = absurd never
  silent_keeps stop.Unwritable part silent = cc
  silent_keeps stop.NoReader part silent = cc

  pub broken_part : (s : Stop) → BreaksOff P old new s → is_of_output s ≡ true → PartReplied P old new
  broken_part stop.NoMemory keeps broken = cc
  broken_part stop.Unreadable never broken = absurd never
  broken_part stop.Unwritable part broken = part
  broken_part stop.NoReader part broken = part

  pub never_unreadable : (s : Stop) → BreaksOff P old new s → s ≡ stop.Unreadable → ⊥
  never_unreadable s breaks is = subst (BreaksOff P old new) is breaks

  -- ---- a reply that is there whole

  pub whole_replied : (text : List ℕ) (count : ℕ) (r : Result ℕ Stop) → P text count
      → IfOk r (λ n. (n ≡ count) × Appends old new text) → IfOk r (Replied P old new)
  whole_replied text count (Ok n) may (is, on) = (text, subst (P text) (sym is) may, on)
  whole_replied text count (Err e) may put = tt

  pub whole_breaks : (text : List ℕ) (count : ℕ) (r : Result ℕ Stop) → P text count
      → IfErr r (λ s. (is_of_output s ≡ true) × AppendsPart old new text) → IfErr r (BreaksOff P old new)
  whole_breaks text count (Ok n) may put = tt
  whole_breaks text count (Err stop.NoMemory) may (broken, part) = cc
  whole_breaks text count (Err stop.Unreadable) may (broken, part) = cc
  whole_breaks text count (Err stop.Unwritable) may (broken, part) = (text, count, may, part)
  whole_breaks text count (Err stop.NoReader) may (broken, part) = (text, count, may, part)

pub whole_few : (A : ℕ → Type 0) (count : ℕ) (r : Result ℕ Stop) → count ≤ 1 → IfOk r (λ n. (n ≡ count) × A n) → IfOk r (λ n. n ≤ 1)
whole_few A count (Ok n) few (is, on) = subst (λ m. m ≤ 1) (sym is) few
whole_few A count (Err e) few put = tt

-- ---- where the input can't be read

pub read_never_broken : (f : InputFault) → is_of_output (stop_of f) ≡ true → ⊥
read_never_broken fault.Unreadable broken = cc
read_never_broken fault.NoMemory broken = cc

pub read_is_unreadable : (f : InputFault) → stop_of f ≡ stop.Unreadable → f ≡ fault.Unreadable
read_is_unreadable fault.Unreadable unreadable = refl
read_is_unreadable fault.NoMemory unreadable = cc

-- ---- how many marks there are more

pub none_more : (P : ℕ → Type 0) (n : ℕ) → P 0 → P (n - n)
none_more P n none = subst P (omega arith) none

pub more_between : (P : ℕ → Type 0) (a b c : ℕ) → a ≤ b → b ≤ c → P ((b - a) + (c - b)) → P (c - a)
more_between P a b c first second all = subst P (omega (arith, first, second)) all

-- what is said of a line is said of the same line
pub said_of : (R : List ℕ → List ℕ → ℕ → Type 0) (line same text : List ℕ) (n : ℕ) → line ≡ same → R line text n → R same text n
said_of R line same text n is says = subst (λ l. R l text n) is says

module _ {M : Type 0} (knows : M → List (List ℕ) → Type 0) (follows : Following) (line same : List ℕ) (number : ℕ) where
  pub known_of : (old new : M) (text : List ℕ) (n : ℕ) → line ≡ same → Knows knows follows number line old new text n
      → Knows knows follows number same old new text n
  known_of old new text n is known = subst (λ l. Knows knows follows number l old new text n) is known

  pub follows_of : (old : M) (text : List ℕ) (n : ℕ) → line ≡ same → Follows knows follows number line old text n
      → Follows knows follows number same old text n
  follows_of old text n is known = subst (λ l. Follows knows follows number l old text n) is known

-- What a file that is not opened is answered.
use Rattle.std.proofs.Common.{◌≡◌, ◌-◌, ◌⊎◌, ℕ, zero, suc, List, [], ◌∷◌, Option, None, Some, arith, inl, inr, refl, drop}
use Rattle.std.specs.Bool.{⊤}
use Rattle.std.proofs.KnownBytes.{Appends-nil}
use Rattle.byte_streams.specs.Inputs.{MayBe}
use Rattle.text_lines.specs.Replies.{LineReplies}
use Rattle.byte_streams.specs.Stops.{AppendsBy, stop_of}
use Rattle.byte_streams.specs.declared.inputs.InputFault.{InputFault}
use Rattle.byte_streams.specs.declared.inputs.InputFault.TheVariants as fault
use Rattle.byte_streams.specs.declared.stops.Stop.{Stop}
use Rattle.byte_streams.specs.declared.stops.Stop.TheVariants as stop
use Rattle.file_answers.specs.FileAnswers.{AnswersFirst, FileReplies, FirstReplies, IsReplyIn}
use Rattle.text_lines.specs.LinesFrom.{IsReplyToFirstOn}

some_input : (known : Option (List ℕ)) → (input : List ℕ) × MayBe known input
some_input None = ([], tt)
some_input (Some x) = (x, refl)

no_reply_in : (holds : List ℕ → Option (List ℕ)) (P : FirstReplies) (from : ℕ) (names : List (List ℕ))
    → ((from : ℕ) (name input : List ℕ) → P from name input []) → IsReplyIn holds P from names []
no_reply_in holds P from [] none = refl
no_reply_in holds P from (name ∷ names) none = let (input, may) = some_input (holds name) in (input, may, none from name input)

pub answers_none : (holds : List ℕ → Option (List ℕ)) (R : FileReplies) (P : FirstReplies) (from : ℕ) (names : List (List ℕ))
    → ((from : ℕ) (name input : List ℕ) → P from name input [])
    → AnswersFirst holds R P from names (λ _. ⊤) []
answers_none holds R P from names none =
    record {
      inputs = [];
      whole = [];
      refusals = 0;
      part = [];
      given = tt;
      are_replies = (refl, refl);
      next = no_reply_in holds P from names none;
      text_is = refl;
      stops = tt;
    }

none_dropped : {X : Type 0} (n : ℕ) → drop {A = X} n [] ≡ []
none_dropped zero = refl
none_dropped (suc n) = refl

pub no_reply_on : (R : LineReplies) (from : ℕ) (input : List ℕ) → IsReplyToFirstOn R from input []
unfolding IsReplyToFirstOn
no_reply_on R from input = (0, 0, rw (none_dropped (from - 1)) (refl, refl))

not_opened_by : (f : InputFault) (P : List ℕ → List ℕ → Type 0) (known old : Option (List ℕ)) → ((input : List ℕ) → P input [])
    → (input : List ℕ) × (text : List ℕ) × MayBe known input × P input text × AppendsBy (stop_of f) old old text
not_opened_by fault.Unreadable P known old none = let (input, may) = some_input known in (input, [], may, none input, Appends-nil old)
not_opened_by fault.NoMemory P known old none = let (input, may) = some_input known in (input, [], may, none input, Appends-nil old)

pub not_opened : (f : InputFault) (s : Stop) (P : List ℕ → List ℕ → Type 0) (known old : Option (List ℕ))
    → ((input : List ℕ) → P input []) → s ≡ stop_of f
    → (input : List ℕ) × (text : List ℕ) × MayBe known input × P input text × AppendsBy s old old text
not_opened f s P known old none is = rw (is) (not_opened_by f P known old none)

-- The same where it stops for want of memory, or at a name that may be refused.
pub stopped_unopened : {Q : Type 0} (s : Stop) (P : List ℕ → List ℕ → Type 0) (known old : Option (List ℕ))
    → ((input : List ℕ) → P input []) → (s ≡ stop.NoMemory) ⊎ ((s ≡ stop.Unreadable) × Q)
    → (input : List ℕ) × (text : List ℕ) × MayBe known input × P input text × AppendsBy s old old text
stopped_unopened s P known old none (inl is) = not_opened fault.NoMemory s P known old none is
stopped_unopened s P known old none (inr (is, may)) = not_opened fault.Unreadable s P known old none is

pub may_refuse : {Q : Type 0} {s : Stop} → (s ≡ stop.NoMemory) ⊎ ((s ≡ stop.Unreadable) × Q) → s ≡ stop.Unreadable → Q
may_refuse (inl is) unreadable = grind (arith, is, unreadable)
may_refuse (inr (is, may)) unreadable = may

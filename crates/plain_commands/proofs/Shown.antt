-- A text that is shown, or a first part of it.
use Rattle.std.proofs.Common.{◌≡◌, Bool, true, false, ℕ, List, Option, Result, Ok, Err, IfErr, IfOk, OnErr, sym, subst}
use Rattle.std.specs.Io.KnownBytes.{Appends}
use Rattle.byte_streams.specs.Stops.{AppendsPart, is_of_output}
use Rattle.byte_streams.specs.declared.stops.Stop.{Stop}
use Rattle.byte_streams.specs.declared.stops.Stop.TheVariants as stop
use Rattle.file_answers.specs.Writing.{Gains, StopsShowing}

pub stops_showing : (Shown : List ℕ → Type 0) (text shown : List ℕ) (r : Result Bool Stop) (old new : Option (List ℕ))
    → shown ≡ text → Shown text → IfErr r (λ s. is_of_output s ≡ true)
    → OnErr r (AppendsPart old new shown) → IfErr r (λ s. StopsShowing Shown s old new)
stops_showing Shown text shown (Ok refused) old new is shows output part = tt
stops_showing Shown text shown (Err stop.NoMemory) old new is shows output part = let no : false ≡ true = output in cc
stops_showing Shown text shown (Err stop.Unreadable) old new is shows output part = let no : false ≡ true = output in cc
stops_showing Shown text shown (Err stop.Unwritable) old new is shows output part =
    record { whole = text; shows = shows; appends = subst (AppendsPart old new) is part }
stops_showing Shown text shown (Err stop.NoReader) old new is shows output part =
    record { whole = text; shows = shows; appends = subst (AppendsPart old new) is part }

pub shows_text : (Shown : Bool → List ℕ → Type 0) (text shown : List ℕ) (r : Result Bool Stop) (old new : Option (List ℕ))
    → shown ≡ text → Shown false text
    → IfOk r (λ refused. (refused ≡ false) × Appends old new shown) → IfOk r (λ refused. Gains (Shown refused) old new)
shows_text Shown text shown (Err s) old new is shows ok = tt
shows_text Shown text shown (Ok refused) old new is shows (none, appends) =
    record { gained = text; shows = subst (λ b. Shown b text) (sym none) shows; appends = subst (Appends old new) is appends }

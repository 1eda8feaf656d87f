-- How a command ends that has no workers.
use Rattle.std.proofs.Common.{ℕ, Bool, List, [], Option, Some, Err, inl, refl}
use Rattle.std.proofs.KnownBytes.{Appends-nil}
use Rattle.clap.specs.Words.{Text}
use Rattle.byte_streams.specs.declared.stops.Stop.TheVariants as stop
use Rattle.command_words.specs.Asked.{tree_on, verify_on}
use Rattle.command_words.specs.declared.request.TreeForm.{TreeForm}
use Rattle.plain_commands.specs.Command.{Ends, EndsByStatus}
use Rattle.plain_commands.specs.Told.{TellsNone, tree_form_of}

-- There are no workers to verify.
pub ends_unverified_on : (holds : Text → Option (List ℕ)) (refuses : Text → Type 0) → EndsByStatus holds refuses
    → (workers bound memo : ℕ) (header : Bool) (from : ℕ) (names : List Text) (out : Option (List ℕ))
    → Ends holds refuses (Some (verify_on workers bound memo header from names)) 3 out out
ends_unverified_on holds refuses ends workers bound memo header from names out =
    ends (verify_on workers bound memo header from names) (Err stop.NoMemory) 3 out out refl tt
    (record { gained = []; shows = inl refl; appends = Appends-nil out })

-- nor to tell trees
pub ends_untold_on : (holds : Text → Option (List ℕ)) (refuses : Text → Type 0) → EndsByStatus holds refuses → TellsNone
    → (workers bound : ℕ) (form : TreeForm) (letters : Text) (from : ℕ) (names : List Text) (out : Option (List ℕ))
    → Ends holds refuses (Some (tree_on workers bound form letters from names)) 3 out out
ends_untold_on holds refuses ends none workers bound form letters from names out =
    ends (tree_on workers bound form letters from names) (Err stop.NoMemory) 3 out out refl tt
    (record { gained = []; shows = none holds bound (tree_form_of form letters) from names; appends = Appends-nil out })

-- What `serve` shows, and where it stops.
use Rattle.std.proofs.Common.{◌≡◌, ◌<◌, ◌≤◌, ◌⊎◌, ℕ, Bool, List, [], Option, Some, Result}
use Rattle.std.proofs.Common.{Ok, Err, IfErr, IfOk, inl, inr, arith, length, map}
use Rattle.std.proofs.KnownBytes.{Appends-nil, Keeps-refl}
use Rattle.std.proofs.lemmas.List.{length-map}
use Rattle.clap.specs.Words.{Text}
use Rattle.byte_streams.specs.declared.stops.Stop.{Stop}
use Rattle.byte_streams.specs.declared.stops.Stop.TheVariants as stop
use Rattle.command_words.specs.Asked.{serve}
use Rattle.file_answers.specs.FileAnswers.{Answers, StopsAnswering}
use Rattle.file_answers.specs.Sources.{SomeRefused}
use Rattle.file_answers.specs.Status.{status_of}
use Rattle.file_answers.specs.Writing.{Gains}
use Rattle.file_solving.specs.Solved.{SolvesNone, first_record_replies, record_replies}
use Rattle.plain_commands.specs.Command.{Ends, EndsByStatus, StopsServing}
use Rattle.plain_commands.specs.Served.{AreTooManyFiles, AreFewFiles, Serves}

-- ---- what is shown

shown : (holds : Text → Option (List ℕ)) (bound : ℕ) (names : List Text) (r : Result Bool Stop) (old new : Option (List ℕ)) → AreFewFiles names
    → IfOk r (λ refused. Gains (Answers holds (record_replies bound) 1 names refused) old new)
    → IfOk r (λ refused. Gains (Serves holds bound names refused) old new)
shown holds bound names (Err s) old new few ok = tt
shown holds bound names (Ok refused) old new few ok = record {
  gained = ok.gained;
  shows = record {
    few = few;
    solves = ok.shows;
  };
  appends = ok.appends;
}

stopped : (holds : Text → Option (List ℕ)) (refuses : Text → Type 0) (bound : ℕ) (names : List Text) (r : Result Bool Stop)
    (old new : Option (List ℕ))
    → IfErr r (λ s. StopsAnswering holds refuses (record_replies bound) (first_record_replies bound) 1 names s old new)
    → IfErr r (λ s. StopsServing holds refuses bound names s old new)
stopped holds refuses bound names (Ok refused) old new err = tt
stopped holds refuses bound names (Err stop.NoMemory) old new err = err
stopped holds refuses bound names (Err stop.Unreadable) old new err = inr err
stopped holds refuses bound names (Err stop.Unwritable) old new err = err
stopped holds refuses bound names (Err stop.NoReader) old new err = err

-- The files were opened and answered.
pub ends_served : (holds : Text → Option (List ℕ)) (refuses : Text → Type 0) → EndsByStatus holds refuses
    → (workers bound memo : ℕ) (names : List Text) (r : Result Bool Stop) (status : ℕ) (old new : Option (List ℕ)) → status ≡ status_of r
    → AreFewFiles names → IfOk r (λ refused. Gains (Answers holds (record_replies bound) 1 names refused) old new)
    → IfErr r (λ s. StopsAnswering holds refuses (record_replies bound) (first_record_replies bound) 1 names s old new)
    → Ends holds refuses (Some (serve workers bound memo names)) status old new
ends_served holds refuses ends_by workers bound memo names r status old new is few ok err =
    ends_by (serve workers bound memo names) r status old new is (shown holds bound names r old new few ok)
    (stopped holds refuses bound names r old new err)

-- They were not opened.
pub ends_unread : (holds : Text → Option (List ℕ)) (refuses : Text → Type 0) → EndsByStatus holds refuses → SolvesNone
    → (workers bound memo : ℕ) (names : List Text) (s : Stop) (status : ℕ) (old : Option (List ℕ)) → status ≡ status_of (Err s)
    → (s ≡ stop.NoMemory) ⊎ ((s ≡ stop.Unreadable) × SomeRefused refuses names)
    → Ends holds refuses (Some (serve workers bound memo names)) status old old
ends_unread holds refuses ends_by none workers bound memo names s status old is (inl memory) =
    ends_by (serve workers bound memo names) (Err s) status old old is tt
    (rw memory (record { gained = []; shows = none holds bound 1 names; appends = Appends-nil old }))
ends_unread holds refuses ends_by none workers bound memo names s status old is (inr unreadable) =
    ends_by (serve workers bound memo names) (Err s) status old old is tt (rw (unreadable.0) (inl (unreadable.1, Keeps-refl old)))

-- ---- where nothing is shown

-- There are too many, or none.
pub ends_in_vain : (holds : Text → Option (List ℕ)) (refuses : Text → Type 0) (workers bound memo : ℕ) (names : List Text)
    (old : Option (List ℕ)) → AreTooManyFiles names
    → Ends holds refuses (Some (serve workers bound memo names)) 2 old old
ends_in_vain holds refuses workers bound memo names old many = record {
  answered = λ is. absurd (omega (arith, is));
  refused = λ is. absurd (omega (arith, is));
  misused = λ is. (many, Keeps-refl old);
  no_memory = λ is. absurd (omega (arith, is));
  no_access = λ is. absurd (omega (arith, is));
  in_part = λ is. absurd (omega (arith, is));
  bounded = omega arith;
}

-- There are no workers.
pub ends_unserved : (holds : Text → Option (List ℕ)) (refuses : Text → Type 0) → SolvesNone → (workers bound memo : ℕ) (names : List Text)
    (old : Option (List ℕ)) → Ends holds refuses (Some (serve workers bound memo names)) 3 old old
ends_unserved holds refuses none workers bound memo names old = record {
  answered = λ is. absurd (omega (arith, is));
  refused = λ is. absurd (omega (arith, is));
  misused = λ is. absurd (omega (arith, is));
  no_memory = λ is. record { gained = []; shows = none holds bound 1 names; appends = Appends-nil old };
  no_access = λ is. absurd (omega (arith, is));
  in_part = λ is. absurd (omega (arith, is));
  bounded = omega arith;
}

-- ---- how many there may be

pub few_files : {A : Type 0} (name : A → Text) (names : List A) → 0 < length names → length names ≤ 16 → AreFewFiles (map name names)
few_files name names some few = (omega (arith, length-map names name, some), omega (arith, length-map names name, few))

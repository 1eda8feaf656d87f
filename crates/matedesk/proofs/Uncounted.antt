-- What there is of a command that starts threads, where memory gives out before it does.
use Rattle.std.proofs.Common.{◌≡◌, ◌<◌, ◌-◌, Bool, true, false, ℕ, zero, suc, List, [], Option, Some, None, Result, Ok, Err, IfOk, IfErr}
use Rattle.std.proofs.Common.{inl, refl, subst, arith}
use Rattle.std.proofs.KnownBytes.{Appends-nil, Keeps-refl}
use Rattle.std.specs.Bool.{⊤}
use Rattle.byte_streams.specs.declared.stops.Stop.{Stop}
use Rattle.byte_streams.specs.declared.stops.Stop.TheVariants as stop
use Rattle.clap.specs.Words.{Text}
use Rattle.command_words.specs.Asked.{Asked, look, board, svg, play, moves, moves_json, perft, divide, lines, solve, solve_json, solve_on, solve_json_on}
use Rattle.command_words.specs.Asked.{limited, limited_json, verify, verify_on, verify_json, verify_imported, verify_limited, verify_limited_json}
use Rattle.command_words.specs.Asked.{tree, tree_on, tree_limited, tree_json, sheet, imports, serve, replay, explain, uci, asks_threads}
use Rattle.plain_commands.specs.Command.{Ends, EndsByStatus, EndsInPart, Shown, ShownInPart, Stops}
use Rattle.file_answers.specs.Sources.{held, held_back}
use Rattle.file_answers.specs.Status.{status_of}
use Rattle.file_answers.specs.Writing.{Gains}
use Rattle.file_solving.specs.Solved.{LimitedNone, SolvesNone}
use Rattle.json_commands.proofs.Unopened.{stops_at_once}
use Rattle.json_replies.specs.declared.replies.Form.TheVariants.{Answer, Row}
use Rattle.mate_answers.specs.InputReplies.{IsLineReply}
use Rattle.mate_answers.specs.LimitedReplies.{IsLimitedReply}
use Rattle.mate_claims.specs.LimitedClaims.{IsLimitedClaim}
use Rattle.plain_commands.specs.Told.{TellsNone, tree_form_of}
use Rattle.plain_commands.proofs.Unopened.{tells_limited_at_once}
use Rattle.matedesk.specs.InTime.{ShownInTime}
use Rattle.command_words.specs.declared.request.TreeForm.{TreeForm}

-- Nothing is written, and the status is that of no memory.
pub ends_uncounted : (holds : Text → Option (List ℕ)) (refuses : Text → Type 0) → EndsByStatus holds refuses → LimitedNone
    → (seconds bound memo from : ℕ) (names : List Text) (out : Option (List ℕ))
    → Ends holds refuses (Some (limited seconds bound memo from names)) 3 out out
ends_uncounted holds refuses ends none seconds bound memo from names out =
    ends (limited seconds bound memo from names) (Err stop.NoMemory) 3 out out refl tt
    (record { gained = []; shows = none holds seconds bound from names; appends = Appends-nil out })

pub ends_uncounted_json : (holds : Text → Option (List ℕ)) (refuses : Text → Type 0) → EndsByStatus holds refuses
    → (seconds bound memo from : ℕ) (names : List Text) (out : Option (List ℕ))
    → Ends holds refuses (Some (limited_json seconds bound memo from names)) 3 out out
ends_uncounted_json holds refuses ends seconds bound memo from names out =
    ends (limited_json seconds bound memo from names) (Err stop.NoMemory) 3 out out refl tt
    (stops_at_once holds refuses Answer (IsLimitedReply ⊤ seconds bound) from names out out (Keeps-refl out))

pub ends_unverified : (holds : Text → Option (List ℕ)) (refuses : Text → Type 0) → EndsByStatus holds refuses
    → (seconds bound memo : ℕ) (header : Bool) (from : ℕ) (names : List Text) (out : Option (List ℕ))
    → Ends holds refuses (Some (verify_limited seconds bound memo header from names)) 3 out out
ends_unverified holds refuses ends seconds bound memo header from names out =
    ends (verify_limited seconds bound memo header from names) (Err stop.NoMemory) 3 out out refl tt
    (record { gained = []; shows = inl refl; appends = Appends-nil out })

pub ends_unverified_json : (holds : Text → Option (List ℕ)) (refuses : Text → Type 0) → EndsByStatus holds refuses
    → (seconds bound memo from : ℕ) (names : List Text) (out : Option (List ℕ))
    → Ends holds refuses (Some (verify_limited_json seconds bound memo from names)) 3 out out
ends_unverified_json holds refuses ends seconds bound memo from names out =
    ends (verify_limited_json seconds bound memo from names) (Err stop.NoMemory) 3 out out refl tt
    (stops_at_once holds refuses Row (IsLimitedClaim ⊤ [] bound) from names out out (Keeps-refl out))

pub ends_unshared : (holds : Text → Option (List ℕ)) (refuses : Text → Type 0) → EndsByStatus holds refuses → SolvesNone
    → (workers bound memo from : ℕ) (names : List Text) (out : Option (List ℕ))
    → Ends holds refuses (Some (solve_on workers bound memo from names)) 3 out out
ends_unshared holds refuses ends none workers bound memo from names out =
    ends (solve_on workers bound memo from names) (Err stop.NoMemory) 3 out out refl tt
    (record { gained = []; shows = none holds bound from names; appends = Appends-nil out })

pub ends_unshared_json : (holds : Text → Option (List ℕ)) (refuses : Text → Type 0) → EndsByStatus holds refuses
    → (workers bound memo from : ℕ) (names : List Text) (out : Option (List ℕ))
    → Ends holds refuses (Some (solve_json_on workers bound memo from names)) 3 out out
ends_unshared_json holds refuses ends workers bound memo from names out =
    ends (solve_json_on workers bound memo from names) (Err stop.NoMemory) 3 out out refl tt
    (stops_at_once holds refuses Answer (IsLineReply bound) from names out out (Keeps-refl out))

pub ends_untaken : (holds : Text → Option (List ℕ)) (refuses : Text → Type 0) → EndsByStatus holds refuses
    → (workers bound memo : ℕ) (header : Bool) (from : ℕ) (names : List Text) (out : Option (List ℕ))
    → Ends holds refuses (Some (verify_on workers bound memo header from names)) 3 out out
ends_untaken holds refuses ends workers bound memo header from names out =
    ends (verify_on workers bound memo header from names) (Err stop.NoMemory) 3 out out refl tt
    (record { gained = []; shows = inl refl; appends = Appends-nil out })

pub ends_untold : (holds : Text → Option (List ℕ)) (refuses : Text → Type 0) → EndsByStatus holds refuses → TellsNone
    → (workers bound : ℕ) (form : TreeForm) (letters : Text) (from : ℕ) (names : List Text) (out : Option (List ℕ))
    → Ends holds refuses (Some (tree_on workers bound form letters from names)) 3 out out
ends_untold holds refuses ends untold workers bound form letters from names out =
    ends (tree_on workers bound form letters from names) (Err stop.NoMemory) 3 out out refl tt
    (record { gained = []; shows = untold holds bound (tree_form_of form letters) from names; appends = Appends-nil out })

pub ends_untold_in_time : (holds : Text → Option (List ℕ)) (refuses : Text → Type 0) → EndsByStatus holds refuses
    → (seconds bound : ℕ) (form : TreeForm) (letters : Text) (from : ℕ) (names : List Text) (out : Option (List ℕ))
    → Ends holds refuses (Some (tree_limited seconds bound form letters from names)) 3 out out
ends_untold_in_time holds refuses ends seconds bound form letters from names out =
    ends (tree_limited seconds bound form letters from names) (Err stop.NoMemory) 3 out out refl tt
    (tells_limited_at_once holds refuses ⊤ seconds bound (tree_form_of form letters) from names out out (Keeps-refl out))

pub ends_unstarted : (holds : Text → Option (List ℕ)) (refuses : Text → Type 0) → EndsByStatus holds refuses → LimitedNone → SolvesNone
    → TellsNone → (asks : Option Asked) → asks_threads asks ≡ true → (out : Option (List ℕ)) → Ends holds refuses asks 3 out out
ends_unstarted holds refuses ends none unsolved untold (Some (serve workers bound memo names)) threads out =
    ends (serve workers bound memo names) (Err stop.NoMemory) 3 out out refl tt
    (record { gained = []; shows = unsolved holds bound 1 names; appends = Appends-nil out })
ends_unstarted holds refuses ends none unsolved untold (Some (limited seconds bound memo from names)) threads out =
    ends_uncounted holds refuses ends none seconds bound memo from names out
ends_unstarted holds refuses ends none unsolved untold (Some (limited_json seconds bound memo from names)) threads out =
    ends_uncounted_json holds refuses ends seconds bound memo from names out
ends_unstarted holds refuses ends none unsolved untold (Some (verify_limited seconds bound memo header from names)) threads out =
    ends_unverified holds refuses ends seconds bound memo header from names out
ends_unstarted holds refuses ends none unsolved untold (Some (verify_limited_json seconds bound memo from names)) threads out =
    ends_unverified_json holds refuses ends seconds bound memo from names out
ends_unstarted holds refuses ends none unsolved untold (Some (solve_on workers bound memo from names)) threads out =
    ends_unshared holds refuses ends unsolved workers bound memo from names out
ends_unstarted holds refuses ends none unsolved untold (Some (solve_json_on workers bound memo from names)) threads out =
    ends_unshared_json holds refuses ends workers bound memo from names out
ends_unstarted holds refuses ends none unsolved untold (Some (verify_on workers bound memo header from names)) threads out =
    ends_untaken holds refuses ends workers bound memo header from names out
ends_unstarted holds refuses ends none unsolved untold (Some (tree_on workers bound form letters from names)) threads out =
    ends_untold holds refuses ends untold workers bound form letters from names out
ends_unstarted holds refuses ends none unsolved untold (Some (tree_limited seconds bound form letters from names)) threads out =
    ends_untold_in_time holds refuses ends seconds bound form letters from names out
ends_unstarted holds refuses ends none unsolved untold (Some uci) threads out = ends uci (Err stop.NoMemory) 3 out out refl tt tt
ends_unstarted holds refuses ends none unsolved untold None threads out = cc
ends_unstarted holds refuses ends none unsolved untold (Some (look fen)) threads out = cc
ends_unstarted holds refuses ends none unsolved untold (Some (board fen side)) threads out = cc
ends_unstarted holds refuses ends none unsolved untold (Some (svg fen side)) threads out = cc
ends_unstarted holds refuses ends none unsolved untold (Some (play fen words)) threads out = cc
ends_unstarted holds refuses ends none unsolved untold (Some (moves form fen)) threads out = cc
ends_unstarted holds refuses ends none unsolved untold (Some (moves_json fen)) threads out = cc
ends_unstarted holds refuses ends none unsolved untold (Some (perft fen depth)) threads out = cc
ends_unstarted holds refuses ends none unsolved untold (Some (divide fen depth)) threads out = cc
ends_unstarted holds refuses ends none unsolved untold (Some (lines view names)) threads out = cc
ends_unstarted holds refuses ends none unsolved untold (Some (solve bound memo from names)) threads out = cc
ends_unstarted holds refuses ends none unsolved untold (Some (solve_json bound memo from names)) threads out = cc
ends_unstarted holds refuses ends none unsolved untold (Some (verify bound memo header from names)) threads out = cc
ends_unstarted holds refuses ends none unsolved untold (Some (verify_json bound memo from names)) threads out = cc
ends_unstarted holds refuses ends none unsolved untold (Some (verify_imported bound memo header letters placements from names)) threads out = cc
ends_unstarted holds refuses ends none unsolved untold (Some (tree bound form letters from names)) threads out = cc
ends_unstarted holds refuses ends none unsolved untold (Some (tree_json bound form letters from names)) threads out = cc
ends_unstarted holds refuses ends none unsolved untold (Some (sheet bound memo form letters title names)) threads out = cc
ends_unstarted holds refuses ends none unsolved untold (Some (imports keep bound letters placements names)) threads out = cc
ends_unstarted holds refuses ends none unsolved untold (Some (replay name)) threads out = cc
ends_unstarted holds refuses ends none unsolved untold (Some (explain words)) threads out = cc

-- Be what names hold what files do, or records that are given: in either case.
pub ends_given : (are_texts : Bool) (holds : Text → Option (List ℕ)) (refuses : Text → Type 0)
    → EndsByStatus (held true holds) (held_back true refuses) → EndsByStatus (held false holds) (held_back false refuses)
    → EndsByStatus (held are_texts holds) (held_back are_texts refuses)
ends_given true holds refuses texts files = texts
ends_given false holds refuses texts files = files

-- ---- with a limit of time

-- What a command shows by how many records were not decided is shown.
pub in_time : (holds : Text → Option (List ℕ)) (a : Asked) (Shows : Bool → ℕ → List ℕ → Type 0) (old new : Option (List ℕ)) (n : ℕ)
    → ((refused : Bool) → Gains (Shows refused 0) old new → Shown holds a refused old new)
    → ((refused : Bool) (n : ℕ) → 0 < n → Gains (Shows refused n) old new → ShownInPart holds a old new)
    → (ended : Result Bool Stop) → IfOk ended (λ refused. Gains (Shows refused n) old new)
    → IfOk ended (λ refused. ShownInTime holds a refused n old new)
in_time holds a Shows old new n whole part (Ok refused) gains = record {
  whole = λ none. whole refused (subst (λ m. Gains (Shows refused m) old new) none gains);
  part = λ some. part refused n some gains;
}
in_time holds a Shows old new n whole part (Err stop) gains = tt

ends_by : (holds : Text → Option (List ℕ)) (refuses : Text → Type 0) → EndsByStatus holds refuses → EndsInPart holds refuses
    → (a : Asked) (old new : Option (List ℕ)) (ended : Result Bool Stop) (undecided status : ℕ)
    → IfOk ended (λ _. 0 < undecided → status ≡ 5) → (undecided ≡ 0 → status ≡ status_of ended) → IfErr ended (λ _. status ≡ status_of ended)
    → IfOk ended (λ refused. ShownInTime holds a refused undecided old new) → IfErr ended (λ stop. Stops holds refuses a stop old new)
    → Ends holds refuses (Some a) status old new
ends_by holds refuses ends in_part a old new (Ok refused) zero status late decided stopped ok err =
    ends a (Ok refused) status old new (decided refl) (ok.whole refl) tt
ends_by holds refuses ends in_part a old new (Ok refused) (suc n) status late decided stopped ok err =
    rw (late (omega arith)) (in_part a old new (ok.part (omega arith)))
ends_by holds refuses ends in_part a old new (Err stop) undecided status late decided stopped ok err =
    ends a (Err stop) status old new stopped tt err

-- All is shown, whether or not some records were not decided, or it stopped.
pub ends_in_time : (holds : Text → Option (List ℕ)) (refuses : Text → Type 0) → EndsByStatus holds refuses → EndsInPart holds refuses
    → (a : Asked) (old new : Option (List ℕ)) (ended : Result Bool Stop) (before undecided status : ℕ)
    → before ≡ 0 → IfOk ended (λ _. 0 < undecided → status ≡ 5) → (undecided ≡ 0 → status ≡ status_of ended)
    → IfErr ended (λ _. status ≡ status_of ended) → IfOk ended (λ refused. ShownInTime holds a refused (undecided - before) old new)
    → IfErr ended (λ stop. Stops holds refuses a stop old new) → Ends holds refuses (Some a) status old new
ends_in_time holds refuses ends in_part a old new ended before undecided status none late decided stopped ok err =
    let all : undecided - before ≡ undecided = omega (arith, none) in
    ends_by holds refuses ends in_part a old new ended undecided status late decided stopped
    (subst (λ n. IfOk ended (λ refused. ShownInTime holds a refused n old new)) all ok) err

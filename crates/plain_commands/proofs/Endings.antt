-- How a command ends, and the program with it.
use Rattle.std.proofs.Common.{◌≡◌, ◌≢◌, ◌⊎◌, ◌≤◌, Bool, true, false, ℕ, List, [], Option, None}
use Rattle.std.proofs.Common.{Some, Result, Ok, Err, IfErr, IfOk, inl, inr, refl, sym, subst, arith}
use Rattle.std.proofs.KnownBytes.{Appends-kept, Appends-nil}
use Rattle.std.specs.Bool.{⊤}
use Rattle.std.specs.Io.KnownBytes.{Keeps}
use Rattle.clap.specs.Words.{Text}
use Rattle.byte_streams.specs.declared.stops.Stop.{Stop}
use Rattle.byte_streams.specs.declared.stops.Stop.TheVariants as stop
use Rattle.command_words.specs.Asked.{Asked, look, board, svg, play, moves, moves_json, perft, divide, lines, solve, solve_json, solve_on, solve_json_on}
use Rattle.command_words.specs.Asked.{limited, limited_json, verify, verify_on, verify_limited, verify_limited_json, verify_json, verify_imported, tree}
use Rattle.command_words.specs.Asked.{tree_on, tree_limited, tree_json, sheet, imports, serve, replay, explain, uci}
use Rattle.file_answers.specs.Status.{status_of}
use Rattle.file_solving.specs.Solved.{LimitedNone, SolvesNone}
use Rattle.plain_commands.specs.Told.{TellsNone, tree_form_of}
use Rattle.json_replies.specs.declared.replies.Form.TheVariants.{Answer, Row, Tree}
use Rattle.mate_answers.specs.InputReplies.{IsLineReply}
use Rattle.mate_answers.specs.LimitedReplies.{IsLimitedReply}
use Rattle.mate_claims.specs.ClaimReplies.{IsClaimReply}
use Rattle.mate_claims.specs.LimitedClaims.{IsLimitedClaim}
use Rattle.mate_tree.specs.TreeReplies.{IsTreeReply}
use Rattle.problem_import.specs.Imported.{import_letters_in}
use Rattle.plain_commands.specs.PositionLines.{command_of}
use Rattle.plain_commands.proofs.Unopened.{imports_at_once, json_at_once, lines_at_once, tells_limited_at_once}
use Rattle.plain_commands.specs.Command.{Ends, EndsByStatus, EndsInPart, Shown, Stops, StopsBy}

-- Where memory gives out at once, nothing is written.
stops_unread : SolvesNone → LimitedNone → TellsNone → (holds : Text → Option (List ℕ)) (refuses : Text → Type 0)
    (asks : Option Asked) (old new : Option (List ℕ)) → Keeps old new → StopsBy holds refuses asks stop.NoMemory old new
stops_unread none late untold holds refuses None old new kept = kept
stops_unread none late untold holds refuses (Some (look fen)) old new kept = kept
stops_unread none late untold holds refuses (Some (board fen side)) old new kept = kept
stops_unread none late untold holds refuses (Some (svg fen side)) old new kept = kept
stops_unread none late untold holds refuses (Some (play fen words)) old new kept = kept
stops_unread none late untold holds refuses (Some (moves form fen)) old new kept = kept
stops_unread none late untold holds refuses (Some (moves_json fen)) old new kept = kept
stops_unread none late untold holds refuses (Some (perft fen depth)) old new kept = kept
stops_unread none late untold holds refuses (Some (divide fen depth)) old new kept = kept
stops_unread none late untold holds refuses (Some (lines view names)) old new kept =
    lines_at_once holds refuses (command_of view) names old new kept
stops_unread none late untold holds refuses (Some (solve bound memo from names)) old new kept =
    record { gained = []; shows = none holds bound from names; appends = Appends-kept old old new [] (Appends-nil old) kept }
stops_unread none late untold holds refuses (Some (solve_json bound memo from names)) old new kept =
    json_at_once holds refuses Answer (IsLineReply bound) from names old new kept
stops_unread none late untold holds refuses (Some (solve_on workers bound memo from names)) old new kept =
    record { gained = []; shows = none holds bound from names; appends = Appends-kept old old new [] (Appends-nil old) kept }
stops_unread none late untold holds refuses (Some (solve_json_on workers bound memo from names)) old new kept =
    json_at_once holds refuses Answer (IsLineReply bound) from names old new kept
stops_unread none late untold holds refuses (Some (limited seconds bound memo from names)) old new kept =
    record { gained = []; shows = late holds seconds bound from names; appends = Appends-kept old old new [] (Appends-nil old) kept }
stops_unread none late untold holds refuses (Some (limited_json seconds bound memo from names)) old new kept =
    json_at_once holds refuses Answer (IsLimitedReply ⊤ seconds bound) from names old new kept
stops_unread none late untold holds refuses (Some (verify bound memo header from names)) old new kept =
    record { gained = []; shows = inl refl; appends = Appends-kept old old new [] (Appends-nil old) kept }
stops_unread none late untold holds refuses (Some (verify_on workers bound memo header from names)) old new kept =
    record { gained = []; shows = inl refl; appends = Appends-kept old old new [] (Appends-nil old) kept }
stops_unread none late untold holds refuses (Some (verify_json bound memo from names)) old new kept =
    json_at_once holds refuses Row (IsClaimReply [] bound) from names old new kept
stops_unread none late untold holds refuses (Some (verify_imported bound memo header letters placements from names)) old new kept =
    record { gained = []; shows = inl refl; appends = Appends-kept old old new [] (Appends-nil old) kept }
stops_unread none late untold holds refuses (Some (verify_limited seconds bound memo header from names)) old new kept =
    record { gained = []; shows = inl refl; appends = Appends-kept old old new [] (Appends-nil old) kept }
stops_unread none late untold holds refuses (Some (verify_limited_json seconds bound memo from names)) old new kept =
    json_at_once holds refuses Row (IsLimitedClaim ⊤ [] bound) from names old new kept
stops_unread none late untold holds refuses (Some (tree bound form letters from names)) old new kept =
    record { gained = []; shows = untold holds bound (tree_form_of form letters) from names; appends = Appends-kept old old new [] (Appends-nil old) kept }
stops_unread none late untold holds refuses (Some (tree_on workers bound form letters from names)) old new kept =
    record { gained = []; shows = untold holds bound (tree_form_of form letters) from names; appends = Appends-kept old old new [] (Appends-nil old) kept }
stops_unread none late untold holds refuses (Some (tree_limited seconds bound form letters from names)) old new kept =
    tells_limited_at_once holds refuses ⊤ seconds bound (tree_form_of form letters) from names old new kept
stops_unread none late untold holds refuses (Some (tree_json bound form letters from names)) old new kept =
    json_at_once holds refuses Tree (IsTreeReply (tree_form_of form letters) bound) from names old new kept
stops_unread none late untold holds refuses (Some (sheet bound memo form letters title names)) old new kept = kept
stops_unread none late untold holds refuses (Some (imports keep bound letters placements names)) old new kept =
    imports_at_once holds refuses (import_letters_in letters placements) keep bound names old new kept
stops_unread none late untold holds refuses (Some (serve workers bound memo names)) old new kept =
    record { gained = []; shows = none holds bound 1 names; appends = Appends-kept old old new [] (Appends-nil old) kept }
stops_unread none late untold holds refuses (Some (replay name)) old new kept = kept
stops_unread none late untold holds refuses (Some (explain words)) old new kept = kept
stops_unread none late untold holds refuses (Some uci) old new kept = tt

no_reader : (holds : Text → Option (List ℕ)) (refuses : Text → Type 0) (a : Asked) (old new : Option (List ℕ))
    → Stops holds refuses a stop.NoReader old new → Stops holds refuses a stop.Unwritable old new
no_reader holds refuses (look fen) old new stops = stops
no_reader holds refuses (board fen side) old new stops = stops
no_reader holds refuses (svg fen side) old new stops = stops
no_reader holds refuses (play fen words) old new stops = stops
no_reader holds refuses (moves form fen) old new stops = stops
no_reader holds refuses (moves_json fen) old new stops = stops
no_reader holds refuses (perft fen depth) old new stops = stops
no_reader holds refuses (divide fen depth) old new stops = stops
no_reader holds refuses (lines view names) old new stops = stops
no_reader holds refuses (solve bound memo from names) old new stops = stops
no_reader holds refuses (solve_json bound memo from names) old new stops = stops
no_reader holds refuses (solve_on workers bound memo from names) old new stops = stops
no_reader holds refuses (solve_json_on workers bound memo from names) old new stops = stops
no_reader holds refuses (limited seconds bound memo from names) old new stops = stops
no_reader holds refuses (limited_json seconds bound memo from names) old new stops = stops
no_reader holds refuses (verify bound memo header from names) old new stops = stops
no_reader holds refuses (verify_on workers bound memo header from names) old new stops = stops
no_reader holds refuses (verify_json bound memo from names) old new stops = stops
no_reader holds refuses (verify_imported bound memo header letters placements from names) old new stops = stops
no_reader holds refuses (verify_limited seconds bound memo header from names) old new stops = stops
no_reader holds refuses (verify_limited_json seconds bound memo from names) old new stops = stops
no_reader holds refuses (tree bound form letters from names) old new stops = stops
no_reader holds refuses (tree_on workers bound form letters from names) old new stops = stops
no_reader holds refuses (tree_limited seconds bound form letters from names) old new stops = stops
no_reader holds refuses (tree_json bound form letters from names) old new stops = stops
no_reader holds refuses (sheet bound memo form letters title names) old new stops = stops
no_reader holds refuses (imports keep bound letters placements names) old new stops = stops
no_reader holds refuses (serve workers bound memo names) old new stops = stops
no_reader holds refuses (replay name) old new stops = stops
no_reader holds refuses (explain words) old new stops = stops
no_reader holds refuses uci old new stops = stops

ends_here : (holds : Text → Option (List ℕ)) (refuses : Text → Type 0) (a : Asked) (r : Result Bool Stop)
    (old new : Option (List ℕ)) → IfOk r (λ refused. Shown holds a refused old new)
    → IfErr r (λ s. Stops holds refuses a s old new) → Ends holds refuses (Some a) (status_of r) old new
ends_here holds refuses a (Ok false) old new ok err = record {
  answered = λ is. ok;
  refused = λ is. absurd (omega (arith, is));
  misused = λ is. absurd (omega (arith, is));
  no_memory = λ is. absurd (omega (arith, is));
  no_access = λ is. absurd (omega (arith, is));
  in_part = λ is. absurd (omega (arith, is));
  bounded = omega arith;
}
ends_here holds refuses a (Ok true) old new ok err = record {
  answered = λ is. absurd (omega (arith, is));
  refused = λ is. ok;
  misused = λ is. absurd (omega (arith, is));
  no_memory = λ is. absurd (omega (arith, is));
  no_access = λ is. absurd (omega (arith, is));
  in_part = λ is. absurd (omega (arith, is));
  bounded = omega arith;
}
ends_here holds refuses a (Err stop.NoMemory) old new ok err = record {
  answered = λ is. absurd (omega (arith, is));
  refused = λ is. absurd (omega (arith, is));
  misused = λ is. absurd (omega (arith, is));
  no_memory = λ is. err;
  no_access = λ is. absurd (omega (arith, is));
  in_part = λ is. absurd (omega (arith, is));
  bounded = omega arith;
}
ends_here holds refuses a (Err stop.Unreadable) old new ok err = record {
  answered = λ is. absurd (omega (arith, is));
  refused = λ is. absurd (omega (arith, is));
  misused = λ is. absurd (omega (arith, is));
  no_memory = λ is. absurd (omega (arith, is));
  no_access = λ is. inl err;
  in_part = λ is. absurd (omega (arith, is));
  bounded = omega arith;
}
ends_here holds refuses a (Err stop.Unwritable) old new ok err = record {
  answered = λ is. absurd (omega (arith, is));
  refused = λ is. absurd (omega (arith, is));
  misused = λ is. absurd (omega (arith, is));
  no_memory = λ is. absurd (omega (arith, is));
  no_access = λ is. inr err;
  in_part = λ is. absurd (omega (arith, is));
  bounded = omega arith;
}
ends_here holds refuses a (Err stop.NoReader) old new ok err = record {
  answered = λ is. absurd (omega (arith, is));
  refused = λ is. absurd (omega (arith, is));
  misused = λ is. absurd (omega (arith, is));
  no_memory = λ is. absurd (omega (arith, is));
  no_access = λ is. inr (no_reader holds refuses a old new err);
  in_part = λ is. absurd (omega (arith, is));
  bounded = omega arith;
}

pub ends_by : (holds : Text → Option (List ℕ)) (refuses : Text → Type 0) (a : Asked) (r : Result Bool Stop) (status : ℕ)
    (old new : Option (List ℕ)) → status ≡ status_of r
    → IfOk r (λ refused. Shown holds a refused old new) → IfErr r (λ s. Stops holds refuses a s old new)
    → Ends holds refuses (Some a) status old new
ends_by holds refuses a r status old new is ok err =
    subst (λ n. Ends holds refuses (Some a) n old new) (sym is) (ends_here holds refuses a r old new ok err)

pub ends_by_status : (holds : Text → Option (List ℕ)) (refuses : Text → Type 0) → EndsByStatus holds refuses
ends_by_status holds refuses = ends_by holds refuses

-- Where some records were not decided.
pub ends_in_part : (holds : Text → Option (List ℕ)) (refuses : Text → Type 0) → EndsInPart holds refuses
ends_in_part holds refuses a old new shown = record {
  answered = λ is. absurd (omega (arith, is));
  refused = λ is. absurd (omega (arith, is));
  misused = λ is. absurd (omega (arith, is));
  no_memory = λ is. absurd (omega (arith, is));
  no_access = λ is. absurd (omega (arith, is));
  in_part = λ is. shown;
  bounded = omega arith;
}

-- The words ask for nothing, or memory gave out before that was known.
pub ends_unasked : SolvesNone → LimitedNone → TellsNone → (holds : Text → Option (List ℕ)) (refuses : Text → Type 0)
    (asks : Option Asked) (status : ℕ) (old new : Option (List ℕ)) → status ≢ 1 → status ≤ 4
    → (status ≢ 3 → asks ≡ None) → ((status ≡ 2) ⊎ (status ≡ 3) → Keeps old new) → Ends holds refuses asks status old new
ends_unasked none late untold holds refuses asks status old new not_refused within unasked kept = record {
  answered = λ is. rw (unasked (λ other. absurd (omega (arith, is, other)))) tt;
  refused = λ is. absurd (not_refused is);
  misused = λ is. (rw (unasked (λ other. absurd (omega (arith, is, other)))) tt, kept (inl is));
  no_memory = λ is. stops_unread none late untold holds refuses asks old new (kept (inr is));
  no_access = λ is. rw (unasked (λ other. absurd (omega (arith, is, other)))) tt;
  in_part = λ is. absurd (omega (arith, is, within));
  bounded = omega (arith, within);
}

-- How a command ends, and the program with it.
use Rattle.std.specs.Prelude.{is_some, ◌&&◌, ◌≡◌, ◌<◌, ◌≤◌, ◌⊎◌, ℕ, Bool, List, Option, None, Some, Result, IfErr, IfOk, IfSome, IsSomeAnd, true, false, ⊤}
use Rattle.std.specs.Io.KnownBytes.{Keeps}
use Rattle.clap.specs.Words.{Text}
use Rattle.byte_streams.specs.declared.stops.Stop.{Stop}
use Rattle.byte_streams.specs.declared.stops.Stop.TheVariants.{NoMemory, Unreadable, Unwritable}
use Rattle.file_answers.specs.Sources.{SomeRefused, held, held_back}
use Rattle.file_answers.specs.Status.{status_of}
use Rattle.file_answers.specs.Writing.{Gains, StopsShowing}
use Rattle.chess_views.specs.Counts.{divided_text, perft_text}
use Rattle.chess_views.specs.Listings.{moves_text}
use Rattle.chess_views.specs.Looks.{look_board_text, look_text}
use Rattle.command_words.specs.Asked.{Asked, asked, records_given, look, board, svg, play, moves, moves_json, perft, divide, lines, solve, solve_json}
use Rattle.command_words.specs.Asked.{solve_on, solve_json_on, limited, limited_json, verify, verify_on, verify_limited, verify_limited_json}
use Rattle.command_words.specs.Asked.{verify_json, verify_imported, tree, tree_on, tree_limited, tree_json, sheet, imports, serve, replay, explain, uci}
use Rattle.move_words.specs.Languages.{letters_said}
use Rattle.problem_sheets.specs.Diagrams.{svg_of}
use Rattle.json_commands.specs.Solved.{SolvesJson, SolvesLimitedJson, StopsLimitedJson, StopsSolvingJson}
use Rattle.json_commands.specs.Told.{TellsJson, StopsTellingJson}
use Rattle.json_commands.specs.Verified.{VerifiesJson, StopsVerifyingJson, VerifiesLimitedJson, StopsVerifyingLimitedJson}
use Rattle.import_claims.specs.VerifiedImports.{VerifiesImported, StopsVerifyingImported}
use Rattle.plain_commands.specs.Explained.{ExplainsSome, ExplainsWords}
use Rattle.plain_commands.specs.FenCommands.{ShowsFen, ShowsMovesJson, ShowsObject, columns_of}
use Rattle.plain_commands.specs.Played.{ShowsPlay}
use Rattle.plain_commands.specs.PositionLines.{ShowsLines, StopsLines, command_of}
use Rattle.plain_commands.specs.Replayed.{ReplaysFile, StopsReplaying}
use Rattle.file_solving.specs.Solved.{Solves, SolvesLimited, StopsLimited, StopsSolving}
use Rattle.file_verifying.specs.Verified.{LimitedHeaded, StopsHeaded, StopsLimitedHeaded, VerifiesHeaded}
use Rattle.plain_commands.specs.Told.{StopsTelling, StopsTellingLimited, Tells, TellsLimited, tree_form_of}
use Rattle.plain_commands.specs.Sheeted.{Sheets, StopsSheet, page_form_of}
use Rattle.plain_commands.specs.Imported.{ImportsFiles, StopsImporting}
use Rattle.problem_import.specs.Imported.{import_letters_in}
use Rattle.plain_commands.specs.Served.{AreTooManyFiles, Serves}

-- What a command shows where names hold such inputs, and whether anything that it was given is refused. The size of a memo and the
-- number of workers change nothing of it.
abbrev pub Shows : (Text → Option (List ℕ)) → Asked → Bool → List ℕ → Type 0
Shows holds (look fen) refused text = ShowsFen look_text fen refused text
Shows holds (board fen side) refused text = ShowsFen (look_board_text side) fen refused text
Shows holds (svg fen side) refused text = ShowsFen (svg_of side) fen refused text
Shows holds (play fen words) refused text = ShowsPlay fen words refused text
Shows holds (moves form fen) refused text = ShowsFen (moves_text (columns_of form)) fen refused text
Shows holds (moves_json fen) refused text = ShowsMovesJson fen refused text
Shows holds (perft fen depth) refused text = ShowsFen (perft_text depth) fen refused text
Shows holds (divide fen depth) refused text = ShowsFen (divided_text depth) fen refused text
Shows holds (lines view names) refused text = ShowsLines holds (command_of view) names refused text
Shows holds (solve bound memo from names) refused text = Solves holds bound from names refused text
Shows holds (solve_json bound memo from names) refused text = SolvesJson holds bound from names refused text
Shows holds (solve_on workers bound memo from names) refused text = Solves holds bound from names refused text
Shows holds (solve_json_on workers bound memo from names) refused text = SolvesJson holds bound from names refused text
Shows holds (limited seconds bound memo from names) refused text = SolvesLimited holds ⊤ seconds bound from names refused 0 text
Shows holds (limited_json seconds bound memo from names) refused text = SolvesLimitedJson holds ⊤ seconds bound from names refused 0 text
Shows holds (verify bound memo header from names) refused text = VerifiesHeaded holds bound header from names refused text
Shows holds (verify_on workers bound memo header from names) refused text = VerifiesHeaded holds bound header from names refused text
Shows holds (verify_json bound memo from names) refused text = VerifiesJson holds bound from names refused text
Shows holds (verify_imported bound memo header letters placements from names) refused text =
    VerifiesImported holds (import_letters_in letters placements) bound header from names refused text
Shows holds (verify_limited seconds bound memo header from names) refused text = LimitedHeaded holds ⊤ bound header from names refused 0 text
Shows holds (verify_limited_json seconds bound memo from names) refused text = VerifiesLimitedJson holds ⊤ bound from names refused 0 text
Shows holds (tree bound form letters from names) refused text = Tells holds bound (tree_form_of form letters) from names refused text
Shows holds (tree_on workers bound form letters from names) refused text =
    Tells holds bound (tree_form_of form letters) from names refused text
Shows holds (tree_limited seconds bound form letters from names) refused text =
    TellsLimited holds ⊤ seconds bound (tree_form_of form letters) from names refused 0 text
Shows holds (tree_json bound form letters from names) refused text = TellsJson holds bound (tree_form_of form letters) from names refused text
Shows holds (sheet bound memo form letters title names) refused text = Sheets holds bound (page_form_of form letters) title names refused text
Shows holds (imports keep bound letters placements names) refused text =
    ImportsFiles holds (import_letters_in letters placements) keep bound names refused text
Shows holds (serve workers bound memo names) refused text = Serves holds bound names refused text
Shows holds (replay name) refused text = ReplaysFile (holds name) refused text
Shows holds (explain words) refused text = ExplainsWords words refused text
Shows holds uci refused text = ⊤

-- The output gained what a command shows. What `uci` writes isn't told, and it refuses nothing.
abbrev pub Shown : (Text → Option (List ℕ)) → Asked → Bool → (old new : Option (List ℕ)) → Type 0
Shown holds uci refused old new = refused ≡ false
Shown holds asks refused old new = Gains (Shows holds asks refused) old new

-- The output gained what `solve`, `verify` or `tree` with `--limit` shows where some records were not decided, and whether or not a line is
-- refused.
abbrev pub ShownInPart : (Text → Option (List ℕ)) → Asked → (old new : Option (List ℕ)) → Type 0
ShownInPart holds (limited seconds bound memo from names) old new =
    (refused : Bool) × (undecided : ℕ) × (0 < undecided) × Gains (SolvesLimited holds ⊤ seconds bound from names refused undecided) old new
ShownInPart holds (limited_json seconds bound memo from names) old new =
    (refused : Bool) × (undecided : ℕ) × (0 < undecided) × Gains (SolvesLimitedJson holds ⊤ seconds bound from names refused undecided) old new
ShownInPart holds (verify_limited seconds bound memo header from names) old new =
    (unsound : Bool) × (undecided : ℕ) × (0 < undecided) × Gains (LimitedHeaded holds ⊤ bound header from names unsound undecided) old new
ShownInPart holds (verify_limited_json seconds bound memo from names) old new =
    (unsound : Bool) × (undecided : ℕ) × (0 < undecided) × Gains (VerifiesLimitedJson holds ⊤ bound from names unsound undecided) old new
ShownInPart holds (tree_limited seconds bound form letters from names) old new = (refused : Bool) × (undecided : ℕ) × (0 < undecided)
    × Gains (TellsLimited holds ⊤ seconds bound (tree_form_of form letters) from names refused undecided) old new
ShownInPart holds asks old new = ⊥

-- What the output gained where `serve` stops: nothing where a file can't be opened, which may be refused; else the same as where `solve` of
-- these files does. A thread that can't be had is want of memory.
abbrev pub StopsServing : (Text → Option (List ℕ)) → (Text → Type 0) → ℕ → List Text → Stop → (old new : Option (List ℕ)) → Type 0
StopsServing holds refuses bound names Unreadable old new =
    (SomeRefused refuses names × Keeps old new) ⊎ StopsSolving holds refuses bound 1 names Unreadable old new
StopsServing holds refuses bound names stop old new = StopsSolving holds refuses bound 1 names stop old new

abbrev pub Stops : (Text → Option (List ℕ)) → (Text → Type 0) → Asked → Stop → (old new : Option (List ℕ)) → Type 0
Stops holds refuses (moves_json fen) stop old new = StopsShowing (ShowsObject fen) stop old new
Stops holds refuses (lines view names) stop old new = StopsLines holds refuses (command_of view) names stop old new
Stops holds refuses (solve bound memo from names) stop old new = StopsSolving holds refuses bound from names stop old new
Stops holds refuses (solve_json bound memo from names) stop old new = StopsSolvingJson holds refuses bound from names stop old new
Stops holds refuses (solve_on workers bound memo from names) stop old new = StopsSolving holds refuses bound from names stop old new
Stops holds refuses (solve_json_on workers bound memo from names) stop old new = StopsSolvingJson holds refuses bound from names stop old new
Stops holds refuses (limited seconds bound memo from names) stop old new = StopsLimited holds refuses ⊤ seconds bound from names stop old new
Stops holds refuses (limited_json seconds bound memo from names) stop old new = StopsLimitedJson holds refuses ⊤ seconds bound from names stop old new
Stops holds refuses (verify bound memo header from names) stop old new = StopsHeaded holds refuses bound header from names stop old new
Stops holds refuses (verify_on workers bound memo header from names) stop old new = StopsHeaded holds refuses bound header from names stop old new
Stops holds refuses (verify_json bound memo from names) stop old new = StopsVerifyingJson holds refuses bound from names stop old new
Stops holds refuses (verify_imported bound memo header letters placements from names) stop old new =
    StopsVerifyingImported holds refuses (import_letters_in letters placements) bound header from names stop old new
Stops holds refuses (verify_limited seconds bound memo header from names) stop old new =
    StopsLimitedHeaded holds refuses ⊤ bound header from names stop old new
Stops holds refuses (verify_limited_json seconds bound memo from names) stop old new =
    StopsVerifyingLimitedJson holds refuses ⊤ bound from names stop old new
Stops holds refuses (tree bound form letters from names) stop old new =
    StopsTelling holds refuses bound (tree_form_of form letters) from names stop old new
Stops holds refuses (tree_on workers bound form letters from names) stop old new =
    StopsTelling holds refuses bound (tree_form_of form letters) from names stop old new
Stops holds refuses (tree_limited seconds bound form letters from names) stop old new =
    StopsTellingLimited holds refuses ⊤ seconds bound (tree_form_of form letters) from names stop old new
Stops holds refuses (tree_json bound form letters from names) stop old new =
    StopsTellingJson holds refuses bound (tree_form_of form letters) from names stop old new
Stops holds refuses (sheet bound memo form letters title names) stop old new =
    StopsSheet holds refuses bound (page_form_of form letters) title names stop old new
Stops holds refuses (imports keep bound letters placements names) stop old new =
    StopsImporting holds refuses (import_letters_in letters placements) keep bound names
    stop old new
Stops holds refuses (serve workers bound memo names) stop old new = StopsServing holds refuses bound names stop old new
Stops holds refuses (replay name) stop old new = StopsReplaying (holds name) (refuses name) stop old new
Stops holds refuses (explain words) stop old new = StopsShowing (ExplainsSome words) stop old new
Stops holds refuses uci stop old new = ⊤
Stops holds refuses asks stop old new = StopsShowing (Shows holds asks false) stop old new

-- The program stops where a command does.
abbrev pub StopsBy : (Text → Option (List ℕ)) → (Text → Type 0) → Option Asked → Stop → (old new : Option (List ℕ)) → Type 0
StopsBy holds refuses None stop old new = Keeps old new
StopsBy holds refuses (Some asks) stop old new = Stops holds refuses asks stop old new

-- Two words give letters of men.
abbrev pub give_letters : (letters placements : Text) → Bool
give_letters letters placements = is_some (letters_said letters) && is_some (letters_said placements)

-- Problems are asked to be imported, trees to be told, or a page to be made, with letters of men that these words give, or something
-- else is asked for.
abbrev pub has_letters : Asked → Bool
has_letters (imports keep bound letters placements names) = give_letters letters placements
has_letters (verify_imported bound memo header letters placements from names) = give_letters letters placements
has_letters (tree bound form letters from names) = is_some (letters_said letters)
has_letters (tree_on workers bound form letters from names) = is_some (letters_said letters)
has_letters (tree_limited seconds bound form letters from names) = is_some (letters_said letters)
has_letters (tree_json bound form letters from names) = is_some (letters_said letters)
has_letters (sheet bound memo form letters title names) = is_some (letters_said letters)
has_letters _ = true

-- The words ask for nothing, for `serve` with too many files, or for letters of men that there are none of.
abbrev pub AsksInVain : Option Asked → Type 0
AsksInVain None = ⊤
AsksInVain (Some (serve workers bound memo names)) = AreTooManyFiles names
AsksInVain (Some (imports keep bound letters placements names)) = give_letters letters placements ≡ false
AsksInVain (Some (verify_imported bound memo header letters placements from names)) = give_letters letters placements ≡ false
AsksInVain (Some (tree bound form letters from names)) = letters_said letters ≡ None
AsksInVain (Some (tree_on workers bound form letters from names)) = letters_said letters ≡ None
AsksInVain (Some (tree_limited seconds bound form letters from names)) = letters_said letters ≡ None
AsksInVain (Some (tree_json bound form letters from names)) = letters_said letters ≡ None
AsksInVain (Some (sheet bound memo form letters title names)) = letters_said letters ≡ None
AsksInVain (Some asks) = ⊥

-- How the program ends, by what the words ask for, what names hold, and which names may be refused. Help and the version are
-- shown where the words ask for nothing.
pub record Ends (holds : Text → Option (List ℕ)) (refuses : Text → Type 0) (asks : Option Asked) (status : ℕ)
    (old new : Option (List ℕ)) : Type 0 where
  -- 0: what was asked for is shown, and nothing was refused
  pub answered : status ≡ 0 → IfSome asks (λ a. Shown holds a false old new)
  -- 1: the same, and something was refused
  pub refused : status ≡ 1 → IsSomeAnd asks (λ a. Shown holds a true old new)
  -- 2: the words ask for nothing, for too many files to be served, or for letters of men that there are none of
  pub misused : status ≡ 2 → AsksInVain asks × Keeps old new
  -- 3: memory gave out, or no thread was to be had
  pub no_memory : status ≡ 3 → StopsBy holds refuses asks NoMemory old new
  -- 4: a file can't be read, or the output can't be written
  pub no_access : status ≡ 4 → IfSome asks (λ a. Stops holds refuses a Unreadable old new ⊎ Stops holds refuses a Unwritable old new)
  -- 5: all lines are answered, and some records were not decided in time
  pub in_part : status ≡ 5 → IsSomeAnd asks (λ a. ShownInPart holds a old new)
  pub bounded : status ≤ 5

-- How the program ends by its words: their files are none where the words give records themselves.
abbrev pub EndsBy : (Text → Option (List ℕ)) → (Text → Type 0) → List Text → ℕ → (old new : Option (List ℕ)) → Type 0
EndsBy holds refuses words status old new =
    Ends (held (records_given words) holds) (held_back (records_given words) refuses) (asked words) status old new

-- Whatever a command has shown, or where it stopped, with the status of that it ends so.
abbrev pub EndsByStatus : (Text → Option (List ℕ)) → (Text → Type 0) → Type 0
EndsByStatus holds refuses = (a : Asked) (r : Result Bool Stop) (status : ℕ) (old new : Option (List ℕ)) → status ≡ status_of r
    → IfOk r (λ refused. Shown holds a refused old new) → IfErr r (λ stop. Stops holds refuses a stop old new)
    → Ends holds refuses (Some a) status old new

-- Where some records were not decided, it ends so.
abbrev pub EndsInPart : (Text → Option (List ℕ)) → (Text → Type 0) → Type 0
EndsInPart holds refuses = (a : Asked) (old new : Option (List ℕ)) → ShownInPart holds a old new → Ends holds refuses (Some a) 5 old new

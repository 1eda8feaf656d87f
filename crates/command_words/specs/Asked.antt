-- What the words of a command line ask for.
use Rattle.std.specs.Prelude.{ℕ, ◌+◌, ◌^◌, ◌==◌, ◌&&◌, ◌||◌, Bool, List, [], ◌∷◌, Option, None, Some, true, false, codes}
use Rattle.std.specs.Prelude.{is_some, length, nat_lt, not, option_map, option_and_then, unwrap_or, if◌then◌else◌}
use Rattle.std.specs.List.{list_all, list_any}
use Rattle.std.specs.Option.{option_map_or}
use Rattle.std.specs.Char.{digit_value}
use Rattle.std.specs.Str.{bytes_eq}
use Rattle.std.specs.Str.Parse.{digits_value, without_leading_plus}
use Rattle.clap.specs.Words.{App, Kinds, Row, Text, all_of, fault_of, first_of, one_of, subcommand_of, subcommand_rows_of}
use Rattle.clap.specs.Walk.{byte_or_zero}
use Rattle.clap.specs.declared.error.kind.ErrorKind.{ErrorKind}
use Rattle.clap.specs.declared.error.kind.ErrorKind.TheVariants.{DisplayHelp, DisplayVersion}
use Rattle.clap.specs.declared.parser.matches.ArgMatches.{ArgMatches}
use Rattle.chess_board.specs.declared.men.Colour.{Colour}
use Rattle.chess_board.specs.declared.men.Colour.TheVariants.{White, Black}
use Rattle.chess_problems.specs.Problems.{bound_of}
use Rattle.command_words.specs.CommandLine.{desk_app}
use Rattle.command_words.specs.Limits.{depth_of}
use Rattle.command_words.specs.Limits.{line_number_of, memo_size_of, workers_of}
use Rattle.command_words.specs.LineCommands.{given}
use Rattle.command_words.specs.Memory.{shared_size_of}
use Rattle.command_words.specs.declared.request.LineView.{LineView}
use Rattle.command_words.specs.declared.request.LineView.TheVariants as shown
use Rattle.command_words.specs.declared.request.MoveForm.{MoveForm}
use Rattle.command_words.specs.declared.request.TreeForm.{TreeForm}
use Rattle.command_words.specs.declared.request.SheetForm.{SheetForm}
use Rattle.command_words.specs.declared.request.MoveForm.TheVariants.{San, Coordinates, SanFen, SanCoordinatesFen}

-- a command with its arguments
pub data Asked : Type 0 where
  look : Text → Asked
  board : Text → Colour → Asked
  svg : Text → Colour → Asked
  play : Text → List Text → Asked
  moves : MoveForm → Text → Asked
  moves_json : Text → Asked
  perft : Text → ℕ → Asked
  divide : Text → ℕ → Asked
  lines : LineView → List Text → Asked
  solve : ℕ → ℕ → ℕ → List Text → Asked
  solve_json : ℕ → ℕ → ℕ → List Text → Asked
  solve_on : ℕ → ℕ → ℕ → ℕ → List Text → Asked
  solve_json_on : ℕ → ℕ → ℕ → ℕ → List Text → Asked
  limited : ℕ → ℕ → ℕ → ℕ → List Text → Asked
  limited_json : ℕ → ℕ → ℕ → ℕ → List Text → Asked
  verify : ℕ → ℕ → Bool → ℕ → List Text → Asked
  verify_on : ℕ → ℕ → ℕ → Bool → ℕ → List Text → Asked
  verify_json : ℕ → ℕ → ℕ → List Text → Asked
  verify_imported : Option ℕ → ℕ → Bool → (letters placements : Text) → ℕ → List Text → Asked
  verify_limited : ℕ → ℕ → ℕ → Bool → ℕ → List Text → Asked
  verify_limited_json : ℕ → ℕ → ℕ → ℕ → List Text → Asked
  tree : ℕ → TreeForm → Text → ℕ → List Text → Asked
  tree_on : ℕ → ℕ → TreeForm → Text → ℕ → List Text → Asked
  tree_limited : ℕ → ℕ → TreeForm → Text → ℕ → List Text → Asked
  tree_json : ℕ → TreeForm → Text → ℕ → List Text → Asked
  sheet : ℕ → ℕ → SheetForm → Text → Text → List Text → Asked
  imports : Bool → Option ℕ → (letters placements : Text) → List Text → Asked
  serve : ℕ → ℕ → ℕ → List Text → Asked
  replay : Text → Asked
  explain : List Text → Asked
  uci : Asked

-- the number that a word stands for, which `clap` has read; none above the depths that are counted
unfoldable pub depth_in : List Row → Option ℕ
depth_in rows = depth_of (option_map_or byte_or_zero (one_of (codes "DEPTH") rows) 0)

-- the number of `--bound` in the same way; none outside the bounds of a problem
unfoldable pub bound_in : List Row → Option ℕ
bound_in rows = bound_of (option_map_or byte_or_zero (one_of (codes "B") rows) 0)

-- the number of `--workers` in the same way; none outside the numbers of workers
unfoldable pub workers_in : List Row → Option ℕ
workers_in rows = workers_of (option_map_or byte_or_zero (one_of (codes "N") rows) 0)

-- the same of `tree`
unfoldable pub tree_workers_in : List Row → Option ℕ
tree_workers_in rows = workers_of (option_map_or byte_or_zero (one_of (codes "W") rows) 0)

-- the number that a word stands for, which `clap` has read, where it may be larger than a byte
unfoldable pub number_or_zero : Text → ℕ
number_or_zero text =
    let digits = without_leading_plus text in
    if nat_lt 0 (length digits) && list_all (λ d. nat_lt (digit_value d) 10) digits
    && nat_lt (digits_value 10 digits) (2 ^ 32) then digits_value 10 digits
    else 0

-- the entries of each of so many memos: by `--memo`, which is 0 where it isn't given, by the memory of `--memory`, or else so many; none
-- where both are given
abbrev pub memo_size_at : ℕ → ℕ → ℕ → Option Text → Option ℕ
memo_size_at memos default entries None = memo_size_of (if entries == 0 then default else entries)
memo_size_at memos default entries (Some memory) = if entries == 0 then shared_size_of memos memory else None

unfoldable pub memo_size_in : ℕ → ℕ → List Row → Option ℕ
memo_size_in memos default rows =
    memo_size_at memos default (option_map_or number_or_zero (one_of (codes "M") rows) 0) (first_of (codes "SIZE") rows)

-- the entries of a memo where nothing is said of it; of each worker of `serve`
abbrev pub default_memo : ℕ
default_memo = 65536

abbrev pub default_memos : ℕ
default_memos = 16384

-- how many memos `solve` has with so many workers: one, or where there are several one more than these
abbrev pub memos_on : ℕ → ℕ
memos_on workers = if workers == 1 then 1 else workers + 1

-- the number of `--from`; none outside the numbers of lines
unfoldable pub from_in : List Row → Option ℕ
from_in rows = line_number_of (option_map_or number_or_zero (one_of (codes "K") rows) 0)

-- an option without a value is given: `clap` has the value `true` for it then, and else `false`
unfoldable pub is_given : Text → List Row → Bool
is_given id rows = option_map_or (λ value. bytes_eq value (codes "true")) (first_of id rows) false

-- from which side the board is seen
unfoldable pub side_in : List Row → Colour
side_in rows = if is_given (codes "flip") rows then Black else White

abbrev pub svg_at : List Row → Text → Option Asked
svg_at rows fen = if is_given (codes "board") rows then None else Some (svg fen (side_in rows))

abbrev pub look_at : List Row → Text → Option Asked
look_at rows fen =
    if is_given (codes "svg") rows then svg_at rows fen
    else if is_given (codes "board") rows then Some (board fen (side_in rows))
    else if is_given (codes "flip") rows then None
    else Some (look fen)

-- what the arguments of `look` ask for; nothing where the board is to be both drawn and an image, or is to be turned and neither
unfoldable pub look_in : List Row → Option Asked
look_in rows = option_and_then (look_at rows) (first_of (codes "FEN") rows)

-- what the arguments of `play` ask for
unfoldable pub play_in : List Row → Option Asked
play_in rows = option_map (λ fen. play fen (unwrap_or (all_of (codes "MOVE") rows) [])) (first_of (codes "FEN") rows)

-- how the moves are written that `moves` lists
unfoldable pub form_in : List Row → MoveForm
form_in rows =
    if is_given (codes "coordinates") rows then (if is_given (codes "fen") rows then SanCoordinatesFen else Coordinates)
    else (if is_given (codes "fen") rows then SanFen else San)

-- moves are asked for in JSON, and in none of those forms, which it has all
abbrev pub moves_at : List Row → Text → Option Asked
moves_at rows fen =
    if not (is_given (codes "json") rows) then Some (moves (form_in rows) fen)
    else if is_given (codes "coordinates") rows || is_given (codes "fen") rows then None
    else Some (moves_json fen)

-- what the arguments of `moves` ask for
unfoldable pub moves_in : List Row → Option Asked
moves_in rows = option_and_then (moves_at rows) (first_of (codes "FEN") rows)

abbrev pub perft_at : List Row → ℕ → Text → Asked
perft_at rows depth fen = if is_given (codes "divide") rows then divide fen depth else perft fen depth

-- what the arguments of `perft` ask for
unfoldable pub perft_in : List Row → Option Asked
perft_in rows = option_and_then (λ depth. option_map (perft_at rows depth) (first_of (codes "FEN") rows)) (depth_in rows)

-- what the arguments of a command over lines ask for, by what it shows of each
unfoldable pub lines_in : LineView → List Row → Option Asked
lines_in view rows = option_map (lines view) (all_of (codes "FILE") rows)

-- the same of `look --lines`, which draws no image
unfoldable pub look_lines_in : List Row → Option Asked
look_lines_in rows =
    if is_given (codes "board") rows then lines_in (shown.Board (side_in rows)) rows
    else if is_given (codes "flip") rows then None
    else lines_in shown.Look rows

unfoldable pub perft_lines_in : List Row → Option Asked
perft_lines_in rows = option_and_then (λ depth. lines_in (shown.Perft depth) rows) (depth_in rows)

-- a number from 1 on, or none, for which 0 stands
abbrev pub some_number : ℕ → Option ℕ
some_number n = if n == 0 then None else Some n

-- the seconds of `--limit`, or none
unfoldable pub limit_in : List Row → Option ℕ
limit_in rows = some_number (option_map_or number_or_zero (one_of (codes "S") rows) 0)

-- what `solve` asks for: of each record so many seconds at most, or as long as it takes, and then by so many workers, or by one
abbrev pub solve_at : Option ℕ → ℕ → ℕ → ℕ → ℕ → List Text → Asked
solve_at None workers bound memo from names = if workers == 1 then solve bound memo from names else solve_on workers bound memo from names
solve_at (Some seconds) workers bound memo from names = limited seconds bound memo from names

-- the same in JSON
abbrev pub solve_json_at : Option ℕ → ℕ → ℕ → ℕ → ℕ → List Text → Asked
solve_json_at None workers bound memo from names =
    if workers == 1 then solve_json bound memo from names else solve_json_on workers bound memo from names
solve_json_at (Some seconds) workers bound memo from names = limited_json seconds bound memo from names

-- which of these
abbrev pub solve_as : Bool → Option ℕ → ℕ → ℕ → ℕ → ℕ → List Text → Asked
solve_as false limit workers bound memo from names = solve_at limit workers bound memo from names
solve_as true limit workers bound memo from names = solve_json_at limit workers bound memo from names

-- what the arguments of `solve` ask for
unfoldable pub solve_in : List Row → Option Asked
solve_in rows =
    option_and_then (λ workers. option_and_then (λ bound. option_and_then
    (λ memo. option_and_then (λ from. option_map
    (λ names. solve_as (is_given (codes "json") rows) (limit_in rows) workers bound memo from names) (all_of (codes "FILE") rows))
    (from_in rows)) (memo_size_in (memos_on workers) default_memo rows)) (bound_in rows)) (workers_in rows)

-- the bound of records that say none, where it isn't given
abbrev pub default_bound : ℕ
default_bound = 3

-- how many memos `verify` has with so many workers: as `solve` where each record has a limit, and else one for each of them
abbrev pub verify_memos_on : Option ℕ → ℕ → ℕ
verify_memos_on None workers = workers
verify_memos_on (Some seconds) workers = memos_on workers

-- what `verify` asks for rows of records: of each so many seconds at most, or as long as it takes, and then by so many workers, or by one
abbrev pub verify_rows_at : Option ℕ → ℕ → ℕ → ℕ → Bool → ℕ → List Text → Asked
verify_rows_at None workers bound memo header from names =
    if workers == 1 then verify bound memo header from names else verify_on workers bound memo header from names
verify_rows_at (Some seconds) workers bound memo header from names = verify_limited seconds bound memo header from names

-- the same in JSON, by one worker
abbrev pub verify_json_at : Option ℕ → ℕ → ℕ → ℕ → List Text → Asked
verify_json_at None bound memo from names = verify_json bound memo from names
verify_json_at (Some seconds) bound memo from names = verify_limited_json seconds bound memo from names

-- the word that gives the letters of men, in moves by `--letters` and in placements by `--fen-letters`: English ones where it isn't given
unfoldable pub letters_asked : (id : Text) → List Row → Text
letters_asked id rows = unwrap_or (first_of id rows) (codes "en")

-- Letters are given, in moves or in placements.
unfoldable pub has_letters_asked : List Row → Bool
has_letters_asked rows = is_some (first_of (codes "L") rows) || is_some (first_of (codes "P") rows)

-- of problems that are imported, which have one worker and no limit
abbrev pub verify_imported_at : Option ℕ → Option ℕ → ℕ → Bool → (letters placements : Text) → ℕ → List Text → Option Asked
verify_imported_at None bound memo header letters placements from names = Some (verify_imported bound memo header letters placements from names)
verify_imported_at (Some seconds) bound memo header letters placements from names = None

-- of records, which have English letters
abbrev pub verify_rows_in : List Row → Option ℕ → ℕ → ℕ → Bool → ℕ → List Text → Option Asked
verify_rows_in rows limit workers memo header from names =
    if has_letters_asked rows then None
    else Some (verify_rows_at limit workers (unwrap_or (bound_in rows) default_bound) memo header from names)

-- what `verify` asks for: rows, with or without the names of their fields, of records or of problems that are imported; or JSON of records
abbrev pub verify_at : List Row → Option ℕ → ℕ → ℕ → ℕ → List Text → Option Asked
verify_at rows limit workers memo from names =
    let header = is_given (codes "header") rows in
    let imported = is_given (codes "import") rows in
    let alone = workers == 1 in
    if not (is_given (codes "json") rows) then
    (if not imported then verify_rows_in rows limit workers memo header from names
    else if alone then verify_imported_at limit (bound_in rows) memo header (letters_asked (codes "L") rows) (letters_asked (codes "P") rows)
    from names
    else None)
    else if header || imported || not alone || has_letters_asked rows then None
    else Some (verify_json_at limit (unwrap_or (bound_in rows) default_bound) memo from names)

-- what the arguments of `verify` ask for
unfoldable pub verify_in : List Row → Option Asked
verify_in rows =
    option_and_then (λ workers. option_and_then (λ memo. option_and_then
    (λ from. option_and_then (verify_at rows (limit_in rows) workers memo from) (all_of (codes "FILE") rows))
    (from_in rows)) (memo_size_in (verify_memos_on (limit_in rows) workers) default_memo rows)) (workers_in rows)

-- what is shown of a tree: how many moves, whether only the defences that parry, set play, tries, in one column, with figurines, and how
-- many lines
unfoldable pub tree_form_in : List Row → TreeForm
tree_form_in rows = record {
  moves = some_number (option_map_or byte_or_zero (one_of (codes "D") rows) 0);
  defences = is_given (codes "defences") rows;
  set_play = is_given (codes "set-play") rows;
  tries = is_given (codes "tries") rows;
  column = is_given (codes "column") rows;
  figurines = is_given (codes "figurines") rows;
  lines = some_number (option_map_or number_or_zero (one_of (codes "N") rows) 0);
}

-- what `tree` asks for, with what gives the letters of men: as text by so many workers, or by one, or by one with so many seconds at most to
-- look for the mate of each record; or in JSON by one, which has no limit
abbrev pub tree_at : Bool → Option ℕ → ℕ → ℕ → TreeForm → Text → ℕ → List Text → Option Asked
tree_at false None workers bound form letters from names =
    Some (if workers == 1 then tree bound form letters from names else tree_on workers bound form letters from names)
tree_at false (Some seconds) workers bound form letters from names =
    if workers == 1 then Some (tree_limited seconds bound form letters from names) else None
tree_at true None workers bound form letters from names = if workers == 1 then Some (tree_json bound form letters from names) else None
tree_at true (Some seconds) workers bound form letters from names = None

-- what the arguments of `tree` ask for
unfoldable pub tree_in : List Row → Option Asked
tree_in rows =
    option_and_then (λ workers. option_and_then (λ bound. option_and_then (λ from. option_and_then (λ letters. option_and_then
    (λ names. tree_at (is_given (codes "json") rows) (limit_in rows) workers bound (tree_form_in rows) letters from names)
    (all_of (codes "FILE") rows)) (first_of (codes "L") rows)) (from_in rows)) (bound_in rows)) (tree_workers_in rows)

-- what a page has beside its diagrams
unfoldable pub sheet_form_in : List Row → SheetForm
sheet_form_in rows = record { solutions = is_given (codes "solutions") rows; figurines = is_given (codes "figurines") rows }

-- what the arguments of `sheet` ask for, with what a page has beside its diagrams
unfoldable pub sheet_with : List Row → Option Asked
sheet_with rows =
    option_and_then (λ bound. option_and_then (λ memo. option_and_then
    (λ letters. option_and_then (λ title. option_map (λ names. sheet bound memo (sheet_form_in rows) letters title names)
    (all_of (codes "FILE") rows)) (first_of (codes "T") rows)) (first_of (codes "L") rows)) (memo_size_in 1 default_memo rows)) (bound_in rows)

-- what they ask for: figurines stand in solutions alone
unfoldable pub sheet_in : List Row → Option Asked
sheet_in rows = if is_given (codes "figurines") rows && not (is_given (codes "solutions") rows) then None else sheet_with rows

-- what the arguments of `import` ask for: whether what was changed is told, the bound of problems that say none, if one is given, the letters
-- of men in moves and in placements, and files
unfoldable pub import_in : List Row → Option Asked
import_in rows =
    option_map (imports (is_given (codes "keep") rows) (bound_in rows) (letters_asked (codes "L") rows) (letters_asked (codes "P") rows))
    (all_of (codes "FILE") rows)

-- what the arguments of `serve` ask for
unfoldable pub serve_in : List Row → Option Asked
serve_in rows =
    option_and_then (λ workers. option_and_then
    (λ bound. option_and_then (λ memo. option_map (λ names. serve workers bound memo names) (all_of (codes "FILE") rows))
    (memo_size_in workers default_memos rows)) (bound_in rows)) (workers_in rows)

-- what the arguments of a command ask for, by its name: of a command over lines of positions
unfoldable pub lines_asked_by : Text → List Row → Option Asked
lines_asked_by name rows =
    if bytes_eq name (codes "look --lines") then look_lines_in rows
    else if bytes_eq name (codes "moves --lines") then lines_in shown.Moves rows
    else if bytes_eq name (codes "perft --lines") then perft_lines_in rows
    else None

-- of these, and of one on threads, at a desk, or that explains faults
unfoldable pub desk_asked_by : Text → List Row → Option Asked
desk_asked_by name rows =
    if bytes_eq name (codes "serve") then serve_in rows
    else if bytes_eq name (codes "replay") then option_map replay (first_of (codes "SCRIPT") rows)
    else if bytes_eq name (codes "explain") then Some (explain (unwrap_or (all_of (codes "WORD") rows) []))
    else if bytes_eq name (codes "uci") then Some uci
    else lines_asked_by name rows

-- of these, and of one over the records of files
unfoldable pub records_asked_by : Text → List Row → Option Asked
records_asked_by name rows =
    if bytes_eq name (codes "solve") then solve_in rows
    else if bytes_eq name (codes "verify") then verify_in rows
    else if bytes_eq name (codes "tree") then tree_in rows
    else if bytes_eq name (codes "sheet") then sheet_in rows
    else if bytes_eq name (codes "import") then import_in rows
    else desk_asked_by name rows

-- of any command
unfoldable pub asked_by : Text → List Row → Option Asked
asked_by name rows =
    if bytes_eq name (codes "look") then look_in rows
    else if bytes_eq name (codes "play") then play_in rows
    else if bytes_eq name (codes "moves") then moves_in rows
    else if bytes_eq name (codes "perft") then perft_in rows
    else records_asked_by name rows

-- asks for a command that starts threads
abbrev pub is_threaded : Asked → Bool
is_threaded (serve workers bound memo names) = true
is_threaded (solve_on workers bound memo from names) = true
is_threaded (solve_json_on workers bound memo from names) = true
is_threaded (limited seconds bound memo from names) = true
is_threaded (limited_json seconds bound memo from names) = true
is_threaded (verify_on workers bound memo header from names) = true
is_threaded (verify_limited seconds bound memo header from names) = true
is_threaded (verify_limited_json seconds bound memo from names) = true
is_threaded (tree_on workers bound form letters from names) = true
is_threaded (tree_limited seconds bound form letters from names) = true
is_threaded uci = true
is_threaded _ = false

abbrev pub asks_threads : Option Asked → Bool
asks_threads None = false
asks_threads (Some asks) = is_threaded asks

-- what the matches of a whole command line ask for
abbrev pub asked_of : ArgMatches → Option Asked
asked_of m = option_and_then (λ p. asked_by p.0 p.1) (subcommand_rows_of m)

-- whether matches of a whole command line ask to be told how far the command is
abbrev pub progress_of : ArgMatches → Bool
progress_of m = option_map_or (λ p. is_given (codes "progress") p.1) (subcommand_rows_of m) false

-- a command that answers records one after the other
abbrev pub answers_records : Text → Bool
answers_records name = bytes_eq name (codes "solve") || (bytes_eq name (codes "verify") || bytes_eq name (codes "tree"))

-- Such a command's files are none, but the records themselves, or FENs.
unfoldable pub records_given_by : Text → List Row → Bool
records_given_by name rows = answers_records name && (is_given (codes "record") rows || is_given (codes "fen") rows)

-- the same of the matches of a whole command line
abbrev pub records_given_of : ArgMatches → Bool
records_given_of m = option_map_or (λ p. records_given_by p.0 p.1) (subcommand_rows_of m) false

abbrev pub unless_faulty : Kinds → Option Asked → Option Asked
unless_faulty [] asks = asks
unless_faulty (fault ∷ faults) asks = None

-- what the words ask for of a command line; a request for help is a fault to `clap`
abbrev pub asked_in : App → List Text → Option Asked
asked_in a words = unless_faulty (fault_of a words) (option_and_then (λ p. asked_by p.0 p.1) (subcommand_of a words))

-- the same of the words of a command line
abbrev pub records_given_in : App → List Text → Bool
records_given_in a words = option_map_or (λ p. records_given_by p.0 p.1) (subcommand_of a words) false

-- a kind that is no mistake but a request for help or for the version
abbrev pub is_display : ErrorKind → Bool
is_display DisplayHelp = true
is_display DisplayVersion = true
is_display _ = false

-- Where `clap` may answer words with one of several kinds, some of these, or all of them.
abbrev pub may_display_in : App → List Text → Bool
may_display_in a words = list_any is_display (fault_of a words)

abbrev pub all_display : Kinds → Bool
all_display [] = false
all_display (kind ∷ kinds) = list_all is_display (kind ∷ kinds)

abbrev pub asks_display_in : App → List Text → Bool
asks_display_in a words = all_display (fault_of a words)

-- these of the program's own command line, whose words stand as `clap` is given them
unfoldable pub asked_exactly : List Text → Option Asked
asked_exactly words = asked_in desk_app words

unfoldable pub records_given_exactly : List Text → Bool
records_given_exactly words = records_given_in desk_app words

unfoldable pub may_display_exactly : List Text → Bool
may_display_exactly words = may_display_in desk_app words

unfoldable pub asks_display_exactly : List Text → Bool
asks_display_exactly words = asks_display_in desk_app words

-- what the words ask for; none where they are at fault, or ask for help or the version
abbrev pub asked : List Text → Option Asked
asked words = asked_exactly (given words)

-- whether the words give records themselves, in place of files
abbrev pub records_given : List Text → Bool
records_given words = records_given_exactly (given words)

-- whether the words may be taken to ask for help or the version
abbrev pub may_display : List Text → Bool
may_display words = may_display_exactly (given words)

-- whether they ask for nothing else
abbrev pub asks_display : List Text → Bool
asks_display words = asks_display_exactly (given words)

-- The command line of the program, as `clap` reads it.
use Rattle.std.specs.Prelude.{◌≡◌, [], ◌∷◌, Some, true, false, codes, pos}
use Rattle.clap.specs.Lexer.{usize_max}
use Rattle.clap.specs.Words.{App, Rule, Text}
use Rattle.clap.specs.declared.builder.action.ArgAction.TheVariants.{SetTrue}
use Rattle.clap.specs.declared.builder.value_parser.ValueParser.TheVariants as parser
use Rattle.clap.specs.declared.builder.command.Command.{Command}
use Rattle.clap.specs.declared.builder.command.Command.TheViews.{out-Command as fields_of}
use Rattle.command_words.specs.ClapWords.{new_app, new_rule, with_rule, with_subcommand}

-- a positional that has to be given
unfoldable pub wanted : Text → Rule
wanted id = record (new_rule id) { required = true }

-- a positional that reads a number from 0 to 6
unfoldable pub depth_rule : Rule
depth_rule = record (wanted (codes "DEPTH")) { parser = Some (parser.Signed (pos 0) (pos 6)) }

-- an option that reads a number from 1 to 15, and is 3 where it isn't given
unfoldable pub bound_rule : Rule
bound_rule = record (new_rule (codes "B")) {
  long = Some (codes "bound");
  parser = Some (parser.Signed (pos 1) (pos 15));
  defaults = codes "3" ∷ [];
}

-- the same, which need not be given
unfoldable pub import_bound_rule : Rule
import_bound_rule = record (new_rule (codes "B")) {
  long = Some (codes "bound");
  parser = Some (parser.Signed (pos 1) (pos 15));
}

-- the letters of men, which are English where it isn't given
unfoldable pub letters_rule : Rule
letters_rule = record (new_rule (codes "L")) { long = Some (codes "letters"); defaults = codes "en" ∷ [] }

-- the same, where that it isn't given counts
unfoldable pub open_letters_rule : Rule
open_letters_rule = record (new_rule (codes "L")) { long = Some (codes "letters") }

-- the letters of men in placements
unfoldable pub fen_letters_rule : Rule
fen_letters_rule = record (new_rule (codes "P")) { long = Some (codes "fen-letters") }

-- an option that has to be given, and reads a number from 1 to 16
unfoldable pub workers_rule : Rule
workers_rule = record (wanted (codes "N")) {
  long = Some (codes "workers");
  parser = Some (parser.Signed (pos 1) (pos 16));
}

-- the same of `solve` and `verify`, which is 1 where it isn't given
unfoldable pub solve_workers_rule : Rule
solve_workers_rule = record (new_rule (codes "N")) {
  long = Some (codes "workers");
  parser = Some (parser.Signed (pos 1) (pos 16));
  defaults = codes "1" ∷ [];
}

-- the same of `tree`, whose N is a number of lines
unfoldable pub tree_workers_rule : Rule
tree_workers_rule = record (new_rule (codes "W")) {
  long = Some (codes "workers");
  parser = Some (parser.Signed (pos 1) (pos 16));
  defaults = codes "1" ∷ [];
}

-- an option that reads a number from 1 to 65,536, and need not be given
unfoldable pub memo_rule : Rule
memo_rule = record (new_rule (codes "M")) { long = Some (codes "memo"); parser = Some (parser.Signed (pos 1) (pos 65536)) }

-- an option that takes any text, and need not be given
unfoldable pub memory_rule : Rule
memory_rule = record (new_rule (codes "SIZE")) { long = Some (codes "memory") }

-- an option that reads a number from 1 to 1,000,000,000, and is 1 where it isn't given
unfoldable pub from_rule : Rule
from_rule = record (new_rule (codes "K")) {
  long = Some (codes "from");
  parser = Some (parser.Signed (pos 1) (pos 1000000000));
  defaults = codes "1" ∷ [];
}

-- an option that reads a number from 1 to 86,400, and need not be given
unfoldable pub limit_rule : Rule
limit_rule = record (new_rule (codes "S")) { long = Some (codes "limit"); parser = Some (parser.Signed (pos 1) (pos 86400)) }

-- an option that reads a number from 1 to 15, and need not be given
unfoldable pub shown_rule : Rule
shown_rule = record (new_rule (codes "D")) {
  long = Some (codes "moves");
  parser = Some (parser.Signed (pos 1) (pos 15));
}

-- an option that reads a number from 1 to 1,000,000, and need not be given
unfoldable pub most_lines_rule : Rule
most_lines_rule = record (new_rule (codes "N")) {
  long = Some (codes "lines");
  parser = Some (parser.Signed (pos 1) (pos 1000000));
}

-- an option without a value
unfoldable pub flag_rule : Text → Rule
flag_rule name = record (new_rule name) { long = Some name; action = Some SetTrue }

-- the title of a page, which is such a one where it isn't given
unfoldable pub title_rule : Rule
title_rule = record (new_rule (codes "T")) { long = Some (codes "title"); defaults = codes "Chess problems" ∷ [] }

-- no word, or one or more
unfoldable pub words_rule : Text → Rule
words_rule id = record (new_rule id) { range = Some (record { start_inclusive = 0; end_inclusive = usize_max }) }

-- one name or more
unfoldable pub files_rule : Rule
files_rule = record (wanted (codes "FILE")) { range = Some (record { start_inclusive = 1; end_inclusive = usize_max }) }

-- with the size of memos: as a number of entries, or as memory
unfoldable pub with_memo_options : App → App
with_memo_options a = with_rule (with_rule a memo_rule) memory_rule

-- with the options of `solve`, `sheet` and `serve`: the bound, and the size of memos
unfoldable pub with_solving_options : App → App
with_solving_options a = with_memo_options (with_rule a bound_rule)

-- whether it is told how far the command is
abbrev pub progress_rule : Rule
progress_rule = flag_rule (codes "progress")

-- with what says that the files are none, but records themselves
unfoldable pub with_given_records : App → App
with_given_records a = with_rule (with_rule a (flag_rule (codes "record"))) (flag_rule (codes "fen"))

-- with what is read line by line: files, the number of the line that is the first to be answered, and whether it is told how far that is
unfoldable pub with_lines_of_files : App → App
with_lines_of_files a = with_rule (with_given_records (with_rule (with_rule a from_rule) progress_rule)) files_rule

unfoldable pub solve_app : App
solve_app = with_lines_of_files
    (with_rule (with_rule (with_rule (with_solving_options (new_app (codes "solve"))) limit_rule) solve_workers_rule)
    (flag_rule (codes "json")))

-- with the options of problems that are imported: that they are, and the letters of men
unfoldable pub with_imported_options : App → App
with_imported_options a = with_rule (with_rule (with_rule a (flag_rule (codes "import"))) open_letters_rule) fen_letters_rule

-- with what `verify` may do beside its rows: imported problems, the names of fields, and JSON in place of rows
unfoldable pub with_row_options : App → App
with_row_options a = with_rule (with_rule (with_imported_options a) (flag_rule (codes "header"))) (flag_rule (codes "json"))

unfoldable pub verify_app : App
verify_app = with_lines_of_files
    (with_row_options
    (with_rule (with_rule (with_memo_options (with_rule (new_app (codes "verify")) import_bound_rule)) limit_rule) solve_workers_rule))

-- with the options of `tree`: the bound, and what is shown
unfoldable pub with_tree_options : App → App
with_tree_options a =
    with_rule (with_rule (with_rule (with_rule (with_rule (with_rule (with_rule (with_rule (with_rule a bound_rule) shown_rule)
    (flag_rule (codes "defences"))) (flag_rule (codes "set-play"))) (flag_rule (codes "tries"))) (flag_rule (codes "column")))
    (flag_rule (codes "figurines"))) letters_rule) most_lines_rule

unfoldable pub tree_app : App
tree_app =
    with_lines_of_files
    (with_rule (with_rule (with_rule (with_tree_options (new_app (codes "tree"))) limit_rule) tree_workers_rule) (flag_rule (codes "json")))

-- with what a page may have beside its diagrams
unfoldable pub with_sheet_flags : App → App
with_sheet_flags a = with_rule (with_rule a (flag_rule (codes "solutions"))) (flag_rule (codes "figurines"))

-- with the options of `sheet`: these, the letters of men, and the title
unfoldable pub with_sheet_options : App → App
with_sheet_options a = with_rule (with_rule (with_sheet_flags a) letters_rule) title_rule

unfoldable pub sheet_app : App
sheet_app = with_rule (with_solving_options (with_sheet_options (new_app (codes "sheet")))) files_rule

unfoldable pub import_app : App
import_app =
    with_rule (with_rule (with_rule (with_rule (with_rule (new_app (codes "import")) (flag_rule (codes "keep"))) import_bound_rule) open_letters_rule)
    fen_letters_rule) files_rule

unfoldable pub serve_app : App
serve_app =
    with_rule (with_rule (with_solving_options (with_rule (new_app (codes "serve")) workers_rule)) progress_rule)
    files_rule

unfoldable pub look_app : App
look_app =
    with_rule (with_rule (with_rule (with_rule (new_app (codes "look")) (flag_rule (codes "board"))) (flag_rule (codes "flip")))
    (flag_rule (codes "svg"))) (wanted (codes "FEN"))

unfoldable pub play_app : App
play_app = with_rule (with_rule (new_app (codes "play")) (wanted (codes "FEN"))) (words_rule (codes "MOVE"))

unfoldable pub moves_app : App
moves_app = with_rule (with_rule (with_rule (with_rule (new_app (codes "moves")) (flag_rule (codes "coordinates")))
    (flag_rule (codes "fen"))) (flag_rule (codes "json"))) (wanted (codes "FEN"))

unfoldable pub perft_app : App
perft_app = with_rule (with_rule (with_rule (new_app (codes "perft")) (flag_rule (codes "divide"))) (wanted (codes "FEN"))) depth_rule

-- the commands that answer lines of positions
unfoldable pub look_lines_app : App
look_lines_app =
    with_rule (with_rule (with_rule (new_app (codes "look --lines")) (flag_rule (codes "board"))) (flag_rule (codes "flip"))) files_rule

unfoldable pub moves_lines_app : App
moves_lines_app = with_rule (new_app (codes "moves --lines")) files_rule

unfoldable pub perft_lines_app : App
perft_lines_app = with_rule (with_rule (new_app (codes "perft --lines")) depth_rule) files_rule

unfoldable pub explain_app : App
explain_app = with_rule (new_app (codes "explain")) (words_rule (codes "WORD"))

unfoldable pub uci_app : App
uci_app = new_app (codes "uci")

unfoldable pub replay_app : App
replay_app = with_rule (new_app (codes "replay")) (wanted (codes "SCRIPT"))

-- the program's own options: a version, a command that has to be given, and no command `help`
unfoldable pub bare_app : App
bare_app = record (new_app (codes "matedesk")) {
  top = record (new_app (codes "matedesk")).top {
    has_version = true;
    subcommand_required = true;
    disable_help_subcommand = true;
  };
}

-- with the commands that show a position or its moves
unfoldable pub with_fen_apps : App → App
with_fen_apps a = with_subcommand (with_subcommand (with_subcommand a look_app.top) play_app.top) moves_app.top

-- with those that do so of each line of files
unfoldable pub with_line_apps : App → App
with_line_apps a = with_subcommand (with_subcommand (with_subcommand a look_lines_app.top) moves_lines_app.top) perft_lines_app.top

-- with the command that counts lines, and the one that explains faults
unfoldable pub with_other_apps : App → App
with_other_apps a = with_subcommand (with_subcommand a perft_app.top) explain_app.top

-- with the commands that answer the records of files one after the other
unfoldable pub with_record_apps : App → App
with_record_apps a = with_subcommand (with_subcommand (with_subcommand a solve_app.top) verify_app.top) tree_app.top

-- and with that which makes records
unfoldable pub with_problem_apps : App → App
with_problem_apps a = with_subcommand (with_record_apps a) import_app.top

-- with those on threads, and at a desk
unfoldable pub with_desk_apps : App → App
with_desk_apps a = with_subcommand (with_subcommand (with_subcommand a serve_app.top) replay_app.top) uci_app.top

-- with the one that makes a page of the records of files
unfoldable pub with_page_apps : App → App
with_page_apps a = with_subcommand a sheet_app.top

-- the whole command line
unfoldable pub desk_app : App
desk_app = with_page_apps (with_line_apps (with_other_apps (with_fen_apps (with_desk_apps (with_problem_apps bare_app)))))

-- no argument of the command is global
abbrev pub IsLocal : Command → Type 0
IsLocal c = (fields_of c).has_globals ≡ false

-- What a proof unfolds to compute what is asked by words that are written out.
use Rattle.std.specs.Prelude.{⊤}
use Rattle.clap.proofs.OnLiterals.{clap_on_literals}
use Rattle.command_words.specs.Asked.{depth_in, bound_in, workers_in, number_or_zero, memo_size_in, from_in, is_given, side_in}
use Rattle.command_words.specs.Asked.{look_in, play_in, form_in, moves_in, perft_in, lines_in, look_lines_in, perft_lines_in}
use Rattle.command_words.specs.Asked.{letters_asked, has_letters_asked, limit_in, solve_in, verify_in, tree_form_in, tree_in, sheet_form_in, sheet_in, sheet_with, import_in}
use Rattle.command_words.specs.Asked.{tree_workers_in, serve_in, asked_by, desk_asked_by, lines_asked_by, records_asked_by}
use Rattle.command_words.specs.ClapWords.{app_of, rule_of, new_app, new_rule, with_rule, with_subcommand}
use Rattle.command_words.specs.CommandLine.{wanted, depth_rule, bound_rule, import_bound_rule, workers_rule, solve_workers_rule, memo_rule, memory_rule}
use Rattle.command_words.specs.CommandLine.{letters_rule, open_letters_rule, fen_letters_rule, tree_workers_rule, with_row_options, with_imported_options}
use Rattle.command_words.specs.CommandLine.{from_rule, limit_rule, shown_rule, most_lines_rule, flag_rule, title_rule, words_rule, files_rule, with_memo_options, with_solving_options}
use Rattle.command_words.specs.CommandLine.{with_given_records, with_lines_of_files, solve_app, verify_app, with_tree_options, tree_app, with_sheet_flags}
use Rattle.command_words.specs.CommandLine.{with_sheet_options, sheet_app, import_app, serve_app, look_app, play_app, moves_app, perft_app}
use Rattle.command_words.specs.CommandLine.{look_lines_app, moves_lines_app, perft_lines_app, explain_app, uci_app, replay_app, bare_app}
use Rattle.command_words.specs.CommandLine.{with_fen_apps, with_line_apps, with_other_apps, with_record_apps, with_problem_apps}
use Rattle.command_words.specs.CommandLine.{with_desk_apps, with_page_apps, desk_app}

unfoldable pub desk_on_literals : ⊤
unfolding clap_on_literals depth_in bound_in workers_in tree_workers_in number_or_zero memo_size_in from_in is_given side_in look_in play_in form_in
    moves_in perft_in lines_in look_lines_in perft_lines_in limit_in solve_in verify_in tree_form_in tree_in sheet_form_in
    sheet_in sheet_with import_in serve_in asked_by desk_asked_by lines_asked_by records_asked_by app_of rule_of new_app new_rule with_rule
    with_subcommand wanted depth_rule bound_rule import_bound_rule workers_rule solve_workers_rule tree_workers_rule memo_rule memory_rule from_rule limit_rule
    letters_rule open_letters_rule fen_letters_rule letters_asked has_letters_asked with_imported_options with_row_options shown_rule most_lines_rule flag_rule title_rule words_rule files_rule with_memo_options with_solving_options with_given_records with_lines_of_files solve_app verify_app with_tree_options tree_app
    with_sheet_flags with_sheet_options sheet_app import_app serve_app look_app play_app moves_app perft_app look_lines_app
    moves_lines_app perft_lines_app explain_app uci_app replay_app bare_app with_fen_apps with_line_apps with_other_apps
    with_record_apps with_problem_apps with_desk_apps with_page_apps desk_app
desk_on_literals = tt

use Rattle.std.proofs.Common.{◌≡◌, ◌∙◌, ap, refl, true}
use Rattle.clap.specs.Words.{app_of, is_simple, is_simple_and_free}
use Rattle.command_words.specs.Asked.{asked_exactly, asks_display_exactly, may_display_exactly, records_given_exactly}
use Rattle.command_words.specs.ClapWords.{app_of as shut_app_of}
use Rattle.command_words.specs.CommandLine.{desk_app}
use Rattle.command_words.proofs.OnLiterals.{desk_on_literals}
use Rattle.command_words.proofs.Parsed.{asked_at_ok, clear_at_ok, display_at_err, misuse_at_err, none_at_err, records_at_ok}
use Rattle.command_words.proofs.parsing.parse.Goals as goal

desk_is_simple : is_simple desk_app ≡ true
unfolding desk_on_literals
desk_is_simple = refl

desk_is_free : is_simple_and_free desk_app ≡ true
unfolding desk_on_literals
desk_is_free = refl

pub returns-clause-ok : goal.returns-clause-ok
unfolding asked_exactly shut_app_of
returns-clause-ok c =
    let same : app_of c.in_ok-desk_command.field-0 ≡ desk_app = c.in_ok-desk_command.ensures in
    asked_at_ok _ desk_app same _ _ desk_is_simple c.try_get_matches_from.ensures.matches
    (c.try_get_matches_from.ensures.kinds (ap is_simple_and_free same ∙ desk_is_free))

pub returns-clause-records : goal.returns-clause-records
unfolding records_given_exactly shut_app_of
returns-clause-records c =
    let same : app_of c.in_ok-desk_command.field-0 ≡ desk_app = c.in_ok-desk_command.ensures in
    records_at_ok _ desk_app same _ _ desk_is_simple c.try_get_matches_from.ensures.matches

pub returns-clause-err : goal.returns-clause-err
unfolding asked_exactly shut_app_of
returns-clause-err c =
    let same : app_of c.in_ok-desk_command.field-0 ≡ desk_app = c.in_ok-desk_command.ensures in
    none_at_err _ desk_app same _ _
    (c.try_get_matches_from.ensures.kinds (ap is_simple_and_free same ∙ desk_is_free))

pub returns-clause-display : goal.returns-clause-display
unfolding may_display_exactly shut_app_of
returns-clause-display c =
    let same : app_of c.in_ok-desk_command.field-0 ≡ desk_app = c.in_ok-desk_command.ensures in
    display_at_err _ desk_app same _ _
    (c.try_get_matches_from.ensures.kinds (ap is_simple_and_free same ∙ desk_is_free))

pub returns-clause-misuse : goal.returns-clause-misuse
unfolding asks_display_exactly shut_app_of
returns-clause-misuse c =
    let same : app_of c.in_ok-desk_command.field-0 ≡ desk_app = c.in_ok-desk_command.ensures in
    misuse_at_err _ desk_app same _ _
    (c.try_get_matches_from.ensures.kinds (ap is_simple_and_free same ∙ desk_is_free))

pub returns-clause-clear : goal.returns-clause-clear
unfolding asks_display_exactly shut_app_of
returns-clause-clear c =
    let same : app_of c.in_ok-desk_command.field-0 ≡ desk_app = c.in_ok-desk_command.ensures in
    clear_at_ok _ desk_app same _ _
    (c.try_get_matches_from.ensures.kinds (ap is_simple_and_free same ∙ desk_is_free))

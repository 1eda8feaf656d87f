-- What is written before a file is opened: nothing.
use Rattle.std.proofs.Common.{◌≡◌, ℕ, Bool, true, false, List, [], ◌∷◌, ◌++◌, Option, refl}
use Rattle.std.proofs.KnownBytes.{Appends-kept, Appends-nil}
use Rattle.std.specs.Io.KnownBytes.{Keeps}
use Rattle.text_lines.specs.Replies.{IsReplyToFirst as IsReplyToFirstBy}
use Rattle.byte_streams.specs.declared.stops.Stop.TheVariants as stop
use Rattle.file_answers.proofs.Unopened.{answers_none, no_reply_on}
use Rattle.plain_commands.specs.PositionLines.{StopsLines, first_position_replies}
use Rattle.plain_commands.specs.declared.fen_commands.FenCommand.{FenCommand}
use Rattle.problem_import.specs.Imports.{IsImportOfFirst, none as nothing_imported}
use Rattle.problem_import.specs.Imported.{IsImportedOfFirst}
use Rattle.problem_import.specs.declared.import_letters.ImportLetters.{ImportLetters}
use Rattle.problem_import.specs.Sources.{AreSourced, AreSourcedFrom, at_end, at_line}
use Rattle.move_words.specs.declared.languages.Letters.{Letters}
use Rattle.plain_commands.specs.Imported.{StopsImporting, first_import_replies}
use Rattle.json_replies.specs.declared.replies.Form.{Form}
use Rattle.mate_tree.specs.declared.forms.Form.{Form as TreeForm}
use Rattle.json_commands.specs.JsonFiles.{StopsJson, first_file_replies, has_several as are_several}
use Rattle.text_lines.specs.Replies.{LineReplies}
use Rattle.plain_commands.specs.Told.{StopsTelling, StopsTellingLimited, TellsNone, first_limited_tree_replies, first_tree_replies}

pub no_position_reply : (command : FenCommand) (from : ℕ) (name input : List ℕ) → first_position_replies command from name input []
unfolding IsReplyToFirstBy
no_position_reply command from name input = (0, 0, (refl, refl))

pub lines_at_once : (holds : List ℕ → Option (List ℕ)) (refuses : List ℕ → Type 0) (command : FenCommand) (names : List (List ℕ))
    (old new : Option (List ℕ)) → Keeps old new
    → StopsLines holds refuses command names stop.NoMemory old new
lines_at_once holds refuses command names old new kept =
    record {
      gained = [];
      shows = answers_none holds _ _ 1 names (no_position_reply command);
      appends = Appends-kept old old new [] (Appends-nil old) kept;
    }

no_sources : (letters : Letters) (bound : Option ℕ) (before lines : List (List ℕ)) → AreSourcedFrom letters bound before lines []
no_sources letters bound before [] = at_end before [] false nothing_imported
no_sources letters bound before (line ∷ lines) =
    at_line before lines line [] [] false nothing_imported (no_sources letters bound (before ++ line ∷ []) lines)

pub no_import : (letters : ImportLetters) (keep : Bool) (bound : Option ℕ) (from : ℕ) (name input : List ℕ)
    → first_import_replies letters keep bound from name input []
unfolding AreSourced IsImportOfFirst IsImportedOfFirst IsReplyToFirstBy
no_import letters keep bound from name input =
    (([], [], false, (0, 0, (refl, refl)), nothing_imported, refl), no_sources letters.placements bound [] _)

pub imports_at_once : (holds : List ℕ → Option (List ℕ)) (refuses : List ℕ → Type 0) (letters : ImportLetters) (keep : Bool)
    (bound : Option ℕ) (names : List (List ℕ)) (old new : Option (List ℕ)) → Keeps old new
    → StopsImporting holds refuses letters keep bound names stop.NoMemory old new
imports_at_once holds refuses letters keep bound names old new kept = record {
  gained = [];
  shows = answers_none holds _ _ 1 names (no_import letters keep bound);
  appends = Appends-kept old old new [] (Appends-nil old) kept;
}

pub no_json_reply : (form : Form) (several : Bool) (replies : LineReplies) (from : ℕ) (name input : List ℕ)
    → first_file_replies form several replies from name input []
no_json_reply form several replies from name input = no_reply_on _ from input

pub json_at_once : (holds : List ℕ → Option (List ℕ)) (refuses : List ℕ → Type 0) (form : Form) (replies : LineReplies) (from : ℕ)
    (names : List (List ℕ)) (old new : Option (List ℕ)) → Keeps old new
    → StopsJson holds refuses form replies from names stop.NoMemory old new
json_at_once holds refuses form replies from names old new kept = record {
  gained = [];
  shows = answers_none holds _ _ from names (no_json_reply form (are_several names) replies);
  appends = Appends-kept old old new [] (Appends-nil old) kept;
}

pub no_tree_reply : (form : TreeForm) (bound from : ℕ) (name input : List ℕ) → first_tree_replies form bound from name input []
no_tree_reply form bound from name input = no_reply_on _ from input

pub no_limited_tree_reply : (stops : Type 0) (seconds : ℕ) (form : TreeForm) (bound from : ℕ) (name input : List ℕ)
    → first_limited_tree_replies stops seconds form bound from name input []
no_limited_tree_reply stops seconds form bound from name input = no_reply_on _ from input

pub tells_limited_at_once : (holds : List ℕ → Option (List ℕ)) (refuses : List ℕ → Type 0) (stops : Type 0) (seconds bound : ℕ)
    (form : TreeForm) (from : ℕ) (names : List (List ℕ)) (old new : Option (List ℕ)) → Keeps old new
    → StopsTellingLimited holds refuses stops seconds bound form from names stop.NoMemory old new
tells_limited_at_once holds refuses stops seconds bound form from names old new kept = record {
  gained = [];
  shows = answers_none holds _ _ from names (no_limited_tree_reply stops seconds form bound);
  appends = Appends-kept old old new [] (Appends-nil old) kept;
}

pub tells_none : TellsNone
tells_none holds bound form from names = answers_none holds _ _ from names (no_tree_reply form bound)

pub tells_at_once : (holds : List ℕ → Option (List ℕ)) (refuses : List ℕ → Type 0) (bound : ℕ) (form : TreeForm) (from : ℕ)
    (names : List (List ℕ)) (old new : Option (List ℕ)) → Keeps old new
    → StopsTelling holds refuses bound form from names stop.NoMemory old new
tells_at_once holds refuses bound form from names old new kept = record {
  gained = [];
  shows = tells_none holds bound form from names;
  appends = Appends-kept old old new [] (Appends-nil old) kept;
}

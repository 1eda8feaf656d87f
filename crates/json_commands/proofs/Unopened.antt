-- What is written before a file is opened: nothing.
use Rattle.std.proofs.Common.{ℕ, Bool, List, [], Option}
use Rattle.std.proofs.KnownBytes.{Appends-kept, Appends-nil}
use Rattle.std.specs.Io.KnownBytes.{Keeps}
use Rattle.byte_streams.specs.declared.stops.Stop.TheVariants as stop
use Rattle.file_answers.proofs.Unopened.{answers_none, no_reply_on}
use Rattle.json_replies.specs.declared.replies.Form.{Form}
use Rattle.text_lines.specs.Replies.{LineReplies}
use Rattle.json_commands.specs.JsonFiles.{StopsJson, first_file_replies, has_several}

pub no_file_reply : (form : Form) (several : Bool) (replies : LineReplies) (from : ℕ) (name input : List ℕ)
    → first_file_replies form several replies from name input []
no_file_reply form several replies from name input = no_reply_on _ from input

pub stops_at_once : (holds : List ℕ → Option (List ℕ)) (refuses : List ℕ → Type 0) (form : Form) (replies : LineReplies) (from : ℕ)
    (names : List (List ℕ)) (old new : Option (List ℕ)) → Keeps old new
    → StopsJson holds refuses form replies from names stop.NoMemory old new
stops_at_once holds refuses form replies from names old new kept = record {
  gained = [];
  shows = answers_none holds _ _ from names (no_file_reply form (has_several names) replies);
  appends = Appends-kept old old new [] (Appends-nil old) kept;
}

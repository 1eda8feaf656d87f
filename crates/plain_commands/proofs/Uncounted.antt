-- Where memory gives out for what is told at the end, all was shown before.
use Rattle.std.proofs.Common.{◌≡◌, ℕ, Bool, List, Option, subst}
use Rattle.std.specs.Bool.{⊤}
use Rattle.byte_streams.specs.declared.stops.Stop.TheVariants as stop
use Rattle.file_answers.specs.FileAnswers.{Answers, AnswersFirst}
use Rattle.file_answers.specs.Sources.{HoldsEach}
use Rattle.file_answers.specs.Writing.{Gains}
use Rattle.file_answers.proofs.AnsweredFiles.{all_answered}
use Rattle.problem_import.specs.declared.import_letters.ImportLetters.{ImportLetters}
use Rattle.plain_commands.specs.Imported.{StopsImporting, first_import_replies, import_replies}

pub imports_uncounted : HoldsEach → (holds : List ℕ → Option (List ℕ)) (refuses : List ℕ → Type 0) (letters : ImportLetters) (keep : Bool)
    (given : Option ℕ) (from : ℕ) (names : List (List ℕ)) (refused : Bool) (old new : Option (List ℕ)) → from ≡ 1
    → Gains (Answers holds (import_replies letters keep given) from names refused) old new
    → StopsImporting holds refuses letters keep given names stop.NoMemory old new
imports_uncounted each holds refuses letters keep given from names refused old new first gains =
    let Each = import_replies letters keep given in
    let First = first_import_replies letters keep given in
    subst (λ n. Gains (AnswersFirst holds Each First n names (λ _. ⊤)) old new) first (record {
      gained = gains.gained;
      shows = all_answered each holds Each First from names refused gains.gained gains.shows;
      appends = gains.appends;
    })

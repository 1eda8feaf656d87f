-- What is shown of files that are answered line by line, one after the other, and where that stops.
use Rattle.std.specs.Prelude.{◌≡◌, ◌+◌, ◌++◌, ℕ, Bool, List, [], ◌∷◌, Option, nat_lt, length, take, drop, ⊤}
use Rattle.byte_streams.specs.Inputs.{MayBe}
use Rattle.byte_streams.specs.declared.stops.Stop.{Stop}
use Rattle.byte_streams.specs.declared.stops.Stop.TheVariants.{NoMemory, Unreadable, Unwritable, NoReader}
use Rattle.file_answers.specs.Sources.{Holds}
use Rattle.file_answers.specs.Writing.{Gains, GainsPart}

-- What a file may be answered from the line of a number on: by this number, the file's name and its input the text, and how many lines are
-- refused.
abbrev pub FileReplies : Type 1
FileReplies = ℕ → List ℕ → List ℕ → List ℕ → ℕ → Type 0

-- What some of its first lines may be answered, likewise.
abbrev pub FirstReplies : Type 1
FirstReplies = ℕ → List ℕ → List ℕ → List ℕ → Type 0

-- What the inputs of files are answered, one after the other, and how many of their lines are refused: the first file from the line of such
-- a number on, and all others whole.
abbrev pub AreReplies : FileReplies → ℕ → (names inputs : List (List ℕ)) → List ℕ → ℕ → Type 0
AreReplies Replies from [] [] text refusals = (text ≡ []) × (refusals ≡ 0)
AreReplies Replies from (name ∷ names) (input ∷ inputs) text refusals = (here : List ℕ) × (count : ℕ) × (more : List ℕ) × (others : ℕ)
    × Replies from name input here count × AreReplies Replies 1 names inputs more others × (text ≡ here ++ more) × (refusals ≡ count + others)
AreReplies Replies from _ _ text refusals = ⊥

-- The same, and how many marks the replies have.
abbrev pub FileTold : Type 1
FileTold = ℕ → List ℕ → List ℕ → List ℕ → ℕ → ℕ → Type 0

-- what has no marks, or none that anybody counts
abbrev pub unmarked : FileReplies → FileTold
unmarked Replies from name input text refusals marks = Replies from name input text refusals

abbrev pub AreTold : FileTold → ℕ → (names inputs : List (List ℕ)) → List ℕ → (refusals marks : ℕ) → Type 0
AreTold Told from [] [] text refusals marks = (text ≡ []) × (refusals ≡ 0) × (marks ≡ 0)
AreTold Told from (name ∷ names) (input ∷ inputs) text refusals marks = (here : List ℕ) × (count : ℕ) × (few : ℕ) × (more : List ℕ) × (others : ℕ)
    × (rest : ℕ) × Told from name input here count few × AreTold Told 1 names inputs more others rest
    × (text ≡ here ++ more) × (refusals ≡ count + others) × (marks ≡ few + rest)
AreTold Told from _ _ text refusals marks = ⊥

-- The replies to what the names hold, and whether a line of it is refused.
pub record Answers (holds : List ℕ → Option (List ℕ)) (Replies : FileReplies) (from : ℕ) (names : List (List ℕ))
    (refused : Bool) (gained : List ℕ) : Type 0 where
  pub inputs : List (List ℕ)
  pub refusals : ℕ
  pub given : Holds holds names inputs
  pub are_replies : AreReplies Replies from names inputs gained refusals
  pub refusal : refused ≡ nat_lt 0 refusals

-- The same, and how many marks the replies have.
pub record AnswersTold (holds : List ℕ → Option (List ℕ)) (Told : FileTold) (from : ℕ) (names : List (List ℕ))
    (refused : Bool) (marks : ℕ) (gained : List ℕ) : Type 0 where
  pub inputs : List (List ℕ)
  pub refusals : ℕ
  pub given : Holds holds names inputs
  pub are_told : AreTold Told from names inputs gained refusals marks
  pub refusal : refused ≡ nat_lt 0 refusals

-- the number of the line from which on a file is answered that stands behind such inputs
abbrev pub from_behind : ℕ → List (List ℕ) → ℕ
from_behind from [] = from
from_behind from (input ∷ inputs) = 1

-- What some of the first lines of the first file are answered.
abbrev pub IsReplyIn : (List ℕ → Option (List ℕ)) → FirstReplies → ℕ → List (List ℕ) → List ℕ → Type 0
IsReplyIn holds First from [] text = text ≡ []
IsReplyIn holds First from (name ∷ names) text = (input : List ℕ) × MayBe (holds name) input × First from name input text

-- The replies to the first files, and to some of the first lines of the next: what there is to write where it stops there. The names
-- from that file on are such as `Stops` says.
pub record AnswersFirst (holds : List ℕ → Option (List ℕ)) (Replies : FileReplies) (First : FirstReplies) (from : ℕ)
    (names : List (List ℕ)) (Stops : List (List ℕ) → Type 0) (text : List ℕ) : Type 0 where
  pub inputs : List (List ℕ)
  pub whole : List ℕ
  pub refusals : ℕ
  pub part : List ℕ
  pub given : Holds holds (take (length inputs) names) inputs
  pub are_replies : AreReplies Replies from (take (length inputs) names) inputs whole refusals
  pub next : IsReplyIn holds First (from_behind from inputs) (drop (length inputs) names) part
  pub text_is : text ≡ whole ++ part
  pub stops : Stops (drop (length inputs) names)

-- The first of the names is one that may be refused.
abbrev pub FirstRefused : (List ℕ → Type 0) → List (List ℕ) → Type 0
FirstRefused refuses [] = ⊥
FirstRefused refuses (name ∷ names) = refuses name

-- What the output gained where it stops: the replies to first lines; where a file can't be read, which may be refused, to all lines
-- before that file; and where a write breaks off, a first part of such replies.
abbrev pub StopsAnswering : (List ℕ → Option (List ℕ)) → (List ℕ → Type 0) → FileReplies → FirstReplies → ℕ → List (List ℕ)
    → Stop → (old new : Option (List ℕ)) → Type 0
StopsAnswering holds refuses Replies First from names NoMemory old new = Gains (AnswersFirst holds Replies First from names (λ _. ⊤)) old new
StopsAnswering holds refuses Replies First from names Unreadable old new =
    Gains (AnswersFirst holds Replies First from names (FirstRefused refuses)) old new
StopsAnswering holds refuses Replies First from names Unwritable old new = GainsPart (AnswersFirst holds Replies First from names (λ _. ⊤)) old new
StopsAnswering holds refuses Replies First from names NoReader old new = GainsPart (AnswersFirst holds Replies First from names (λ _. ⊤)) old new

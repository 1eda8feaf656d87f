-- What `explain` shows.
use Rattle.std.specs.Prelude.{◌≡◌, ◌++◌, ◌∷◌, Bool, List, [], ℕ, Option, None, Some, true, false, codes, find, flat_map, map}
use Rattle.std.specs.Borrow.{Bor}
use Rattle.std.specs.Char.{is_ascii_whitespace}
use Rattle.std.specs.List.{slice_split}
use Rattle.std.specs.Str.{str_eq_ignore_ascii_case}
use Rattle.chess_views.specs.Lines.{line}
use Rattle.fault_explanations.specs.declared.explanations.Example.{Example}
use Rattle.fault_explanations.specs.declared.explanations.Explanation.{Explanation}

-- the code of a fault, and where it comes
unfoldable pub sentence : Explanation → List ℕ
sentence e = line (e.code.now ++ codes ": " ++ e.comes.now ++ codes ".")

abbrev pub example_text : Option Example → List ℕ
example_text None = []
example_text (Some e) = line (codes "\nExample:") ++ line e.faulty.now ++ line (codes "\nMended:") ++ line e.mended.now

-- the same, with what it means, and a text that has the fault beside the same mended
unfoldable pub explanation_text : Explanation → List ℕ
explanation_text e = sentence e ++ line e.means.now ++ example_text e.example

-- a sentence of each
unfoldable pub sentences : List Explanation → List ℕ
sentences explanations = flat_map sentence explanations

-- the explanation whose code this word is, in any case: of one group, and of the first of several that has one
unfoldable pub explanation_in : List Explanation → List ℕ → Option Explanation
explanation_in explanations word = find (λ e. str_eq_ignore_ascii_case e.code.now word) explanations

abbrev pub or_else : Option Explanation → Option Explanation → Option Explanation
or_else None other = other
or_else (Some e) other = Some e

abbrev pub explanation_of : List (Bor (List Explanation)) → List ℕ → Option Explanation
explanation_of [] word = None
explanation_of (g ∷ groups) word = or_else (explanation_in g.now word) (explanation_of groups word)

-- what is printed of a reply has its words between spaces, tabs and ends of lines
abbrev pub words_of : List ℕ → List (List ℕ)
words_of reply = slice_split is_ascii_whitespace reply

abbrev pub one_or_none : Option Explanation → List Explanation
one_or_none None = []
one_or_none (Some e) = e ∷ []

-- the explanations that words of a reply name, in the order of these words, and those of several
unfoldable pub named : List (Bor (List Explanation)) → List (List ℕ) → List Explanation
named groups words = flat_map (λ word. one_or_none (explanation_of groups word)) words

unfoldable pub named_in : List (Bor (List Explanation)) → List (List ℕ) → List Explanation
named_in groups replies = flat_map (λ reply. named groups (words_of reply)) replies

-- the sentence of the explanation whose code this word is
abbrev pub sentence_of : Option Explanation → List ℕ
sentence_of None = []
sentence_of (Some e) = sentence e

abbrev pub code_sentence : List (Bor (List Explanation)) → List ℕ → List ℕ
code_sentence groups word = sentence_of (explanation_of groups word)

-- the codes of faults and verdicts, group by group
abbrev pub field_codes : List (List ℕ)
field_codes = codes "FieldCount" ∷ codes "BadPlacement" ∷ codes "BadSide" ∷ codes "BadCastling" ∷ codes "BadTarget" ∷ codes "BadCounter" ∷ []

abbrev pub men_codes : List (List ℕ)
men_codes =
    codes "BadKings" ∷ codes "PawnOnEndRank" ∷ codes "TooManyMen" ∷ codes "RightWithoutMen" ∷ codes "TargetWithoutPawn" ∷
    codes "OpponentInCheck" ∷ []

abbrev pub move_codes : List (List ℕ)
move_codes = codes "NoSuchMove" ∷ []

abbrev pub line_codes : List (List ℕ)
line_codes =
    codes "TooLong" ∷ codes "NotPrintable" ∷ codes "Fen" ∷ codes "BadOpcode" ∷ codes "BadString" ∷ codes "MissingSemicolon" ∷
    codes "DoubleOpcode" ∷ []

abbrev pub problem_codes : List (List ℕ)
problem_codes = codes "BadBound" ∷ codes "BoundTooLarge" ∷ codes "BadAvoid" ∷ codes "NoMemory" ∷ []

abbrev pub verdict_codes : List (List ℕ)
verdict_codes =
    codes "TwoLengths" ∷ codes "undecided" ∷ codes "unsolvable" ∷ codes "unsolved" ∷ codes "short" ∷ codes "wrong" ∷ codes "cooked" ∷
    codes "unclaimed" ∷ codes "several" ∷ codes "sound" ∷ []

abbrev pub step_codes : List (List ℕ)
step_codes = codes "NoSuchSubmitter" ∷ codes "Closed" ∷ codes "Full" ∷ codes "NotAccepted" ∷ codes "Delivered" ∷ codes "Withdrawn" ∷ []

abbrev pub size_codes : List (List ℕ)
size_codes = codes "BadSubmitters" ∷ codes "BadRoom" ∷ codes "BadWindows" ∷ codes "NoThread" ∷ codes "NoSuchFault" ∷ codes "TimedOut" ∷ []

abbrev pub import_codes : List (List ℕ)
import_codes =
    codes "NoFen" ∷ codes "TwoFens" ∷ codes "NoBound" ∷ codes "TwoBounds" ∷ codes "BadStipulation" ∷ codes "WrongSide" ∷
    codes "OtherMen" ∷ codes "FairyCondition" ∷ codes "FairyPiece" ∷ codes "UnknownCommand" ∷ []

unfoldable pub known_codes : List (List (List ℕ))
known_codes = field_codes ∷ men_codes ∷ move_codes ∷ line_codes ∷ problem_codes ∷ verdict_codes ∷ step_codes ∷ size_codes ∷ import_codes ∷ []

-- what these explanations are called
abbrev pub codes_of : List Explanation → List (List ℕ)
codes_of explanations = map (λ e. e.code.now) explanations

-- These are the explanations of all codes that there are.
abbrev pub AreOfKnown : List (Bor (List Explanation)) → Type 0
AreOfKnown groups = map (λ g. codes_of g.now) groups ≡ known_codes

-- Each is explained, one after the other, with an empty line between each two; where there is none, nothing is, and that is a refusal.
abbrev pub ExplainsEach : List Explanation → Bool → List ℕ → Type 0
ExplainsEach [] false text = ⊥
ExplainsEach [] true text = text ≡ []
ExplainsEach (e ∷ more) false text = text ≡ explanation_text e ++ flat_map (λ next. line [] ++ explanation_text next) more
ExplainsEach (e ∷ more) true text = ⊥

-- Where no reply is given, explanations are listed, a sentence of each. Of replies each word that is a code is explained; and where there
-- is none, they are refused. What the explanations of these codes say is for a reader to judge.
abbrev pub Explains : List (List ℕ) → Bool → List ℕ → Type 0
Explains [] false text = (groups : List (Bor (List Explanation))) × AreOfKnown groups × (text ≡ flat_map (λ g. sentences g.now) groups)
Explains [] true text = ⊥
Explains (reply ∷ replies) refused text =
    (groups : List (Bor (List Explanation))) × AreOfKnown groups × ExplainsEach (named_in groups (reply ∷ replies)) refused text

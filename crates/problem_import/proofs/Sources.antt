-- Where what is found, open and printed comes from.
use Rattle.std.proofs.Common.{◌≡◌, ◌≢◌, ◌⊎◌, inl, inr, ℕ, ◌+◌, ◌≤◌, length, take, Bool, true, false, not, nat_le, List, [], ◌∷◌, ◌++◌}
use Rattle.std.proofs.Common.{Result, Ok, Err, IfOk, Option, None, Some}
use Rattle.std.proofs.Common.{◌==◌, eqb-true, refl, sym, ap, ◌∙◌, subst, arith, get_or, ◌<◌}
use Rattle.std.proofs.lemmas.Bool.{and_parts, leb-true}
use Rattle.std.proofs.lemmas.Slice.Eq.{bytes_eq-Decides}
use Rattle.std.specs.Prelude.{Contains, codes, if◌then◌else◌, ◌||◌}
use Rattle.std.specs.Str.{bytes_eq}
use Rattle.std.proofs.lemmas.List.{length-append}
use Rattle.std.proofs.lemmas.List.Elements.{All-get_or, All-nil, All-push, Contains-append_left, Contains-append_right, Contains-push}
use Rattle.chess_board.specs.Fens.{SpellsSetup}
use Rattle.chess_notation.specs.RecordFields.{line_fields}
use Rattle.chess_notation.specs.Records.{max_line}
use Rattle.chess_notation.specs.Words.{behind as behind_word, is_blank, word_at, words_in}
use Rattle.move_words.specs.declared.languages.Letters.{Letters}
use Rattle.problem_import.specs.Imports.{AreImported, IsNumber, none}
use Rattle.problem_import.specs.Letters.{IsTextOf}
use Rattle.problem_import.specs.Numbers.{said}
use Rattle.problem_import.specs.OliveProblems as olive
use Rattle.problem_import.specs.OliveProblems.{Said, line_onto}
use Rattle.problem_import.specs.PopeyeProblems as popeye
use Rattle.problem_import.specs.PopeyeProblems.{begins_next, command_of, ends_line, has_end, is_begin, said_onto, stands_for}
use Rattle.problem_import.specs.Sources.{at_end, at_line, behind_begin, behind_border, blank, game_waits, items_on, items_wait, move_line, of_game, of_line, of_olives, of_popeyes}
use Rattle.problem_import.specs.Sources.{first_tag, tag_line, too_long, words_on, words_wait}
use Rattle.problem_import.specs.Sources.{AreSourced, AreSourcedFrom, AreUpTo, GameSays, HasBrace, IsFenOf, IsGame, IsLast, IsOlives, IsPassed, IsPopeyes, IsProblemIn}
use Rattle.problem_import.specs.Sources.{IsSourced, IsUnbroken, MayGoOn, Says, SaysMoves, begins_problem, is_remark}
use Rattle.problem_import.specs.TagPairs.{EndsText, begins_with, is_tag_pair}
use Rattle.stipulations.specs.declared.asked.Asked.{Asked}
use Rattle.stipulations.specs.declared.asked.Asked.TheVariants.{Moves, Nothing}
use Rattle.problem_import.specs.declared.games.Game.{Game}
use Rattle.problem_import.specs.declared.findings.Finding.{Finding}
use Rattle.problem_import.specs.declared.reading.Open.{Open}
use Rattle.problem_import.specs.declared.reading.Open.TheVariants as opens
use Rattle.problem_import.specs.declared.reading.Reading.{Reading}
use Rattle.problem_import.specs.inside.Findings.{Asks, IsAsked}
use Rattle.problem_import.specs.declared.findings.Number.{Number}
use Rattle.problem_import.specs.declared.findings.Number.TheVariants as numbers
use Rattle.problem_import.specs.inside.KnownSources.{AreFrom, AsksMore, HasFen, IsAt, IsCountFrom, IsFoundBy, IsFoundFrom, IsFrom, IsGameOf, IsKnown}
use Rattle.problem_import.specs.inside.KnownSources.{IsKnownOf, IsMadeFrom, IsMoved, IsTagRead, IsTagged, IsWorded, looked_at, passed_over}
use Rattle.problem_import.specs.inside.KnownSources.{EndsOne, IsEndedFrom, IsOliveFrom, IsOpenFrom, KeepsFen}
use Rattle.problem_import.specs.inside.OpenProblems.{goes_on, has_begun, has_game, in_comment, is_game, is_olive, is_popeye}
use Rattle.problem_import.specs.declared.olive.OliveProblem.{OliveProblem}
use Rattle.problem_import.specs.declared.popeye.PopeyeProblem.{PopeyeProblem}
use Rattle.problem_import.specs.inside.ReadProblems.{AreRead, IsRead, KeepsItems, KeepsSaid, SetsUp}
use Rattle.problem_import.proofs.FieldTexts.{reads_position}
use Rattle.problem_import.proofs.GameNumbers.{either_way, said_at_end}
use Rattle.problem_import.proofs.Imports.{imported_for}
use Rattle.problem_import.proofs.ReadItems.{are_kept}
use Rattle.problem_import.proofs.ReadProblems.{read_kept}

-- ---- texts

pub from_moved : (letters : Letters) (given : Option ℕ) (lines : List (List ℕ)) (old new : List ℕ) (n : ℕ) → line_fields new ≡ line_fields old
    → IsFrom letters given lines old n → IsFrom letters given lines new n
unfolding IsFrom
from_moved letters given lines old new n same from p spells = from p (subst (λ f. SpellsSetup f p) same spells)

pub found_moved : (letters : Letters) (given : Option ℕ) (lines : List (List ℕ)) (old new : List ℕ) (number : Number)
    → line_fields new ≡ line_fields old → IsFoundBy letters given lines old number → IsFoundBy letters given lines new number
found_moved letters given lines old new (numbers.Said n) same from = from_moved letters given lines old new n same from
found_moved letters given lines old new numbers.Own same from = from_moved letters given lines old new 3 same from
found_moved letters given lines old new numbers.Unsaid same from = λ n is. from_moved letters given lines old new n same (from n is)

pub count_moved : (letters : Letters) (given : Option ℕ) (lines : List (List ℕ)) (old new : List ℕ) (moves : Option ℕ)
    → line_fields new ≡ line_fields old → IsCountFrom letters given lines old moves → IsCountFrom letters given lines new moves
unfolding IsCountFrom
count_moved letters given lines old new None same from = from
count_moved letters given lines old new (Some n) same from = from_moved letters given lines old new n same from

from_line : (letters : Letters) (given : Option ℕ) (lines : List (List ℕ)) (line text made : List ℕ) (n : ℕ) → IsLast lines line
    → IsTextOf line text → line_fields made ≡ line_fields text → IsNumber given line (said text) n → IsFrom letters given lines made n
unfolding IsFrom
from_line letters given lines line text made n among says same asks p spells sound =
    of_line line text among says (subst (λ f. SpellsSetup f p) same spells) asks

-- A text that is made of a line is of that, where it is to ask what the line says.
pub found_line : (letters : Letters) (given : Option ℕ) (lines : List (List ℕ)) (line text made : List ℕ) (number : Number)
    → IsLast lines line → IsTextOf line text → line_fields made ≡ line_fields text → IsAsked line (said text) number
    → IsFoundBy letters given lines made number
found_line letters given lines line text made (numbers.Said n) among says same asks =
    from_line letters given lines line text made n among says same (subst (λ a. IsNumber given line a n) (sym asks) refl)
found_line letters given lines line text made numbers.Own among says same asks =
    from_line letters given lines line text made 3 among says same
    (subst (λ a. IsNumber given line a 3) (sym asks.0) (inl (asks.1, refl)))
found_line letters given lines line text made numbers.Unsaid among says same asks = λ n is.
    from_line letters given lines line text made n among says same
    (subst (λ a. IsNumber given line a n) (sym asks.0) (inr (asks.1, is)))

pub fen_moved : (letters : Letters) (texts : List (List ℕ)) (old new : List ℕ) → line_fields new ≡ line_fields old → HasFen letters texts old
    → HasFen letters texts new
unfolding HasFen
fen_moved letters texts old new same (text, fen, among, begins, of, is) = (text, fen, among, begins, of, same ∙ is)

fen_has : (letters : Letters) (texts : List (List ℕ)) (text fen : List ℕ) → Contains texts text → begins_with 91 text ≡ true
    → IsFenOf letters text fen → HasFen letters texts fen
unfolding HasFen
fen_has letters texts text fen among begins is = (text, fen, among, begins, is, refl)

from_game : (letters : Letters) (given : Option ℕ) (lines own texts : List (List ℕ)) (has_moves : Bool) (made : List ℕ) (n : ℕ) → AreUpTo lines own
    → IsGame own texts has_moves → HasFen letters texts made → GameSays texts n ⊎ (given ≡ Some n) → IsFrom letters given lines made n
unfolding IsFrom HasFen
from_game letters given lines own texts has_moves made n up game (text, fen, among, begins, of, is) asks p spells sound =
    of_game own texts has_moves text fen up game among begins of (subst (λ f. SpellsSetup f p) is spells) asks

pub game_said : (letters : Letters) (given : Option ℕ) (lines own texts : List (List ℕ)) (has_moves : Bool) (made : List ℕ) (n : ℕ)
    → AreUpTo lines own → IsGame own texts has_moves → HasFen letters texts made → GameSays texts n
    → IsFoundBy letters given lines made (numbers.Said n)
game_said letters given lines own texts has_moves made n up game has says =
    from_game letters given lines own texts has_moves made n up game has (inl says)

pub game_unsaid : (letters : Letters) (given : Option ℕ) (lines own texts : List (List ℕ)) (has_moves : Bool) (made : List ℕ) → AreUpTo lines own
    → IsGame own texts has_moves → HasFen letters texts made → IsFoundBy letters given lines made numbers.Unsaid
game_unsaid letters given lines own texts has_moves made up game has =
    λ n is. from_game letters given lines own texts has_moves made n up game has (inr is)

pub from_popeyes : (letters : Letters) (given : Option ℕ) (lines own words : List (List ℕ)) (made : List ℕ) (n : ℕ) → AreUpTo lines own
    → IsPopeyes own words → SetsUp (popeye.man_on words) made → popeye.asked_in words ≡ Moves n
    → IsFoundBy letters given lines made (numbers.Said n)
unfolding IsFrom SetsUp
from_popeyes letters given lines own words made n up are sets is p spells sound = of_popeyes own words up are (sets p spells sound) is

pub from_olives : (letters : Letters) (given : Option ℕ) (lines own : List (List ℕ)) (said : List Said) (made : List ℕ) (n : ℕ) → AreUpTo lines own
    → IsOlives own said → SetsUp (olive.man_on said) made → olive.asked_in said ≡ Moves n
    → IsFoundBy letters given lines made (numbers.Said n)
unfolding IsFrom SetsUp
from_olives letters given lines own said made n up are sets is p spells sound = of_olives own said up are (sets p spells sound) is

-- ---- findings

pub none_from : (letters : Letters) (lines : List (List ℕ)) (findings : List Finding) → findings ≡ [] → AreFrom letters lines findings
unfolding AreFrom
none_from letters lines findings is = rw is (All-nil (λ (f : Finding). IsFoundFrom letters lines f.found))

pub one_from : (letters : Letters) (lines : List (List ℕ)) (old new : List Finding) (finding : Finding) → new ≡ old ++ finding ∷ []
    → AreFrom letters lines old → IsFoundFrom letters lines finding.found → AreFrom letters lines new
unfolding AreFrom
one_from letters lines old new finding is before one = rw is (All-push (λ (f : Finding). IsFoundFrom letters lines f.found) old finding before one)

pub from_at : (letters : Letters) (lines : List (List ℕ)) (findings : List Finding) (i : ℕ) (finding : Finding) → i < length findings
    → finding ≡ get_or findings i finding → AreFrom letters lines findings → IsFoundFrom letters lines finding.found
unfolding AreFrom
from_at letters lines findings i finding within is all =
    let P : Finding → Type 0 = λ f. IsFoundFrom letters lines f.found in
    subst P (sym is) (All-get_or P findings i finding within all)

-- ---- what is open

pub open_next : (letters : Letters) (lines : List (List ℕ)) (new next : Open) → new ≡ next → IsOpenFrom letters lines next
    → IsOpenFrom letters lines new
open_next letters lines new next is of = subst (IsOpenFrom letters lines) (sym is) of

pub ended_here : (letters : Letters) (lines : List (List ℕ)) (opened here : Open) → opened ≡ here → IsEndedFrom letters lines opened
    → IsEndedFrom letters lines here
ended_here letters lines opened here is of = subst (IsEndedFrom letters lines) is of

-- Whatever is open may end.
pub open_ended : (letters : Letters) (lines : List (List ℕ)) (opened : Open) → IsOpenFrom letters lines opened → IsEndedFrom letters lines opened
open_ended letters lines opens.Nothing of = of
open_ended letters lines (opens.Game game) of = of
open_ended letters lines (opens.Movetext movetext) of = of
open_ended letters lines (opens.Popeye problem) (words, are, of) = (words, are, of.read)
open_ended letters lines (opens.Olive problem) of = of

-- Where no game is open, no number says how it goes on.
pub known_open : (letters : Letters) (lines : List (List ℕ)) (new : Reading) → new.letters ≡ letters → IsOpenFrom letters lines new.open
    → has_game new.open ≡ false → IsKnown letters lines new
known_open letters lines new same of free = record {
  by = same;
  held = of;
  past = λ is. let no : false ≡ true = sym free ∙ is in cc;
  unbroken = λ is. let no : false ≡ true = sym free ∙ is in cc;
}

pub known_next : (letters : Letters) (lines : List (List ℕ)) (new : Reading) (next : Open) → new.letters ≡ letters → new.open ≡ next
    → IsOpenFrom letters lines next → has_game next ≡ false → IsKnown letters lines new
known_next letters lines new next same is of free =
    known_open letters lines new same (open_next letters lines new.open next is of) (ap has_game is ∙ free)

pub known_first : (letters : Letters) (new : Reading) → new.letters ≡ letters → new.open ≡ opens.Nothing → IsKnown letters [] new
known_first letters new same is = known_next letters [] new opens.Nothing same is tt refl

pub empty_is : (text : List ℕ) (is_empty : Bool) → is_empty ≡ (length text == 0) → is_empty ≡ true → text ≡ []
empty_is [] is_empty is empty = refl
empty_is (b ∷ bs) is_empty is empty = absurd (omega (arith, eqb-true (length (b ∷ bs)) 0 (sym is ∙ empty)))

pub filled_is : (text : List ℕ) (is_empty : Bool) → is_empty ≡ (length text == 0) → is_empty ≡ false → text ≢ []
filled_is text is_empty is filled empty = let no : true ≡ false = ap (λ t. length t == 0) (sym empty) ∙ sym is ∙ filled in cc

-- Behind a line that says something its number is noted.
pub known_read : (letters : Letters) (lines own : List (List ℕ)) (number : ℕ) (line text : List ℕ) (new : Reading) → IsAt lines own number line
    → IsTextOf line text → text ≢ [] → length line ≤ max_line → new.last ≡ number → new.letters ≡ letters → IsOpenFrom letters lines new.open
    → IsKnown letters lines new
known_read letters lines own number line text new (at, count) says some short last same of =
    let long : length lines ≡ length own + 1 = ap length at ∙ length-append own (line ∷ []) in
    record {
      by = same;
      held = of;
      past = λ is. omega (arith, long, count, last);
      unbroken = λ is up. (line, text, (own, at), says, some, short);
    }

-- ---- a line in which nothing is said

pub open_waits : (letters : Letters) (before : List (List ℕ)) (line : List ℕ) (opened : Open) → IsPassed line → IsOpenFrom letters before opened
    → IsOpenFrom letters (before ++ line ∷ []) opened
open_waits letters before line opens.Nothing pass of = tt
open_waits letters before line (opens.Game game) pass (texts, has_moves, own, of, tags) =
    (texts, has_moves, game_waits before texts has_moves line own pass, of, tags)
open_waits letters before line (opens.Movetext movetext) pass of = tt
open_waits letters before line (opens.Popeye problem) pass (words, own, of) = (words, words_wait before words line own pass, of)
open_waits letters before line (opens.Olive problem) pass (said, own, read) = (said, items_wait before said line own pass, read)

pub known_waits : (letters : Letters) (before : List (List ℕ)) (line : List ℕ) (reading : Reading) → IsPassed line → IsKnown letters before reading
    → IsKnown letters (before ++ line ∷ []) reading
known_waits letters before line reading pass known = record {
  by = known.by;
  held = open_waits letters before line reading.open pass known.held;
  past = λ is. omega (arith, known.past is, length-append before (line ∷ []));
  unbroken = λ is up. absurd (omega (arith, known.past is, up, length-append before (line ∷ [])));
}

-- ---- a line of a game

first_one : (texts : List (List ℕ)) (text : List ℕ) → Contains (text ∷ texts) text
first_one texts text = Contains-append_left (text ∷ []) texts text (Contains-push [] text)

later_one : (texts : List (List ℕ)) (text other : List ℕ) → Contains texts other → Contains (text ∷ texts) other
later_one texts text other among = Contains-append_right (text ∷ []) texts other among

fen_more : (letters : Letters) (texts : List (List ℕ)) (text made : List ℕ) → HasFen letters texts made → HasFen letters (text ∷ texts) made
unfolding HasFen
fen_more letters texts text made (other, fen, among, begins, of, is) = (other, fen, later_one texts text other among, begins, of, is)

says_more : (texts : List (List ℕ)) (text : List ℕ) (n : ℕ) → GameSays texts n → GameSays (text ∷ texts) n
says_more texts text n (other, among, says) = (other, later_one texts text other among, says)

brace_more : (texts : List (List ℕ)) (text : List ℕ) → HasBrace texts → HasBrace (text ∷ texts)
brace_more texts text (other, among, has) = (other, later_one texts text other among, has)

of_more : (letters : Letters) (texts : List (List ℕ)) (text : List ℕ) (game : Game) → IsGameOf letters texts game
    → IsGameOf letters (text ∷ texts) game
of_more letters texts text game of = record {
  fen = λ is. fen_more letters texts text game.fen.items (of.fen is);
  asked = λ n is. says_more texts text n (of.asked n is);
  stipulated = λ n is. says_more texts text n (of.stipulated n is);
  comment = λ is. brace_more texts text (of.comment is);
}

fen_taken : (letters : Letters) (texts : List (List ℕ)) (by : Letters) (text : List ℕ) (old new : Game) → by ≡ letters → begins_with 91 text ≡ true
    → ((new.has_fen ≡ old.has_fen) × (new.fen ≡ old.fen)) ⊎ IsFenOf by text new.fen.items
    → (old.has_fen ≡ true → HasFen letters texts old.fen.items) → new.has_fen ≡ true → HasFen letters (text ∷ texts) new.fen.items
fen_taken letters texts by text old new is begins (inl (has, same)) of on =
    fen_moved letters (text ∷ texts) old.fen.items new.fen.items (ap (λ v. line_fields v.items) same)
    (fen_more letters texts text old.fen.items (of (sym has ∙ on)))
fen_taken letters texts by text old new is begins (inr fen) of on =
    fen_has letters (text ∷ texts) text new.fen.items (first_one texts text) begins (subst (λ l. IsFenOf l text new.fen.items) is fen)

of_taken : (letters : Letters) (texts : List (List ℕ)) (by : Letters) (text : List ℕ) (old new : Game) → by ≡ letters → begins_with 91 text ≡ true
    → ((new.has_fen ≡ old.has_fen) × (new.fen ≡ old.fen)) ⊎ IsFenOf by text new.fen.items → AsksMore (SaysMoves text) old new
    → new.in_comment ≡ old.in_comment → IsGameOf letters texts old → IsGameOf letters (text ∷ texts) new
of_taken letters texts by text old new is begins fen (more, others) comment of = record {
  fen = fen_taken letters texts by text old new is begins fen of.fen;
  asked = λ n asks. either_way (λ it. says_more texts text n (of.asked n it)) (λ it. (text, first_one texts text, it)) (more n asks);
  stipulated = λ n asks. either_way (λ it. says_more texts text n (of.stipulated n it)) (λ it. (text, first_one texts text, it)) (others n asks);
  comment = λ is. brace_more texts text (of.comment (sym comment ∙ is));
}

tag_taken : (own texts : List (List ℕ)) (line text : List ℕ) → Says line text → begins_with 91 text ≡ true
    → (texts ≡ []) ⊎ (IsGame own texts false × IsUnbroken own) → IsGame (own ++ line ∷ []) (text ∷ texts) false
tag_taken own texts line text says begins (inl first) =
    subst (λ ts. IsGame (own ++ line ∷ []) (text ∷ ts) false) (sym first) (first_tag own line text says begins)
tag_taken own texts line text says begins (inr (game, on)) = tag_line own texts line text game on says begins

-- Tag pairs that were read are the game's.
pub tags_read : (letters : Letters) (lines own : List (List ℕ)) (line text rest : List ℕ) (by : Letters) (old new : Game) → by ≡ letters
    → lines ≡ own ++ line ∷ [] → Says line text → begins_with 91 text ≡ true → IsTagged letters own (opens.Game old)
    → ((new.has_fen ≡ old.has_fen) × (new.fen ≡ old.fen)) ⊎ IsFenOf by text new.fen.items → AsksMore (SaysMoves text) old new
    → new.in_comment ≡ old.in_comment → EndsText rest text → IsTagRead letters lines rest (opens.Game new)
tags_read letters lines own line text rest by old new same is says begins (texts, of, on) fen asks comment ends = (
  text ∷ texts,
  subst (λ ls. IsGame ls (text ∷ texts) false) (sym is) (tag_taken own texts line text says begins on),
  of_taken letters texts by text old new same begins fen asks comment of,
  (text, first_one texts text, ends),
)

pub tagged_game : (letters : Letters) (own : List (List ℕ)) (opened : Open) → IsTagged letters own opened → (game : Game) × (opened ≡ opens.Game game)
tagged_game letters own opens.Nothing never = absurd never
tagged_game letters own (opens.Game game) of = (game, refl)
tagged_game letters own (opens.Movetext movetext) never = absurd never
tagged_game letters own (opens.Popeye problem) never = absurd never
tagged_game letters own (opens.Olive problem) never = absurd never

pub tags_moved : (letters : Letters) (lines : List (List ℕ)) (rest : List ℕ) (opened : Open) → IsTagRead letters lines rest opened
    → IsMoved letters lines rest opened
tags_moved letters lines rest opens.Nothing never = absurd never
tags_moved letters lines rest (opens.Game game) (texts, own, of, ends) = (texts, false, own, of, ends)
tags_moved letters lines rest (opens.Movetext movetext) never = absurd never
tags_moved letters lines rest (opens.Popeye problem) never = absurd never
tags_moved letters lines rest (opens.Olive problem) never = absurd never

pub tags_open : (letters : Letters) (lines : List (List ℕ)) (rest : List ℕ) (opened : Open) → IsTagRead letters lines rest opened
    → IsOpenFrom letters lines opened
tags_open letters lines rest opens.Nothing never = absurd never
tags_open letters lines rest (opens.Game game) (texts, own, of, ends) = (texts, false, own, of, λ _. refl)
tags_open letters lines rest (opens.Movetext movetext) never = absurd never
tags_open letters lines rest (opens.Popeye problem) never = absurd never
tags_open letters lines rest (opens.Olive problem) never = absurd never

not_true : (b : Bool) → not b ≡ true → b ≡ false
not_true true is = let no : false ≡ true = is in cc
not_true false is = refl

-- Tag pairs that go on are the open game's.
pub tagged_on : (letters : Letters) (own : List (List ℕ)) (opened : Open) (last number : ℕ) → goes_on opened last number ≡ true
    → length own + 1 ≡ number → IsOpenFrom letters own opened → (has_game opened ≡ true → length own ≤ last → IsUnbroken own)
    → IsTagged letters own opened
tagged_on letters own opens.Nothing last number on at of unbroken = let no : false ≡ true = on in cc
tagged_on letters own (opens.Game game) last number on at (texts, has_moves, game_own, of, tags) unbroken =
    let parts = and_parts (not game.is_begun) (nat_le number (last + 1)) on in
    let up : number ≤ last + 1 = leb-true number (last + 1) parts.1 in (
      texts,
      of,
      inr (
        subst (IsGame own texts) (tags (not_true game.is_begun parts.0)) game_own,
        unbroken refl (omega (arith, at, up)),
      ),
    )
tagged_on letters own (opens.Movetext movetext) last number on at of unbroken = let no : false ≡ true = on in cc
tagged_on letters own (opens.Popeye problem) last number on at of unbroken = let no : false ≡ true = on in cc
tagged_on letters own (opens.Olive problem) last number on at of unbroken = let no : false ≡ true = on in cc

-- A game without a tag pair has nothing.
pub tagged_new : (letters : Letters) (own : List (List ℕ)) (game : Game) → game.has_fen ≡ false → game.asked ≡ Nothing → game.stipulated ≡ None
    → game.in_comment ≡ false → IsTagged letters own (opens.Game game)
tagged_new letters own game fen asked stipulated comment = (
  [],
  record {
    fen = λ is. let no : false ≡ true = sym fen ∙ is in cc;
    asked = λ n is. let no : Nothing ≡ Moves n = sym asked ∙ is in cc;
    stipulated = λ n is. let no : None ≡ Some (Moves n) = sym stipulated ∙ is in cc;
    comment = λ is. let no : false ≡ true = sym comment ∙ is in cc;
  },
  inl refl,
)

may_if : (own texts : List (List ℕ)) (has_moves begun : Bool) → (begun ≡ false → has_moves ≡ false) → (begun ≡ true → IsUnbroken own)
    → MayGoOn own texts has_moves
may_if own texts has_moves true tags on = inr (inl (on refl))
may_if own texts has_moves false tags on = inl (tags refl)

move_of : (letters : Letters) (lines own texts : List (List ℕ)) (has_moves : Bool) (line text : List ℕ) (game : Game) → lines ≡ own ++ line ∷ []
    → Says line text → is_tag_pair text ≡ false → IsGame own texts has_moves → MayGoOn own texts has_moves → IsGameOf letters texts game
    → IsMoved letters lines text (opens.Game game)
move_of letters lines own texts has_moves line text game is says no_tag game_own may of = (
  text ∷ texts,
  true,
  subst (λ ls. IsGame ls (text ∷ texts) true) (sym is) (move_line own texts has_moves line text game_own may says no_tag),
  of_more letters texts text game of,
  (text, first_one texts text, ([], refl)),
)

-- A line of movetext is the game's: behind one in which something stands, or the first of them.
pub moves_read : (letters : Letters) (lines own : List (List ℕ)) (line text : List ℕ) (opened : Open) → is_game opened ≡ true
    → (has_game opened ≡ true → has_begun opened ≡ true → IsUnbroken own) → lines ≡ own ++ line ∷ [] → Says line text → is_tag_pair text ≡ false
    → IsOpenFrom letters own opened → IsMoved letters lines text opened
moves_read letters lines own line text opens.Nothing on may is says no_tag of = let no : false ≡ true = on in cc
moves_read letters lines own line text (opens.Game game) on may is says no_tag (texts, has_moves, game_own, of, tags) =
    move_of letters lines own texts has_moves line text game is says no_tag game_own (may_if own texts has_moves game.is_begun tags (may refl)) of
moves_read letters lines own line text (opens.Movetext movetext) on may is says no_tag of = tt
moves_read letters lines own line text (opens.Popeye problem) on may is says no_tag of = let no : false ≡ true = on in cc
moves_read letters lines own line text (opens.Olive problem) on may is says no_tag of = let no : false ≡ true = on in cc

-- So is one in a comment.
pub comment_read : (letters : Letters) (lines own : List (List ℕ)) (line text : List ℕ) (opened : Open) → in_comment opened ≡ true
    → lines ≡ own ++ line ∷ [] → Says line text → is_tag_pair text ≡ false → IsOpenFrom letters own opened → IsMoved letters lines text opened
comment_read letters lines own line text opens.Nothing on is says no_tag of = let no : false ≡ true = on in cc
comment_read letters lines own line text (opens.Game game) on is says no_tag (texts, has_moves, game_own, of, tags) =
    move_of letters lines own texts has_moves line text game is says no_tag game_own (inr (inr (of.comment on))) of
comment_read letters lines own line text (opens.Movetext movetext) on is says no_tag of = tt
comment_read letters lines own line text (opens.Popeye problem) on is says no_tag of = let no : false ≡ true = on in cc
comment_read letters lines own line text (opens.Olive problem) on is says no_tag of = let no : false ≡ true = on in cc

brace_at_end : (texts : List (List ℕ)) (rest : List ℕ) → EndsOne texts rest → Contains rest 123 → HasBrace texts
brace_at_end texts rest (text, among, ends) has =
    let (front, is) = ends in (text, among, subst (λ t. Contains t 123) (sym is) (Contains-append_right front rest 123 has))

-- A game of which movetext was taken.
pub game_moved : (letters : Letters) (lines : List (List ℕ)) (rest : List ℕ) (old new : Game) → KeepsFen old new → AsksMore (SaysMoves rest) old new
    → new.is_begun ≡ true → (new.in_comment ≡ true → (old.in_comment ≡ true) ⊎ Contains rest 123) → IsMoved letters lines rest (opens.Game old)
    → IsOpenFrom letters lines (opens.Game new)
game_moved letters lines rest old new (has, same) (more, others) begun comment (texts, has_moves, own, of, ends) = (
  texts,
  has_moves,
  own,
  record {
    fen = λ is. fen_moved letters texts old.fen.items new.fen.items same (of.fen (sym has ∙ is));
    asked = λ n is. either_way (of.asked n) (said_at_end texts rest n ends) (more n is);
    stipulated = λ n is. either_way (of.stipulated n) (said_at_end texts rest n ends) (others n is);
    comment = λ is. either_way of.comment (brace_at_end texts rest ends) (comment is);
  },
  λ is. let no : true ≡ false = sym begun ∙ is in cc,
)

-- Where no game is open whose movetext may come, it is passed over.
pub moved_open : (letters : Letters) (lines : List (List ℕ)) (rest : List ℕ) (opened : Open) → ((game : Game) → opened ≡ opens.Game game → ⊥)
    → IsMoved letters lines rest opened → IsOpenFrom letters lines opened
moved_open letters lines rest opens.Nothing other never = absurd never
moved_open letters lines rest (opens.Game game) other of = absurd (other game refl)
moved_open letters lines rest (opens.Movetext movetext) other of = tt
moved_open letters lines rest (opens.Popeye problem) other never = absurd never
moved_open letters lines rest (opens.Olive problem) other never = absurd never

-- ---- a line of a problem that is set up

pub worded : (letters : Letters) (own : List (List ℕ)) (opened : Open) → is_popeye opened ≡ true → IsOpenFrom letters own opened
    → (words : List (List ℕ)) × IsPopeyes own words × (has_end words ≡ false) × IsWorded words opened
worded letters own opens.Nothing on of = let no : false ≡ true = on in cc
worded letters own (opens.Game game) on of = let no : false ≡ true = on in cc
worded letters own (opens.Movetext movetext) on of = let no : false ≡ true = on in cc
worded letters own (opens.Popeye problem) on (words, are, of) = (words, are, of.on, of)
worded letters own (opens.Olive problem) on of = let no : false ≡ true = on in cc

pub worded_popeye : (words : List (List ℕ)) (opened : Open) → IsWorded words opened → (problem : PopeyeProblem) × (opened ≡ opens.Popeye problem)
worded_popeye words opens.Nothing never = absurd never
worded_popeye words (opens.Game game) never = absurd never
worded_popeye words (opens.Movetext movetext) never = absurd never
worded_popeye words (opens.Popeye problem) of = (problem, refl)
worded_popeye words (opens.Olive problem) never = absurd never

pub olive_on : (own : List (List ℕ)) (opened : Open) → ((problem : OliveProblem) → opened ≡ opens.Olive problem → ⊥) → is_olive opened ≡ true → ⊥
olive_on own opens.Nothing other is = let no : false ≡ true = is in cc
olive_on own (opens.Game game) other is = let no : false ≡ true = is in cc
olive_on own (opens.Movetext movetext) other is = let no : false ≡ true = is in cc
olive_on own (opens.Popeye problem) other is = let no : false ≡ true = is in cc
olive_on own (opens.Olive problem) other is = other problem refl

-- A line of a problem of Olive's that doesn't end it.
pub items_taken : (lines own : List (List ℕ)) (said : List Said) (line text : List ℕ) (ends : Bool) (new : OliveProblem) → ends ≡ false
    → lines ≡ own ++ line ∷ [] → Says line text → is_remark text ≡ false → begins_problem text ≡ false → IsOlives own said
    → AreRead (if ends then said else line_onto text said) new → IsOliveFrom lines new
items_taken lines own said line text ends new is at says plain other are read = (
  line_onto text said,
  subst (λ ls. IsOlives ls (line_onto text said)) (sym at) (items_on own said line text are says plain other),
  subst (λ b. AreRead (if b then said else line_onto text said) new) is read,
)

-- ---- how problems begin

pub begins_none : (text : List ℕ) (is_border begins : Bool) → is_tag_pair text ≡ false → is_border ≡ bytes_eq text (codes "---")
    → is_border ≡ false → begins ≡ is_begin (command_of (word_at text)) → begins ≡ false → begins_problem text ≡ false
begins_none text is_border begins no_tag border no_border named other =
    ap (λ b. b || (bytes_eq text (codes "---") || is_begin (command_of (word_at text)))) no_tag
    ∙ ap (λ b. b || is_begin (command_of (word_at text))) (sym border ∙ no_border) ∙ sym named ∙ other

-- A problem of Olive's, behind its first line.
pub border_begun : (lines own : List (List ℕ)) (line text : List ℕ) → lines ≡ own ++ line ∷ [] → Says line text
    → bytes_eq text (codes "---") ≡ true → IsOlives lines []
border_begun lines own line text at says is =
    subst (λ ls. IsOlives ls []) (sym at) (behind_border own line (subst (Says line) ((bytes_eq-Decides text (codes "---")).0 is) says))

-- A line of a problem for Popeye.
pub words_taken : (lines own words : List (List ℕ)) (line text : List ℕ) → lines ≡ own ++ line ∷ [] → Says line text → is_remark text ≡ false
    → begins_problem text ≡ false → begins_with 91 text ≡ false → IsPopeyes own words → has_end words ≡ false
    → IsPopeyes lines (said_onto (words_in text) words)
words_taken lines own words line text at says plain other no_tag are on =
    subst (λ ls. IsPopeyes ls (said_onto (words_in text) words)) (sym at) (words_on own words line text are on says plain other no_tag)

no_olive : (opened : Open) → is_popeye opened ≡ true → is_olive opened ≡ false
no_olive opens.Nothing is = refl
no_olive (opens.Game game) is = refl
no_olive (opens.Movetext movetext) is = refl
no_olive (opens.Popeye problem) is = refl
no_olive (opens.Olive problem) is = let no : false ≡ true = is in cc

-- Where no problem of Olive's is open, no line begins with a bracket that isn't a game's.
pub no_bracket : (opened : Open) (text : List ℕ) → is_popeye opened ≡ true → (is_olive opened ≡ false → begins_with 91 text ≡ false)
    → begins_with 91 text ≡ false
no_bracket opened text is other = other (no_olive opened is)

-- The first problem for Popeye.
pub first_begun : (lines own : List (List ℕ)) (line text rest : List ℕ) → lines ≡ own ++ line ∷ [] → Says line text
    → is_begin (command_of (word_at text)) ≡ true → rest ≡ behind_word text → IsPopeyes lines (said_onto (words_in rest) [])
first_begun lines own line text rest at says begins behind_it =
    subst (λ r. IsPopeyes lines (said_onto (words_in r) [])) (sym behind_it)
    (subst (λ ls. IsPopeyes ls (said_onto (words_in (behind_word text)) [])) (sym at)
    (behind_begin own line text says begins))

-- What was read of a problem for Popeye whose changes alone are others.
pub words_kept : (words : List (List ℕ)) (old mid : PopeyeProblem) → mid.fault ≡ old.fault → mid.diagram ≡ old.diagram → mid.bound ≡ old.bound
    → mid.expected ≡ old.expected → mid.colour ≡ old.colour → IsRead words old → IsRead words mid
unfolding KeepsSaid
words_kept words old mid fault men bound expected colour read = read_kept words old mid (λ free. (sym fault ∙ free, men, bound, expected, colour)) read

-- So it is of one of Olive's.
pub items_kept : (said : List Said) (old mid : OliveProblem) → mid.fault ≡ old.fault → mid.diagram ≡ old.diagram → mid.bound ≡ old.bound
    → mid.section ≡ old.section → AreRead said old → AreRead said mid
unfolding KeepsItems
items_kept said old mid fault men bound section read = are_kept said old mid (λ free. (sym fault ∙ free, men, bound, section)) read

-- A game that asks so many has it said, in whatever tag.
pub game_asks : (letters : Letters) (texts : List (List ℕ)) (game : Game) (asks : Asked) → ((n : ℕ) → asks ≡ Moves n
    → (game.asked ≡ Moves n) ⊎ (game.stipulated ≡ Some (Moves n))) → IsGameOf letters texts game → (n : ℕ) → asks ≡ Moves n → GameSays texts n
game_asks letters texts game asks each of n is = either_way (of.asked n) (of.stipulated n) (each n is)

pub then_ok : {A E : Type 0} (r : Result A E) (P Q : Type 0) → (P → Q) → IfOk r (λ _. P) → IfOk r (λ _. Q)
then_ok (Ok a) P Q next is = next is
then_ok (Err e) P Q next is = tt

pub then_made : {V F E : Type 0} (r : Result (Result V F) E) (P Q : V → Type 0) → ((v : V) → P v → Q v) → IfOk r (λ made. IfOk made P)
    → IfOk r (λ made. IfOk made Q)
then_made (Ok (Ok v)) P Q next is = next v is
then_made (Ok (Err f)) P Q next is = tt
then_made (Err e) P Q next is = tt

-- ---- what is printed

pub made_line : (letters : Letters) (given : Option ℕ) (lines : List (List ℕ)) (line : List ℕ) → IsLast lines line
    → IsMadeFrom letters given lines line
unfolding IsMadeFrom
made_line letters given lines line last = inl last

pub made_of : (letters : Letters) (given : Option ℕ) (lines : List (List ℕ)) (made : List ℕ) (moves : Option ℕ)
    → IsCountFrom letters given lines made moves → Asks moves made → IsMadeFrom letters given lines made
unfolding IsMadeFrom IsCountFrom IsFrom
made_of letters given lines made None never asks = absurd never
made_of letters given lines made (Some n) from asks = inr (λ r reads.
    subst (IsProblemIn letters given lines r.position) (sym (asks r reads)) (from r.position (reads_position made r reads) reads.sound))

pub count_said : (letters : Letters) (given : Option ℕ) (lines : List (List ℕ)) (made : List ℕ) (n : ℕ) → IsFrom letters given lines made n
    → IsCountFrom letters given lines made (Some n)
unfolding IsCountFrom
count_said letters given lines made n from = from

pub count_given : (letters : Letters) (given : Option ℕ) (lines : List (List ℕ)) (made : List ℕ) (moves : Option ℕ) (n : ℕ) → given ≡ Some n
    → moves ≡ Some n → IsFoundBy letters given lines made numbers.Unsaid → IsCountFrom letters given lines made moves
count_given letters given lines made moves n is same from =
    subst (IsCountFrom letters given lines made) (sym same) (count_said letters given lines made n (from n is))

sourced_one : (letters : Letters) (given : Option ℕ) (lines : List (List ℕ)) (made : List ℕ) → IsMadeFrom letters given lines made
    → IsSourced letters given lines made
unfolding IsMadeFrom
sourced_one letters given lines made from = from

pub are_sourced : (letters : Letters) (given : Option ℕ) (lines : List (List ℕ)) (text : List ℕ) (any : Bool)
    → AreImported (IsMadeFrom letters given lines) text any → AreImported (IsSourced letters given lines) text any
are_sourced letters given lines text any =
    imported_for (IsMadeFrom letters given lines) (IsSourced letters given lines) (λ line _. sourced_one letters given lines line) text any

passes : (line : List ℕ) → (is_blank line ≡ true) ⊎ (max_line < length line) → IsPassed line
passes line (inl is) = blank is
passes line (inr is) = too_long is

-- What is known where lines were passed over is known of all.
pub known_at : (letters : Letters) (reading : Reading) (before : List (List ℕ)) → IsKnownOf letters reading before → IsKnown letters before reading
known_at letters reading before (looked_at own known) = known
known_at letters reading before (passed_over own line is known) =
    known_waits letters own line reading (passes line is) (known_at letters reading own known)

pub taken_front : (front more : List (List ℕ)) → take (length front) (front ++ more) ≡ front
taken_front [] more = refl
taken_front (x ∷ xs) more = ap (λ t. x ∷ t) (taken_front xs more)

-- Nothing more may be printed.
pub silent : (letters : Letters) (given : Option ℕ) (before lines : List (List ℕ)) → AreSourcedFrom letters given before lines []
silent letters given before [] = at_end before [] false none
silent letters given before (line ∷ lines) = at_line before lines line [] [] false none (silent letters given (before ++ line ∷ []) lines)

pub sourced_all : (letters : Letters) (given : Option ℕ) (lines : List (List ℕ)) (text : List ℕ) → AreSourcedFrom letters given [] lines text
    → AreSourced letters given lines text
unfolding AreSourced
sourced_all letters given lines text from = from

-- What the words of a problem for Popeye say is read, word by word.
use Rattle.std.proofs.Common.{◌≡◌, ◌≢◌, ◌<◌, ◌==◌, ◌+◌, ℕ, arith, eqb-true, false-eqb, Bool, true, false, ◌||◌, if◌then◌else◌, List, ◌∷◌, Option, Some, None, refl, sym, ap, ◌∙◌, subst}
use Rattle.chess_board.specs.Positions.{man_at}
use Rattle.chess_board.specs.declared.men.Colour.{Colour}
use Rattle.chess_board.specs.declared.men.Man.{Man}
use Rattle.chess_notation.proofs.WordLists.{words_next}
use Rattle.chess_notation.specs.Words.{behind, is_blank, word_at, words_in}
use Rattle.stipulations.specs.Stipulations.{asked}
use Rattle.stipulations.specs.declared.asked.Asked.TheVariants.{Moves}
use Rattle.problem_import.specs.PopeyeProblems.{asked_at, asked_in, colour_at, colour_before, colour_named, command_of, ends_line, is_men, man_by, man_on}
use Rattle.problem_import.specs.PopeyeProblems.{begins_next, has_end, is_end, man_placed, man_put, man_said, nearest, or_command, or_man, said_onto}
use Rattle.problem_import.specs.declared.popeye.Ending.{Ending}
use Rattle.problem_import.specs.declared.popeye.Ending.TheVariants as endings
use Rattle.problem_import.specs.declared.popeye.Expected.{Expected}
use Rattle.problem_import.specs.declared.popeye.Expected.TheVariants as expects
use Rattle.problem_import.specs.declared.popeye.PopeyeProblem.{PopeyeProblem}
use Rattle.problem_import.specs.declared.popeye_words.Command.{Command}
use Rattle.problem_import.specs.declared.popeye_words.Command.TheVariants as commands
use Rattle.problem_import.specs.declared.diagrams.Diagram.{Diagram}
use Rattle.problem_import.specs.inside.ReadProblems.{EndsBy, HasMen, IsAwaited, IsAwaitedBehind, IsEnding, IsRead, IsReadOf, IsSet, IsSetAs, KeepsSaid, SetsUp, Takes, asks}

next_if : (P : ℕ → Type 0) (n s : ℕ) (same : Bool) → (s == n) ≡ same → ((k : ℕ) → k < n → P k) → P n → s < n + 1 → P s
next_if P n s true is each one below = subst P (sym (eqb-true s n is)) one
next_if P n s false is each one below = each s (let other = false-eqb s n (sym is) in omega (arith, below, other))

-- What is so below a number and of it is so below the next.
pub next_below : (P : ℕ → Type 0) (n : ℕ) → ((k : ℕ) → k < n → P k) → P n → (s : ℕ) → s < n + 1 → P s
next_below P n each one s below = next_if P n s (s == n) refl each one below

pub or_none : (man : Option Man) → or_man man None ≡ man
or_none None = refl
or_none (Some man) = refl

-- A man put where none stood, and others behind him.
pub or_next : (here : Option Man) (is_there : Bool) (man : Man) (others : Option Man)
    → or_man (or_man here (if is_there then Some man else None)) others ≡ or_man here (if is_there then Some man else others)
or_next None true man others = refl
or_next None false man others = refl
or_next (Some before) true man others = refl
or_next (Some before) false man others = refl

pub read_faulty : (words : List (List ℕ)) (problem : PopeyeProblem) → problem.fault ≢ None → IsRead words problem
unfolding IsRead
read_faulty words problem faulty is = absurd (faulty is)

pub takes_faulty : (word : List ℕ) (old new : PopeyeProblem) → new.fault ≢ None → Takes word old new
unfolding Takes
takes_faulty word old new faulty words before = read_faulty (word ∷ words) new faulty

pub read_kept : (words : List (List ℕ)) (old new : PopeyeProblem) → KeepsSaid old new → IsRead words old → IsRead words new
unfolding KeepsSaid IsRead
read_kept words old new keeps read is =
    let (none, men, bound, expected, colour) = keeps is in
    let of = read none in
    record {
      men = λ s below. ap (λ d. man_at d.men s) men ∙ of.men s below;
      awaited = subst (λ e. IsAwaited words new.colour e) (sym expected) (subst (λ c. IsAwaited words c old.expected) (sym colour) of.awaited);
      asked = of.asked ∙ ap asks (sym bound);
    }

read_next : (word : List ℕ) (words : List (List ℕ)) (old new : PopeyeProblem) → IsReadOf words old
    → ((s : ℕ) → s < 64 → man_at new.diagram.men s ≡ or_man (man_at old.diagram.men s) (man_by (command_of word) word words s))
    → IsAwaited (word ∷ words) new.colour new.expected
    → asked_at (command_of word) (nearest words) word (asked_in words) ≡ asks new.bound → IsReadOf (word ∷ words) new
read_next word words old new of men awaited says = record {
  men = λ s below. men s below ∙ ap (λ man. or_man man (man_by (command_of word) word words s)) (of.men s below);
  awaited = awaited;
  asked = says;
}

-- ---- commands

awaited_behind : (command : Command) (word : List ℕ) (words : List (List ℕ)) (colour : Option Colour) (expected : Expected)
    → command_of word ≡ Some command → IsAwaitedBehind command expected → colour ≡ None → IsAwaited (word ∷ words) colour expected
awaited_behind command word words colour expects.Stipulation is one none = ap (λ c. or_command c (nearest words)) is ∙ ap Some one
awaited_behind command word words colour expects.Forsyth is one none = ap (λ c. or_command c (nearest words)) is ∙ ap Some one
awaited_behind command word words colour expects.Man is one none = (
  ap (λ c. or_command c (nearest words)) is ∙ ap Some one,
  none ∙ sym (ap (λ c. colour_at c word (colour_before words)) is),
)
awaited_behind command word words colour expects.Option is one none = ap (λ c. or_command c (nearest words)) is ∙ ap Some one
awaited_behind command word words colour expects.Command is one none = tt
awaited_behind command word words colour expects.Condition is one none = tt

pub command_taken : (command : Command) (word : List ℕ) (old mid new : PopeyeProblem) → command_of word ≡ Some command
    → IsAwaitedBehind command mid.expected → mid.colour ≡ None → mid.fault ≡ old.fault → mid.diagram ≡ old.diagram → mid.bound ≡ old.bound
    → KeepsSaid mid new → Takes word old new
unfolding Takes IsRead KeepsSaid
command_taken command word old mid new is one none fault men bound keeps words read free =
    let (mid_free, same, same_bound, expected, colour) = keeps free in
    let of = read (sym fault ∙ mid_free) in
    read_next word words old new of (λ s below. ap (λ d. man_at d.men s) (same ∙ men)
    ∙ sym (ap (λ c. or_man (man_at old.diagram.men s) (man_by c word words s)) is ∙ or_none (man_at old.diagram.men s)))
    (subst (λ e. IsAwaited (word ∷ words) new.colour e) (sym expected)
    (awaited_behind command word words new.colour mid.expected is one (colour ∙ none)))
    (ap (λ c. asked_at c (nearest words) word (asked_in words)) is ∙ of.asked ∙ ap asks (sym (same_bound ∙ bound)))

-- ---- other words

by_nearest : (word : List ℕ) (words : List (List ℕ)) (command : Command) (s : ℕ) → command_of word ≡ None → nearest words ≡ Some command
    → man_by (command_of word) word words s ≡ man_put (Some command) word (colour_before words) s
by_nearest word words command s other is =
    ap (λ c. man_by c word words s) other ∙ ap (λ n. man_put n word (colour_before words) s) is

asked_by_nearest : (word : List ℕ) (words : List (List ℕ)) (command : Command) → command_of word ≡ None → nearest words ≡ Some command
    → asked_at (command_of word) (nearest words) word (asked_in words) ≡ asked_at None (Some command) word (asked_in words)
asked_by_nearest word words command other is =
    ap (λ c. asked_at c (nearest words) word (asked_in words)) other ∙ ap (λ n. asked_at None n word (asked_in words)) is

still : (word : List ℕ) (words : List (List ℕ)) (command : Command) → command_of word ≡ None → nearest words ≡ Some command
    → nearest (word ∷ words) ≡ Some command
still word words command other is = ap (λ c. or_command c (nearest words)) other ∙ is

awaits : (words : List (List ℕ)) (problem : PopeyeProblem) (expected : Expected) → problem.expected ≡ expected → IsReadOf words problem
    → IsAwaited words problem.colour expected
awaits words problem expected is of = subst (λ e. IsAwaited words problem.colour e) is of.awaited

pub stipulation_taken : (word : List ℕ) (old new : PopeyeProblem) (n : ℕ) → old.expected ≡ expects.Stipulation → command_of word ≡ None
    → asked word ≡ Moves n → new.fault ≡ old.fault → new.diagram ≡ old.diagram → new.expected ≡ expects.Command → new.bound ≡ Some n
    → Takes word old new
unfolding Takes IsRead
stipulation_taken word old new n awaited other says fault men next bound words read free =
    let of = read (sym fault ∙ free) in
    let near = awaits words old expects.Stipulation awaited of in
    read_next word words old new of (λ s below. ap (λ d. man_at d.men s) men
    ∙ sym (ap (or_man (man_at old.diagram.men s)) (by_nearest word words commands.Stipulation s other near) ∙ or_none (man_at old.diagram.men s)))
    (subst (λ e. IsAwaited (word ∷ words) new.colour e) (sym next) tt)
    (asked_by_nearest word words commands.Stipulation other near ∙ says ∙ ap asks (sym bound))

pub forsyth_taken : (word : List ℕ) (old new : PopeyeProblem) → old.expected ≡ expects.Forsyth → command_of word ≡ None
    → ((s : ℕ) → s < 64 → man_at new.diagram.men s ≡ or_man (man_at old.diagram.men s) (man_placed 0 word s)) → new.fault ≡ old.fault
    → new.expected ≡ expects.Command → new.bound ≡ old.bound → Takes word old new
unfolding Takes IsRead
forsyth_taken word old new awaited other men fault next bound words read free =
    let of = read (sym fault ∙ free) in
    let near = awaits words old expects.Forsyth awaited of in
    read_next word words old new of (λ s below. men s below
    ∙ sym (ap (or_man (man_at old.diagram.men s)) (by_nearest word words commands.Forsyth s other near)))
    (subst (λ e. IsAwaited (word ∷ words) new.colour e) (sym next) tt)
    (asked_by_nearest word words commands.Forsyth other near ∙ of.asked ∙ ap asks (sym bound))

pub men_taken : (word : List ℕ) (old new : PopeyeProblem) (colour : Colour) → old.expected ≡ expects.Man → command_of word ≡ None
    → is_men word ≡ true → old.colour ≡ Some colour
    → ((s : ℕ) → s < 64 → man_at new.diagram.men s ≡ or_man (man_at old.diagram.men s) (man_said (Some colour) word s)) → new.fault ≡ old.fault
    → new.expected ≡ old.expected → new.colour ≡ old.colour → new.bound ≡ old.bound → Takes word old new
unfolding Takes IsRead
men_taken word old new colour awaited other are has men fault on same bound words read free =
    let of = read (sym fault ∙ free) in
    let (near, named) = awaits words old expects.Man awaited of in
    read_next word words old new of (λ s below. men s below
    ∙ sym (ap (or_man (man_at old.diagram.men s)) (by_nearest word words commands.Pieces s other near
    ∙ ap (λ b. if b then man_said (colour_before words) word s else None) are
    ∙ ap (λ c. man_said c word s) (sym named ∙ has))))
    (subst (λ e. IsAwaited (word ∷ words) new.colour e) (sym (on ∙ awaited)) (
      still word words commands.Pieces other near,
      same ∙ named ∙ sym (ap (λ c. colour_at c word (colour_before words)) other
          ∙ ap (λ b. if b then colour_before words else colour_named word) are),
    ))
    (asked_by_nearest word words commands.Pieces other near ∙ of.asked ∙ ap asks (sym bound))

pub colour_taken : (word : List ℕ) (old new : PopeyeProblem) → old.expected ≡ expects.Man → command_of word ≡ None
    → is_men word ≡ false → new.colour ≡ colour_named word → new.fault ≡ old.fault → new.diagram ≡ old.diagram
    → new.expected ≡ old.expected → new.bound ≡ old.bound → Takes word old new
unfolding Takes IsRead
colour_taken word old new awaited other none has fault men on bound words read free =
    let of = read (sym fault ∙ free) in
    let (near, named) = awaits words old expects.Man awaited of in
    read_next word words old new of (λ s below. ap (λ d. man_at d.men s) men
    ∙ sym (ap (or_man (man_at old.diagram.men s)) (by_nearest word words commands.Pieces s other near
    ∙ ap (λ b. if b then man_said (colour_before words) word s else None) none) ∙ or_none (man_at old.diagram.men s)))
    (subst (λ e. IsAwaited (word ∷ words) new.colour e) (sym (on ∙ awaited)) (
      still word words commands.Pieces other near,
      has ∙ sym (ap (λ c. colour_at c word (colour_before words)) other
          ∙ ap (λ b. if b then colour_before words else colour_named word) none),
    ))
    (asked_by_nearest word words commands.Pieces other near ∙ of.asked ∙ ap asks (sym bound))

pub option_taken : (word : List ℕ) (problem : PopeyeProblem) → problem.expected ≡ expects.Option → command_of word ≡ None
    → Takes word problem problem
unfolding Takes IsRead
option_taken word problem awaited other words read free =
    let of = read free in
    let near = awaits words problem expects.Option awaited of in
    read_next word words problem problem of (λ s below. sym (ap (or_man (man_at problem.diagram.men s))
    (by_nearest word words commands.Options s other near) ∙ or_none (man_at problem.diagram.men s)))
    (subst (λ e. IsAwaited (word ∷ words) problem.colour e) (sym awaited) (still word words commands.Options other near))
    (asked_by_nearest word words commands.Options other near ∙ of.asked)

-- ---- lines

pub next_words : (rest word more : List ℕ) → is_blank rest ≡ false → word ≡ word_at rest → more ≡ behind rest
    → words_in rest ≡ word ∷ words_in more
next_words rest word more solid is after =
    words_next rest solid ∙ ap (λ w. w ∷ words_in (behind rest)) (sym is) ∙ ap (λ m. word ∷ words_in m) (sym after)

pub onto_next : (rest word more : List ℕ) (said : List (List ℕ)) → words_in rest ≡ word ∷ words_in more → ends_line (command_of word) ≡ false
    → said_onto (words_in rest) said ≡ said_onto (words_in more) (word ∷ said)
onto_next rest word more said is goes_on = ap (λ words. said_onto words said) is
    ∙ ap (λ b. if b then word ∷ said else said_onto (words_in more) (word ∷ said)) goes_on

pub onto_last : (rest word more : List ℕ) (said : List (List ℕ)) → words_in rest ≡ word ∷ words_in more → ends_line (command_of word) ≡ true
    → said_onto (words_in rest) said ≡ word ∷ said
onto_last rest word more said is ends = ap (λ words. said_onto words said) is
    ∙ ap (λ b. if b then word ∷ said else said_onto (words_in more) (word ∷ said)) ends

-- ---- what becomes of a problem behind a line

no_end : (command : Option Command) → ends_line command ≡ false → is_end command ≡ false
no_end None on = refl
no_end (Some commands.Begin) on = refl
no_end (Some commands.Text) on = refl
no_end (Some commands.Remark) on = refl
no_end (Some commands.Stipulation) on = refl
no_end (Some commands.Forsyth) on = refl
no_end (Some commands.Pieces) on = refl
no_end (Some commands.Options) on = refl
no_end (Some commands.Conditions) on = refl
no_end (Some commands.End) on = let no : true ≡ false = on in cc

-- A word that doesn't end its line ends no problem.
pub goes_on_open : (word : List ℕ) (said : List (List ℕ)) → ends_line (command_of word) ≡ false → has_end said ≡ false → has_end (word ∷ said) ≡ false
goes_on_open word said on on_still = ap (λ b. b || has_end said) (no_end (command_of word) on) ∙ on_still

pub ending_behind : (line rest word more : List ℕ) (ending : Ending) → words_in rest ≡ word ∷ words_in more → ends_line (command_of word) ≡ true
    → EndsBy word ending → ((words : List (List ℕ)) → (said : List (List ℕ)) × (has_end words ≡ false → has_end said ≡ false)
    × (said_onto (words_in rest) said ≡ said_onto (words_in line) words)) → IsEnding line ending
ending_behind line rest word more endings.Open is ends by all = λ words none.
    let (said, on_still, same) = all words in
    subst (λ ws. has_end ws ≡ false) (sym (onto_last rest word more said is ends) ∙ same) (ap (λ b. b || has_end said) by ∙ on_still none)
ending_behind line rest word more endings.Ended is ends by all = tt
ending_behind line rest word more endings.Next is ends by all = λ words.
    let (said, on_still, same) = all words in
    ap begins_next (sym same ∙ onto_last rest word more said is ends) ∙ by

-- ---- the whole

pub sets_men : (man_on : ℕ → Option Man) (diagram : Diagram) (text : List ℕ) → HasMen diagram man_on → IsSetAs diagram.men text
    → SetsUp man_on text
unfolding IsSetAs SetsUp IsSet
sets_men man_on diagram text has set p spells sound =
    let (men, side, rights, target) = set p spells sound in
    record { men = λ s below. men s below ∙ has s below; side = side; rights = rights; target = target }

pub sets_up : (words : List (List ℕ)) (problem : PopeyeProblem) (text : List ℕ) → problem.fault ≡ None → IsRead words problem
    → IsSetAs problem.diagram.men text → SetsUp (man_on words) text
unfolding IsRead
sets_up words problem text free read set = sets_men (man_on words) problem.diagram text (read free).men set

pub asks_so : (words : List (List ℕ)) (problem : PopeyeProblem) (n : ℕ) → problem.fault ≡ None → IsRead words problem → problem.bound ≡ Some n
    → asked_in words ≡ Moves n
unfolding IsRead
asks_so words problem n free read bound = (read free).asked ∙ ap asks bound

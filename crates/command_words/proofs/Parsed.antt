-- What a parse says of what its words ask for, of any command line that is simple.
use Rattle.std.proofs.Common.{◌≡◌, ◌≢◌, ◌∙◌, ◌||◌, Bool, List, [], ◌∷◌, None, Result, Ok, Err}
use Rattle.std.proofs.Common.{refl, ap, sym, subst, true, false, inl, inr, IfOk, IfErr}
use Rattle.std.specs.List.{list_all, list_any}
use Rattle.std.proofs.Math.Bool.{and-false}
use Rattle.std.specs.Prelude.{option_and_then}
use Rattle.std.specs.Option.{option_map_or}
use Rattle.clap.specs.Words.{App, FailsBy, HasKind, HasMatchesOf, IsAmong, Kinds, Text, fault_of, is_simple, kind_of}
use Rattle.clap.specs.declared.error.Error.{Error}
use Rattle.clap.specs.declared.error.kind.ErrorKind.{ErrorKind}
use Rattle.clap.specs.declared.error.kind.ErrorKind.TheVariants as kind
use Rattle.clap.specs.declared.parser.matches.ArgMatches.{ArgMatches}
use Rattle.command_words.specs.Asked.{asked_by, asked_in, all_display, asked_of, asks_display_in, is_display, may_display_in}
use Rattle.command_words.specs.Asked.{records_given_by, records_given_in, records_given_of}

asked_here : (a : App) (words : List Text) (r : Result ArgMatches Error) → is_simple a ≡ true → IfOk r (HasMatchesOf a words)
    → FailsBy (fault_of a words) r → IfOk r (λ m. asked_of m ≡ asked_in a words)
asked_here a words (Ok m) simple has fails = rw fails (ap (option_and_then (λ p. asked_by p.0 p.1)) (has simple).1)
asked_here a words (Err e) simple has fails = tt

pub asked_at_ok : (app a : App) → app ≡ a → (words : List Text) (r : Result ArgMatches Error) → is_simple a ≡ true
    → IfOk r (HasMatchesOf app words) → FailsBy (fault_of app words) r → IfOk r (λ m. asked_of m ≡ asked_in a words)
asked_at_ok app a same words r simple has fails =
    subst (λ (x : App). IfOk r (λ m. asked_of m ≡ asked_in x words)) same (asked_here app words r (ap is_simple same ∙ simple) has fails)

records_here : (a : App) (words : List Text) (r : Result ArgMatches Error) → is_simple a ≡ true → IfOk r (HasMatchesOf a words)
    → IfOk r (λ m. records_given_of m ≡ records_given_in a words)
records_here a words (Ok m) simple has = ap (λ x. option_map_or (λ p. records_given_by p.0 p.1) x false) (has simple).1
records_here a words (Err e) simple has = tt

pub records_at_ok : (app a : App) → app ≡ a → (words : List Text) (r : Result ArgMatches Error) → is_simple a ≡ true
    → IfOk r (HasMatchesOf app words) → IfOk r (λ m. records_given_of m ≡ records_given_in a words)
records_at_ok app a same words r simple has =
    subst (λ (x : App). IfOk r (λ m. records_given_of m ≡ records_given_in x words)) same
    (records_here app words r (ap is_simple same ∙ simple) has)

none_where : (kinds : Kinds) (a : App) (words : List Text) (e : Error) → fault_of a words ≡ kinds → HasKind kinds e
    → kind_of e ≢ kind.OutOfMemory → asked_in a words ≡ None
none_where kinds a words e is (inl memory) other = absurd (other memory)
none_where [] a words e is (inr among) other = absurd among
none_where (k ∷ ks) a words e is (inr among) other = rw is refl

none_here : (a : App) (words : List Text) (r : Result ArgMatches Error) → FailsBy (fault_of a words) r
    → IfErr r (λ e. kind_of e ≢ kind.OutOfMemory → asked_in a words ≡ None)
none_here a words (Ok m) fails = tt
none_here a words (Err e) fails = none_where (fault_of a words) a words e refl fails

pub none_at_err : (app a : App) → app ≡ a → (words : List Text) (r : Result ArgMatches Error) → FailsBy (fault_of app words) r
    → IfErr r (λ e. kind_of e ≢ kind.OutOfMemory → asked_in a words ≡ None)
none_at_err app a same words r fails =
    subst (λ (x : App). IfErr r (λ e. kind_of e ≢ kind.OutOfMemory → asked_in x words ≡ None)) same (none_here app words r fails)

or_true : (b : Bool) → (b || true) ≡ true
or_true true = refl
or_true false = refl

any_display : (k : ErrorKind) (kinds : Kinds) → IsAmong k kinds → is_display k ≡ true → list_any is_display kinds ≡ true
any_display k [] among display = absurd among
any_display k (x ∷ xs) (inl same) display = rw (← same, display) refl
any_display k (x ∷ xs) (inr among) display = rw (any_display k xs among display) (or_true (is_display x))

display_where : (kinds : Kinds) (e : Error) → HasKind kinds e → is_display (kind_of e) ≡ true → list_any is_display kinds ≡ true
display_where kinds e (inl memory) display = let no : false ≡ true = sym (ap is_display memory) ∙ display in cc
display_where kinds e (inr among) display = any_display (kind_of e) kinds among display

display_here : (a : App) (words : List Text) (r : Result ArgMatches Error) → FailsBy (fault_of a words) r
    → IfErr r (λ e. is_display (kind_of e) ≡ true → may_display_in a words ≡ true)
display_here a words (Ok m) fails = tt
display_here a words (Err e) fails = display_where (fault_of a words) e fails

pub display_at_err : (app a : App) → app ≡ a → (words : List Text) (r : Result ArgMatches Error) → FailsBy (fault_of app words) r
    → IfErr r (λ e. is_display (kind_of e) ≡ true → may_display_in a words ≡ true)
display_at_err app a same words r fails =
    subst (λ (x : App). IfErr r (λ e. is_display (kind_of e) ≡ true → may_display_in x words ≡ true)) same (display_here app words r fails)

-- ---- a kind that is no display

not_all_display : (k : ErrorKind) (kinds : Kinds) → IsAmong k kinds → is_display k ≡ false → list_all is_display kinds ≡ false
not_all_display k [] among other = absurd among
not_all_display k (x ∷ xs) (inl same) other = rw (← same, other) refl
not_all_display k (x ∷ xs) (inr among) other = rw (not_all_display k xs among other) (and-false (is_display x))

misuse_where : (kinds : Kinds) (e : Error) → HasKind kinds e → kind_of e ≢ kind.OutOfMemory
    → is_display (kind_of e) ≡ false → all_display kinds ≡ false
misuse_where kinds e (inl memory) known other = absurd (known memory)
misuse_where [] e (inr among) known other = refl
misuse_where (k ∷ ks) e (inr among) known other = not_all_display (kind_of e) (k ∷ ks) among other

misuse_here : (a : App) (words : List Text) (r : Result ArgMatches Error) → FailsBy (fault_of a words) r
    → IfErr r (λ e. kind_of e ≢ kind.OutOfMemory → is_display (kind_of e) ≡ false → asks_display_in a words ≡ false)
misuse_here a words (Ok m) fails = tt
misuse_here a words (Err e) fails = misuse_where (fault_of a words) e fails

pub misuse_at_err : (app a : App) → app ≡ a → (words : List Text) (r : Result ArgMatches Error) → FailsBy (fault_of app words) r
    → IfErr r (λ e. kind_of e ≢ kind.OutOfMemory → is_display (kind_of e) ≡ false → asks_display_in a words ≡ false)
misuse_at_err app a same words r fails =
    subst (λ (x : App). IfErr r (λ e. kind_of e ≢ kind.OutOfMemory → is_display (kind_of e) ≡ false
    → asks_display_in x words ≡ false)) same (misuse_here app words r fails)

clear_here : (a : App) (words : List Text) (r : Result ArgMatches Error) → FailsBy (fault_of a words) r
    → IfOk r (λ _. asks_display_in a words ≡ false)
clear_here a words (Ok m) fails = ap all_display fails
clear_here a words (Err e) fails = tt

pub clear_at_ok : (app a : App) → app ≡ a → (words : List Text) (r : Result ArgMatches Error) → FailsBy (fault_of app words) r
    → IfOk r (λ _. asks_display_in a words ≡ false)
clear_at_ok app a same words r fails = subst (λ (x : App). IfOk r (λ _. asks_display_in x words ≡ false)) same (clear_here app words r fails)

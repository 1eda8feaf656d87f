-- A step that is read is spelled so, and one that is spelled is read.
use Rattle.std.proofs.Common.{◌≡◌, ◌++◌, ℕ, Bool, List, ◌∷◌, Option, None, Some, true, false, codes, cond, refl, sym, ap, ◌∙◌, subst, option_map}
use Rattle.std.proofs.lemmas.Option.{option_and_then_some, same_Some, none-some}
use Rattle.std.proofs.lemmas.Slice.Eq.{bytes_eq-Decides}
use Rattle.std.specs.Option.{option_and_then}
use Rattle.std.specs.Str.{bytes_eq}
use Rattle.desk_scripts.specs.Scripts.{StepValue, Submit, Take, Finish, HandBack, Collect, Withdraw, Drained, Close, SpellsStep}
use Rattle.desk_scripts.specs.inside.ScriptReading.{cut_at, number_of, number_cut, numbered, submit_of, withdraw_of, plain_step, step_by, step_in, step_of}
use Rattle.desk_scripts.proofs.NumberLaws.{map_some, number_spelled, number_read, cut_spelled, number_cut_spelled, number_cut_read}

is_word : (word name : List ℕ) → bytes_eq word name ≡ true → word ≡ name
is_word word name is = (bytes_eq-Decides word name).0 is

plain_cases : (word : List ℕ) (step : StepValue) (a b c : Bool) → (a ≡ true → word ≡ codes "take")
    → (b ≡ true → word ≡ codes "drained") → (c ≡ true → word ≡ codes "close")
    → cond a (Some Take) (cond b (Some Drained) (cond c (Some Close) None)) ≡ Some step → SpellsStep word step
plain_cases word step true b c take drained close is = subst (SpellsStep word) (same_Some Take step is) (take refl)
plain_cases word step false true c take drained close is = subst (SpellsStep word) (same_Some Drained step is) (drained refl)
plain_cases word step false false true take drained close is = subst (SpellsStep word) (same_Some Close step is) (close refl)
plain_cases word step false false false take drained close is = absurd (none-some step is)

plain_spelled : (word : List ℕ) (step : StepValue) → plain_step word ≡ Some step → SpellsStep word step
unfolding plain_step
plain_spelled word step is =
    plain_cases word step _ _ _ (is_word word (codes "take")) (is_word word (codes "drained")) (is_word word (codes "close")) is

submit_spelled : (text : List ℕ) (step : StepValue) → submit_of text ≡ Some step → SpellsStep (codes "submit" ++ 32 ∷ text) step
submit_spelled text step is = map_some (λ cut. Submit cut.0 cut.1) (number_cut text) step is (λ cut at same.
    let parts = number_cut_spelled text cut.0 cut.1 at in
    let spelled : SpellsStep (codes "submit" ++ 32 ∷ text) (Submit cut.0 cut.1) = (parts.0, ap (λ t. codes "submit " ++ t) parts.1, parts.2) in
    subst (SpellsStep (codes "submit" ++ 32 ∷ text)) same spelled)

withdraw_spelled : (text : List ℕ) (step : StepValue) → withdraw_of text ≡ Some step → SpellsStep (codes "withdraw" ++ 32 ∷ text) step
withdraw_spelled text step is = option_and_then_some (λ cut. option_map (λ n. Withdraw cut.0 n) (number_of cut.1))
    (number_cut text) step is (λ cut at found.
    map_some (λ n. Withdraw cut.0 n) (number_of cut.1) step found (λ n number same.
    let parts = number_cut_spelled text cut.0 cut.1 at in
    let spelled : SpellsStep (codes "withdraw" ++ 32 ∷ text) (Withdraw cut.0 n) =
    (parts.0, cut.1, ap (λ t. codes "withdraw " ++ t) parts.1, parts.2, number_spelled cut.1 n number) in
    subst (SpellsStep (codes "withdraw" ++ 32 ∷ text)) same spelled))

finish_spelled : (text : List ℕ) (step : StepValue) → option_map Finish (number_of text) ≡ Some step → SpellsStep (codes "finish" ++ 32 ∷ text) step
finish_spelled text step is = map_some Finish (number_of text) step is (λ n number same.
    let spelled : SpellsStep (codes "finish" ++ 32 ∷ text) (Finish n) = (text, refl, number_spelled text n number) in
    subst (SpellsStep (codes "finish" ++ 32 ∷ text)) same spelled)

handback_spelled : (text : List ℕ) (step : StepValue) → option_map HandBack (number_of text) ≡ Some step
    → SpellsStep (codes "handback" ++ 32 ∷ text) step
handback_spelled text step is = map_some HandBack (number_of text) step is (λ n number same.
    let spelled : SpellsStep (codes "handback" ++ 32 ∷ text) (HandBack n) = (text, refl, number_spelled text n number) in
    subst (SpellsStep (codes "handback" ++ 32 ∷ text)) same spelled)

collect_spelled : (text : List ℕ) (step : StepValue) → option_map Collect (number_of text) ≡ Some step
    → SpellsStep (codes "collect" ++ 32 ∷ text) step
collect_spelled text step is = map_some Collect (number_of text) step is (λ n number same.
    let spelled : SpellsStep (codes "collect" ++ 32 ∷ text) (Collect n) = (text, refl, number_spelled text n number) in
    subst (SpellsStep (codes "collect" ++ 32 ∷ text)) same spelled)

by_cases : (word text : List ℕ) (step : StepValue) (a b c d e : Bool) → (a ≡ true → word ≡ codes "submit") → (b ≡ true → word ≡ codes "withdraw")
    → (c ≡ true → word ≡ codes "finish") → (d ≡ true → word ≡ codes "handback") → (e ≡ true → word ≡ codes "collect")
    → cond a (submit_of text) (cond b (withdraw_of text) (cond c (option_map Finish (number_of text)) (cond d (option_map HandBack (number_of text))
    (cond e (option_map Collect (number_of text)) None)))) ≡ Some step
    → SpellsStep (word ++ 32 ∷ text) step
by_cases word text step true b c d e submit withdraw finish back collect is = rw (submit refl) (submit_spelled text step is)
by_cases word text step false true c d e submit withdraw finish back collect is = rw (withdraw refl) (withdraw_spelled text step is)
by_cases word text step false false true d e submit withdraw finish back collect is = rw (finish refl) (finish_spelled text step is)
by_cases word text step false false false true e submit withdraw finish back collect is = rw (back refl) (handback_spelled text step is)
by_cases word text step false false false false true submit withdraw finish back collect is = rw (collect refl) (collect_spelled text step is)
by_cases word text step false false false false false submit withdraw finish back collect is = absurd (none-some step is)

by_spelled : (word text : List ℕ) (step : StepValue) → step_by word text ≡ Some step → SpellsStep (word ++ 32 ∷ text) step
unfolding step_by
by_spelled word text step is = by_cases word text step _ _ _ _ _ (is_word word (codes "submit"))
    (is_word word (codes "withdraw")) (is_word word (codes "finish"))
    (is_word word (codes "handback")) (is_word word (codes "collect")) is

in_spelled : (line : List ℕ) (cut : Option (List ℕ × List ℕ)) (step : StepValue) → cut_at 32 line ≡ cut
    → step_in line cut ≡ Some step → SpellsStep line step
in_spelled line None step at is = plain_spelled line step is
in_spelled line (Some cut) step at is =
    subst (λ l. SpellsStep l step) (sym (cut_spelled 32 line cut.0 cut.1 at)) (by_spelled cut.0 cut.1 step is)

pub step_spelled : (line : List ℕ) (step : StepValue) → step_of line ≡ Some step → SpellsStep line step
unfolding step_of
step_spelled line step is = in_spelled line (cut_at 32 line) step refl is

-- what stands behind the space after the first word, by that word
pub step_read : (line : List ℕ) (step : StepValue) → SpellsStep line step → step_of line ≡ Some step
unfolding step_of step_by plain_step
step_read line (Submit s bytes) (number, is, spelled) =
    ap step_of is ∙ ap (option_map (λ cut. Submit cut.0 cut.1)) (number_cut_read number s bytes spelled)
step_read line Take is = ap step_of is
step_read line (Finish i) (number, is, spelled) = ap step_of is ∙ ap (option_map Finish) (number_read number i spelled)
step_read line (HandBack i) (number, is, spelled) = ap step_of is ∙ ap (option_map HandBack) (number_read number i spelled)
step_read line (Collect s) (number, is, spelled) = ap step_of is ∙ ap (option_map Collect) (number_read number s spelled)
step_read line (Withdraw s n) (submitter, number, is, spelled, counted) =
    ap step_of is ∙ ap (option_and_then (λ cut. option_map (λ n. Withdraw cut.0 n) (number_of cut.1))) (number_cut_read submitter s number spelled)
    ∙ ap (option_map (λ n. Withdraw s n)) (number_read number n counted)
step_read line Drained is = ap step_of is
step_read line Close is = ap step_of is

none_by : (a b d : Bool) (o : Option StepValue) → o ≡ cond a o (cond b o (cond d o o))
none_by true b d o = refl
none_by false true d o = refl
none_by false false true o = refl
none_by false false false o = refl

pub numbered_none : (word text : List ℕ) → None ≡ number_of text → None ≡ numbered word text
numbered_none word text none =
    rw (← none) (none_by (bytes_eq word (codes "finish")) (bytes_eq word (codes "handback")) (bytes_eq word (codes "collect")) None)

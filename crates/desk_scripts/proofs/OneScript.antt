-- A text is one script at most, and none where a line is at fault.
use Rattle.std.proofs.Common.{◌≡◌, ◌≢◌, ◌++◌, ℕ, List, [], ◌∷◌, Option, None, Some, refl, sym, ap, ◌∙◌, subst}
use Rattle.std.proofs.lemmas.Option.{none-some, same_Some}
use Rattle.desk_scripts.specs.Scripts.{StepValue, ScriptValue, Line, SpellEach, SpellsDesk, IsStep, IsScript}
use Rattle.desk_scripts.specs.Scripts.{IsFirstFault, IsRefused, all_blank, no_desk, no_step}
use Rattle.desk_scripts.specs.declared.scripts.ScriptFault.{ScriptFault}
use Rattle.desk_scripts.specs.declared.scripts.ScriptFault.TheVariants as fault
use Rattle.desk_scripts.proofs.StepLaws.{step_read}
use Rattle.desk_scripts.proofs.DeskLaws.{desk_read}

abbrev first_or : Line → List Line → Line
first_or other [] = other
first_or other (line ∷ lines) = line

abbrev behind_first : List Line → List Line
behind_first [] = []
behind_first (line ∷ lines) = lines

same_first : (x y : Line) (xs ys : List Line) → (x ∷ xs) ≡ (y ∷ ys) → x ≡ y
same_first x y xs ys same = ap (first_or x) same

same_behind : (x y : Line) (xs ys : List Line) → (x ∷ xs) ≡ (y ∷ ys) → xs ≡ ys
same_behind x y xs ys same = ap behind_first same

abbrev is_filled : List Line → Option ℕ
is_filled [] = None
is_filled (line ∷ lines) = Some 0

not_empty : (x : Line) (xs : List Line) → [] ≡ (x ∷ xs) → ⊥
not_empty x xs same = none-some 0 (ap is_filled same)

each_one : (lines : List Line) (a b : List StepValue) → SpellEach lines a → SpellEach lines b → a ≡ b
each_one [] [] [] first second = refl
each_one [] [] (b ∷ bs) first second = absurd second
each_one [] (a ∷ more) bs first second = absurd first
each_one (l ∷ ls) [] bs first second = absurd first
each_one (l ∷ ls) (a ∷ more) [] first second = absurd second
each_one (l ∷ ls) (a ∷ more) (b ∷ bs) first second =
    let same : a ≡ b = same_Some a b (sym (step_read l.text a first.0) ∙ step_read l.text b second.0) in
    rw (same, each_one ls more bs first.1 second.1) refl

desk_one : (line : List ℕ) (s r b t u v : ℕ) → SpellsDesk line s r b → SpellsDesk line t u v → (s ≡ t) × (r ≡ u) × (b ≡ v)
desk_one line s r b t u v first second =
    let same = same_Some _ _ (sym (desk_read line s r b first) ∙ desk_read line t u v second) in
    (ap (λ d. d.submitters) same, ap (λ d. d.room) same, ap (λ d. d.bound) same)

script_with : ℕ → ℕ → ℕ → List StepValue → ScriptValue
script_with s r b steps = record { submitters = s; room = r; bound = b; steps = steps }

pub script_one : (text : List ℕ) (v w : ScriptValue) → IsScript text v → IsScript text w → v ≡ w
unfolding script_with
script_one text v w first second =
    let same = sym first.lines ∙ second.lines in
    let opening : first.opening ≡ second.opening = same_first first.opening second.opening first.others second.others same in
    let others : first.others ≡ second.others = same_behind first.opening second.opening first.others second.others same in
    let desk = desk_one second.opening.text _ _ _ _ _ _
    (subst (λ l. SpellsDesk l.text v.submitters v.room v.bound) opening first.opens) second.opens in
    let steps = each_one second.others v.steps w.steps (subst (λ l. SpellEach l v.steps) others first.each) second.each in
    ap (λ s. script_with s v.room v.bound v.steps) desk.0 ∙ ap (λ r. script_with w.submitters r v.bound v.steps) desk.1
    ∙ ap (λ b. script_with w.submitters w.room b v.steps) desk.2 ∙ ap (script_with w.submitters w.room w.bound) steps

each_at : (before : List Line) (line : Line) (behind : List Line) (steps : List StepValue) → SpellEach (before ++ line ∷ behind) steps → IsStep line
each_at [] line behind [] each = absurd each
each_at [] line behind (s ∷ ss) each = (s, each.0)
each_at (l ∷ ls) line behind [] each = absurd each
each_at (l ∷ ls) line behind (s ∷ ss) each = each_at ls line behind ss each.1

pub fault_no_script : (text : List ℕ) (number : ℕ) (v : ScriptValue) → IsFirstFault text number → ¬ IsScript text v
fault_no_script text number v (all_blank blank) script = not_empty script.opening script.others (sym blank ∙ script.lines)
fault_no_script text number v (no_desk opening others cut wrong) script =
    let same : script.opening ≡ opening = same_first script.opening opening script.others others (sym script.lines ∙ cut) in
    wrong (v.submitters, v.room, v.bound, subst (λ l. SpellsDesk l.text v.submitters v.room v.bound) same script.opens)
fault_no_script text number v (no_step opening others k cut desk first) script =
    let same : script.others ≡ others = same_behind script.opening opening script.others others (sym script.lines ∙ cut) in
    first.no_step (each_at first.before first.line first.behind v.steps (subst (λ l. SpellEach l v.steps) (same ∙ first.cut) script.each))

pub refused_no_script : (text : List ℕ) (f : ScriptFault) → IsRefused text f → f ≢ fault.NoMemory → (v : ScriptValue) → ¬ IsScript text v
refused_no_script text (fault.Line number) refused other v = fault_no_script text number v refused
refused_no_script text fault.NoMemory refused other v = absurd (other refl)

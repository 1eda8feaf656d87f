-- What was changed: something is told of whatever isn't a line as it stands.
use Rattle.std.proofs.Common.{◌≡◌, ◌≢◌, ℕ, List, ◌++◌, Bool, true, false, ◌||◌, Option, refl, sym, ap, subst, ◌∙◌, append_assoc}
use Rattle.std.specs.Prelude.{codes}
use Rattle.problem_import.specs.Changes.{IsAny, IsChanged, all_changes, listed, telling}
use Rattle.problem_import.specs.Imports.{IsMade, IsRecord, plain, told, unchanged, untold}
use Rattle.problem_import.specs.declared.changes.Change.{Change}
use Rattle.problem_import.specs.declared.changes.Change.TheVariants.{Pgn, Popeye, Letters, Tabs, Quotes, Marks, Moves}
use Rattle.problem_import.specs.declared.changes.Change.TheVariants.{Bound, Semicolon, Operation, Cut, Spaces}
use Rattle.problem_import.specs.declared.changes.Changes.{Changes}
use Rattle.problem_import.specs.declared.changes.Form.{Form}
use Rattle.problem_import.specs.declared.changes.Form.TheVariants as forms
use Rattle.problem_import.specs.inside.Findings.{Asks, IsNumberOf, IsOwn}
use Rattle.problem_import.specs.inside.KeptChanges.{has_change, is_game, is_popeye, is_told}
use Rattle.problem_import.proofs.Positions.{keeps_problem, keeps_told}

some_told : (form : Form) (letters tabs quotes marks moves bound semicolon operation cut : Bool)
    → IsAny (is_told form letters tabs quotes marks moves bound semicolon operation cut)
some_told forms.Game letters tabs quotes marks moves bound semicolon operation cut = (Pgn, refl)
some_told forms.Popeye letters tabs quotes marks moves bound semicolon operation cut = (Popeye, refl)
some_told forms.Line true tabs quotes marks moves bound semicolon operation cut = (Letters, refl)
some_told forms.Line false true quotes marks moves bound semicolon operation cut = (Tabs, refl)
some_told forms.Line false false true marks moves bound semicolon operation cut = (Quotes, refl)
some_told forms.Line false false false true moves bound semicolon operation cut = (Marks, refl)
some_told forms.Line false false false false true bound semicolon operation cut = (Moves, refl)
some_told forms.Line false false false false false true semicolon operation cut = (Bound, refl)
some_told forms.Line false false false false false false true operation cut = (Semicolon, refl)
some_told forms.Line false false false false false false false true cut = (Operation, refl)
some_told forms.Line false false false false false false false false true = (Cut, refl)
some_told forms.Line false false false false false false false false false = (Spaces, refl)

of_form : (form : Form) → form ≢ forms.Line → (is_game form || is_popeye form) ≡ true
of_form forms.Line other = absurd (other refl)
of_form forms.Game other = refl
of_form forms.Popeye other = refl

any_told : (c : Changes) → IsAny (has_change c)
any_told c = some_told c.form c.letters c.tabs c.quotes c.marks c.moves c.bound c.semicolon c.operation c.cut

pub changed_form : (c : Changes) (line made : List ℕ) → c.form ≢ forms.Line → IsChanged line made (has_change c)
changed_form c line made other = (any_told c, λ is. of_form c.form other)

pub changed_text : (c : Changes) (line made : List ℕ) → made ≢ line → IsChanged line made (has_change c)
changed_text c line made other = (any_told c, λ is. absurd (other is))

pub telling_behind : (has : Change → Bool) (text begun listing whole : List ℕ) → begun ≡ text ++ codes " c9 \"import"
    → listing ≡ begun ++ listed has true all_changes → whole ≡ listing ++ codes "\";" → whole ≡ text ++ telling has
unfolding telling
telling_behind has text begun listing whole first second third =
    let names : List ℕ = listed has true all_changes in
    rw (third, second, first) (append_assoc (text ++ codes " c9 \"import") names (codes "\";")
    ∙ append_assoc text (codes " c9 \"import") (names ++ codes "\";")
    ∙ ap (λ t. text ++ t) (sym (append_assoc (codes " c9 \"import") names (codes "\";"))))

-- ---- what is printed

pub made_plain : (keep : Bool) (given : Option ℕ) (line text : List ℕ) (moves : Option ℕ) (c : Changes) → keep ≡ false → IsOwn c.form line text
    → IsNumberOf c.form given line moves → Asks moves text → IsMade keep given line text
made_plain keep given line text moves c off own number asks =
    plain text (has_change c) off (keeps_problem c given line text moves own number asks)

pub made_unchanged : (keep : Bool) (given : Option ℕ) (line text : List ℕ) → text ≡ line → IsMade keep given line text
made_unchanged keep given line text is = rw is unchanged

pub made_told : (keep : Bool) (given : Option ℕ) (line text whole : List ℕ) (moves : Option ℕ) (c : Changes) → keep ≡ true → IsRecord text
    → IsOwn c.form line text → IsNumberOf c.form given line moves → Asks moves whole → IsChanged line text (has_change c)
    → whole ≡ text ++ telling (has_change c) → IsMade keep given line whole
made_told keep given line text whole moves c on one own number asks changed is =
    rw is (told text (has_change c) on one changed
    (keeps_told c given line text moves one own number (subst (λ t. Asks moves t) is asks)))

pub made_untold : (keep : Bool) (given : Option ℕ) (line text whole : List ℕ) (moves : Option ℕ) (c : Changes) → keep ≡ true
    → IsOwn c.form line text → IsNumberOf c.form given line moves → Asks moves text → IsChanged line text (has_change c)
    → whole ≡ text ++ telling (has_change c) → ¬ (IsRecord whole) → IsMade keep given line text
made_untold keep given line text whole moves c on own number asks changed is unread =
    untold text (has_change c) on changed (keeps_problem c given line text moves own number asks) (λ one. unread (rw is one))

-- What a problem of Olive's says is read, item by item.
use Rattle.std.proofs.Common.{◌≡◌, ◌≢◌, ◌<◌, ◌-◌, ℕ, true, false, if◌then◌else◌, List, [], ◌∷◌, Some, None, length, take, refl, sym, ap, ◌∙◌, subst}
use Rattle.chess_board.specs.Positions.{man_at}
use Rattle.chess_notation.specs.Words.{word_at}
use Rattle.stipulations.specs.Stipulations.{asked}
use Rattle.stipulations.specs.declared.asked.Asked.{Asked}
use Rattle.stipulations.specs.declared.asked.Asked.TheVariants.{Moves}
use Rattle.problem_import.specs.OliveProblems.{Said, asked_at, asked_in, has_colon, key, key_onto, man_in, man_on, section_after, section_of}
use Rattle.problem_import.specs.PopeyeProblems.{or_man}
use Rattle.problem_import.specs.declared.olive.OliveProblem.{OliveProblem}
use Rattle.problem_import.specs.declared.olive.Section.{Section}
use Rattle.problem_import.specs.declared.olive.Section.TheVariants as sections
use Rattle.problem_import.specs.inside.ReadProblems.{AreRead, AreReadOf, IsSetAs, KeepsItems, SetsUp, TakesItem, asks, has_items}
use Rattle.problem_import.proofs.ReadProblems.{or_none, sets_men}

pub takes_faulty_item : (word : List ℕ) (old new : OliveProblem) → new.fault ≢ None → TakesItem word old new
unfolding TakesItem AreRead
takes_faulty_item word old new faulty said before free = absurd (faulty free)

pub are_kept : (said : List Said) (old new : OliveProblem) → KeepsItems old new → AreRead said old → AreRead said new
unfolding KeepsItems AreRead
are_kept said old new keeps read free =
    let (none, men, bound, section) = keeps free in
    let of = read none in
    record {
      men = λ s below. ap (λ d. man_at d.men s) men ∙ of.men s below;
      section = section ∙ of.section;
      asked = of.asked ∙ ap asks (sym bound);
    }

-- ---- items

pub no_items : (section : Section) → section ≢ sections.White → section ≢ sections.Black → section ≢ sections.Stipulation
    → has_items section ≡ false
no_items sections.Other a b c = refl
no_items sections.Authors a b c = refl
no_items sections.Source a b c = refl
no_items sections.Date a b c = refl
no_items sections.Men a b c = refl
no_items sections.White a b c = absurd (a refl)
no_items sections.Black a b c = absurd (b refl)
no_items sections.Neutral a b c = refl
no_items sections.Stipulation a b c = absurd (c refl)
no_items sections.Options a b c = refl
no_items sections.Conditions a b c = refl
no_items sections.Twins a b c = refl
no_items sections.Solution a b c = refl

no_man : (section : Section) (word : List ℕ) (s : ℕ) → has_items section ≡ false → man_in section word s ≡ None
no_man sections.Other word s none = refl
no_man sections.Authors word s none = refl
no_man sections.Source word s none = refl
no_man sections.Date word s none = refl
no_man sections.Men word s none = refl
no_man sections.White word s none = let no_case : true ≡ false = none in cc
no_man sections.Black word s none = let no_case : true ≡ false = none in cc
no_man sections.Neutral word s none = refl
no_man sections.Stipulation word s none = refl
no_man sections.Options word s none = refl
no_man sections.Conditions word s none = refl
no_man sections.Twins word s none = refl
no_man sections.Solution word s none = refl

asks_none : (section : Section) (word : List ℕ) (before : Asked) → has_items section ≡ false → asked_at section word before ≡ before
asks_none sections.Other word before none = refl
asks_none sections.Authors word before none = refl
asks_none sections.Source word before none = refl
asks_none sections.Date word before none = refl
asks_none sections.Men word before none = refl
asks_none sections.White word before none = refl
asks_none sections.Black word before none = refl
asks_none sections.Neutral word before none = refl
asks_none sections.Stipulation word before none = let no_case : true ≡ false = none in cc
asks_none sections.Options word before none = refl
asks_none sections.Conditions word before none = refl
asks_none sections.Twins word before none = refl
asks_none sections.Solution word before none = refl

pub other_taken : (word : List ℕ) (old new : OliveProblem) → has_items old.section ≡ false → KeepsItems old new → TakesItem word old new
unfolding TakesItem AreRead KeepsItems
other_taken word old new none keeps said read free =
    let (free_before, men, bound, section) = keeps free in
    let of = read free_before in
    let no = ap has_items (sym of.section) ∙ none in
    record {
      men = λ s below. ap (λ d. man_at d.men s) men ∙ of.men s below
          ∙ sym (ap (or_man (man_on said s)) (no_man (section_after said) word s no) ∙ or_none (man_on said s));
      section = section ∙ of.section;
      asked = asks_none (section_after said) word (asked_in said) no ∙ of.asked ∙ ap asks (sym bound);
    }

pub man_taken : (word : List ℕ) (old new : OliveProblem) (section : Section) → old.section ≡ section
    → ((s : ℕ) → s < 64 → man_at new.diagram.men s ≡ or_man (man_at old.diagram.men s) (man_in section word s))
    → ((before : Asked) → asked_at section word before ≡ before) → new.fault ≡ old.fault → new.section ≡ old.section → new.bound ≡ old.bound
    → TakesItem word old new
unfolding TakesItem AreRead
man_taken word old new section is men none fault same bound said read free =
    let of = read (sym fault ∙ free) in
    let here : section ≡ section_after said = sym is ∙ of.section in
    record {
      men = λ s below. men s below ∙ ap (λ man. or_man man (man_in section word s)) (of.men s below)
          ∙ ap (λ part. or_man (man_on said s) (man_in part word s)) here;
      section = same ∙ of.section;
      asked = ap (λ part. asked_at part word (asked_in said)) (sym here) ∙ none (asked_in said) ∙ of.asked ∙ ap asks (sym bound);
    }

pub stipulation_item : (word : List ℕ) (old new : OliveProblem) (n : ℕ) → old.section ≡ sections.Stipulation → asked word ≡ Moves n
    → new.fault ≡ old.fault → new.diagram ≡ old.diagram → new.section ≡ old.section → new.bound ≡ Some n → TakesItem word old new
unfolding TakesItem AreRead
stipulation_item word old new n is says fault men same bound said read free =
    let of = read (sym fault ∙ free) in
    let here : section_after said ≡ sections.Stipulation = sym of.section ∙ is in
    record {
      men = λ s below. ap (λ d. man_at d.men s) men ∙ of.men s below
          ∙ sym (ap (λ part. or_man (man_on said s) (man_in part word s)) here ∙ or_none (man_on said s));
      section = same ∙ of.section;
      asked = ap (λ part. asked_at part word (asked_in said)) here ∙ says ∙ ap asks (sym bound);
    }

-- ---- keys

pub key_taken : (line word name : List ℕ) (said : List Said) (old new : OliveProblem) → word ≡ word_at line → has_colon word ≡ true
    → name ≡ take (length word - 1) word → new.section ≡ section_of name old.section → new.fault ≡ old.fault → new.diagram ≡ old.diagram
    → new.bound ≡ old.bound → AreRead said old → AreRead (key_onto line said) new
unfolding AreRead
key_taken line word name said old new at has named next fault men bound read free =
    let of = read (sym fault ∙ free) in
    let onto : key name ∷ said ≡ key_onto line said = ap (λ n. key n ∷ said) named
    ∙ ap (λ b. if b then key (take (length word - 1) word) ∷ said else said) (sym has)
    ∙ ap (λ w. if has_colon w then key (take (length w - 1) w) ∷ said else said) at in
    subst (λ all. AreReadOf all new) onto (record {
      men = λ s below. ap (λ d. man_at d.men s) men ∙ of.men s below;
      section = next ∙ ap (section_of name) of.section;
      asked = of.asked ∙ ap asks (sym bound);
    })

-- ---- the whole

pub are_new : (problem : OliveProblem) → ((s : ℕ) → s < 64 → man_at problem.diagram.men s ≡ None) → problem.section ≡ sections.Other
    → problem.bound ≡ None → AreRead [] problem
unfolding AreRead
are_new problem men section bound free = record { men = men; section = section; asked = ap asks (sym bound) }

pub items_set : (said : List Said) (problem : OliveProblem) (text : List ℕ) → problem.fault ≡ None → AreRead said problem
    → IsSetAs problem.diagram.men text → SetsUp (man_on said) text
unfolding AreRead
items_set said problem text free read set = sets_men (man_on said) problem.diagram text (read free).men set

pub items_ask : (said : List Said) (problem : OliveProblem) (n : ℕ) → problem.fault ≡ None → AreRead said problem → problem.bound ≡ Some n
    → asked_in said ≡ Moves n
unfolding AreRead
items_ask said problem n free read bound = (read free).asked ∙ ap asks bound

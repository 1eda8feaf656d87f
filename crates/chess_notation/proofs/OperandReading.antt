-- Where the strings of a segment fit and no semicolon stands outside them, operands are spelled.
use Rattle.std.proofs.Common.{◌≡◌, ◌≢◌, ℕ, suc, ◌+◌, ◌-◌, ◌<◌, ◌≤◌, ◌==◌, nat_le, List, [], ◌∷◌, ◌++◌, Bool, true, false}
use Rattle.std.proofs.Common.{Some, None, length, refl, ap, sym, ◌∙◌, arith, append_assoc, subst, if◌then◌else◌}
use Rattle.std.proofs.lemmas.Bool.Decides.{nat_tests}
use Rattle.std.proofs.lemmas.Bool.{eqb-true}
use mathlib.Core.Bool.{not}
use Rattle.chess_notation.specs.declared.quoting.Mode.{Mode}
use Rattle.chess_notation.specs.declared.quoting.Mode.TheVariants.{Gap, Plain, Quoted, Closed}
use Rattle.chess_notation.specs.Segments.{inside_after, ends_segment}
use Rattle.chess_notation.specs.Quoting.{is_outside, on_mode, fits_from}
use Rattle.chess_notation.specs.Operations.{Operand, AreWordBytes, HaveNoQuote, SpellsOperands}
use Rattle.chess_notation.specs.Operations.Operand.{Word, Text}

-- no semicolon outside a string
abbrev pub is_uncut : Bool → List ℕ → Bool
is_uncut inside [] = true
is_uncut inside (b ∷ bs) = if ends_segment inside b then false else is_uncut (inside_after inside b) bs

abbrev pub is_inside : Mode → Bool
is_inside mode = not (is_outside mode)

-- what is left of a segment, behind a byte
abbrev pub Left : Mode → List ℕ → Type 0
Left Gap bs = (operands : List Operand) × SpellsOperands (32 ∷ bs) operands
Left Plain bs = (word : List ℕ) × (rest : List ℕ) × (operands : List Operand) × (bs ≡ word ++ rest) × AreWordBytes word × SpellsOperands rest operands
Left (Quoted n) bs = (text : List ℕ) × (rest : List ℕ) × (operands : List Operand) × (bs ≡ text ++ 34 ∷ rest)
    × (length text ≤ 255 - n) × HaveNoQuote text × SpellsOperands rest operands
Left Closed bs = (operands : List Operand) × SpellsOperands bs operands

more_space : (bs : List ℕ) (operands : List Operand) → SpellsOperands (32 ∷ bs) operands → SpellsOperands (32 ∷ 32 ∷ bs) operands
more_space bs [] h = (suc h.0, ap (λ t. 32 ∷ t) h.1)
more_space bs (operand ∷ operands) h = (suc h.0, h.1, ap (λ t. 32 ∷ t) h.2, h.3, h.4)

-- the tests of a byte
uncut_mark : (inside : Bool) (bs : List ℕ) → is_uncut inside (34 ∷ bs) ≡ true → is_uncut (not inside) bs ≡ true
uncut_mark true bs h = h
uncut_mark false bs h = h

uncut_other : (inside : Bool) (b : ℕ) (bs : List ℕ) → b ≢ 34 → is_uncut inside (b ∷ bs) ≡ true → is_uncut inside bs ≡ true
uncut_other true b bs other h = let test : (b == 34) ≡ false = grind (arith, nat_tests) in rw test at h
uncut_other false b bs other h = uncut_outside (b == 59) refl h where
  uncut_outside : (end : Bool) → (b == 59) ≡ end → (if end then false else is_uncut (inside_after false b) bs) ≡ true → is_uncut false bs ≡ true
  uncut_outside true e h = cc
  uncut_outside false e h = let test : (b == 34) ≡ false = grind (arith, nat_tests) in rw test at h

uncut_end : (b : ℕ) (bs : List ℕ) → is_uncut false (b ∷ bs) ≡ true → b ≢ 59
uncut_end b bs h e = let bad : is_uncut false (59 ∷ bs) ≡ true = rw e at h in cc

abbrev pub Read : List ℕ → Type 0
Read bs = (mode : Mode) → fits_from mode bs ≡ true → is_uncut (is_inside mode) bs ≡ true → Left mode bs

spaced : (b : ℕ) (bs : List ℕ) → b ≡ 32 → (operands : List Operand) → SpellsOperands (32 ∷ 32 ∷ bs) operands → SpellsOperands (32 ∷ b ∷ bs) operands
spaced b bs e operands h = let P : ℕ → Type 0 = λ x. SpellsOperands (32 ∷ x ∷ bs) operands in subst P (sym e) h

spaced_front : (b : ℕ) (bs : List ℕ) → b ≡ 32 → (operands : List Operand) → SpellsOperands (32 ∷ bs) operands → SpellsOperands (b ∷ bs) operands
spaced_front b bs e operands h = let P : ℕ → Type 0 = λ x. SpellsOperands (x ∷ bs) operands in subst P (sym e) h

gap_step : (mark space : Bool) (b : ℕ) (bs : List ℕ) → (b == 34) ≡ mark → (b == 32) ≡ space
    → on_mode (if mark then Some (Quoted 0) else Some (if space then Gap else Plain)) (λ next. fits_from next bs) ≡ true
    → is_uncut false (b ∷ bs) ≡ true → Read bs → Left Gap (b ∷ bs)
gap_step true space b bs m s fits uncut read =
    let is_mark : b ≡ 34 = eqb-true b 34 m in
    let w = read (Quoted 0) fits (uncut_mark false bs (rw is_mark at uncut)) in (
      Text w.0 ∷ w.2,
      (
        0,
        w.1,
        ap (λ t. 32 ∷ t) (ap (λ x. x ∷ bs) is_mark
            ∙ ap (λ t. 34 ∷ t) (w.3 ∙ sym (append_assoc w.0 (34 ∷ []) w.1))),
        (omega (arith, w.4), w.5),
        w.6,
      ),
    )
gap_step false true b bs m s fits uncut read =
    let is_space : b ≡ 32 = eqb-true b 32 s in
    let other : b ≢ 34 = grind (arith, nat_tests) in
    let w = read Gap fits (uncut_other false b bs other uncut) in
    (w.0, spaced b bs is_space w.0 (more_space bs w.0 w.1))
gap_step false false b bs m s fits uncut read =
    let other : b ≢ 34 = grind (arith, nat_tests) in
    let solid : b ≢ 32 = grind (arith, nat_tests) in
    let w = read Plain fits (uncut_other false b bs other uncut) in
    (Word (b ∷ w.0) ∷ w.2, (0, w.1, ap (λ t. 32 ∷ b ∷ t) w.3, ((λ e. cc), (solid, other, uncut_end b bs uncut, w.4)), w.5))

plain_step : (mark space : Bool) (b : ℕ) (bs : List ℕ) → (b == 34) ≡ mark → (b == 32) ≡ space
    → on_mode (if mark then None else Some (if space then Gap else Plain)) (λ next. fits_from next bs) ≡ true
    → is_uncut false (b ∷ bs) ≡ true → Read bs → Left Plain (b ∷ bs)
plain_step true space b bs m s fits uncut read = cc
plain_step false true b bs m s fits uncut read =
    let is_space : b ≡ 32 = eqb-true b 32 s in
    let other : b ≢ 34 = grind (arith, nat_tests) in
    let w = read Gap fits (uncut_other false b bs other uncut) in
    ([], 32 ∷ bs, w.0, ap (λ x. x ∷ bs) is_space, tt, w.1)
plain_step false false b bs m s fits uncut read =
    let other : b ≢ 34 = grind (arith, nat_tests) in
    let solid : b ≢ 32 = grind (arith, nat_tests) in
    let w = read Plain fits (uncut_other false b bs other uncut) in
    (b ∷ w.0, w.1, w.2, ap (λ t. b ∷ t) w.3, (solid, other, uncut_end b bs uncut, w.4), w.5)

quoted_step : (mark long : Bool) (n b : ℕ) (bs : List ℕ) → (b == 34) ≡ mark → nat_le 255 n ≡ long
    → on_mode (if mark then Some Closed else (if long then None else Some (Quoted (n + 1)))) (λ next. fits_from next bs) ≡ true
    → is_uncut true (b ∷ bs) ≡ true → Read bs → Left (Quoted n) (b ∷ bs)
quoted_step true long n b bs m l fits uncut read =
    let is_mark : b ≡ 34 = eqb-true b 34 m in
    let w = read Closed fits (uncut_mark true bs (rw is_mark at uncut)) in
    ([], bs, w.0, ap (λ x. x ∷ bs) is_mark, omega arith, tt, w.1)
quoted_step false true n b bs m l fits uncut read = cc
quoted_step false false n b bs m l fits uncut read =
    let other : b ≢ 34 = grind (arith, nat_tests) in
    let w = read (Quoted (n + 1)) fits (uncut_other true b bs other uncut) in
    let small : n < 255 = grind (arith, nat_tests) in
    (b ∷ w.0, w.1, w.2, ap (λ t. b ∷ t) w.3, omega (arith, w.4), (other, w.5), w.6)

closed_step : (space : Bool) (b : ℕ) (bs : List ℕ) → (b == 32) ≡ space
    → on_mode (if space then Some Gap else None) (λ next. fits_from next bs) ≡ true
    → is_uncut false (b ∷ bs) ≡ true → Read bs → Left Closed (b ∷ bs)
closed_step true b bs s fits uncut read =
    let is_space : b ≡ 32 = eqb-true b 32 s in
    let other : b ≢ 34 = omega arith in
    let w = read Gap fits (uncut_other false b bs other uncut) in
    (w.0, spaced_front b bs is_space w.0 w.1)
closed_step false b bs s fits uncut read = cc

pub read_left : (bs : List ℕ) → Read bs
read_left [] Gap fits uncut = ([], (1, refl))
read_left [] Plain fits uncut = ([], [], [], refl, tt, (0, refl))
read_left [] (Quoted n) fits uncut = cc
read_left [] Closed fits uncut = ([], (0, refl))
read_left (b ∷ bs) Gap fits uncut = gap_step (b == 34) (b == 32) b bs refl refl fits uncut (read_left bs)
read_left (b ∷ bs) Plain fits uncut = plain_step (b == 34) (b == 32) b bs refl refl fits uncut (read_left bs)
read_left (b ∷ bs) (Quoted n) fits uncut = quoted_step (b == 34) (nat_le 255 n) n b bs refl refl fits uncut (read_left bs)
read_left (b ∷ bs) Closed fits uncut = closed_step (b == 32) b bs refl fits uncut (read_left bs)

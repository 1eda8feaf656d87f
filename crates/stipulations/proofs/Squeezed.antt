-- A text in which runs of spaces are one space.
use Rattle.std.proofs.Common.{◌≡◌, ◌≢◌, ◌∙◌, ◌==◌, ℕ, List, [], ◌∷◌, Bool, true, false, refl, ap, sym, eqb-true, length, suc, suc-ne-zero}
use Rattle.std.specs.Char.{is_ascii_alphabetic, is_ascii_digit}
use Rattle.chess_board.specs.Characters.{char}
use Rattle.stipulations.specs.Parts.{begins_with, behind_space, is_space, squeezed, trimmed}
use Rattle.stipulations.specs.Patterns.{behind_number, behind_run, number_at, run}

none_at : (bs : List ℕ) (b : ℕ) (is : Bool) → is_space b ≡ is → (trimmed bs ≡ [] → squeezed bs ≡ []) → trimmed (b ∷ bs) ≡ [] → squeezed (b ∷ bs) ≡ []
none_at bs b true is rest none = rw is (ap behind_space (rest (rw is at none)))
none_at bs b false is rest none = let never = rw is at none in cc

pub squeezed_none : (bs : List ℕ) → trimmed bs ≡ [] → squeezed bs ≡ []
squeezed_none [] none = refl
squeezed_none (b ∷ bs) none = none_at bs b (is_space b) refl (squeezed_none bs) none

some_at : (bs : List ℕ) (b : ℕ) (is : Bool) → is_space b ≡ is → (trimmed bs ≢ [] → behind_space (squeezed bs) ≡ char " " ∷ squeezed (trimmed bs))
    → trimmed (b ∷ bs) ≢ [] → behind_space (squeezed (b ∷ bs)) ≡ char " " ∷ squeezed (trimmed (b ∷ bs))
some_at bs b true is rest some = rw is (rw (rest (rw is at some)) refl)
some_at bs b false is rest some = rw (is, is) refl

pub squeezed_some : (bs : List ℕ) → trimmed bs ≢ [] → behind_space (squeezed bs) ≡ char " " ∷ squeezed (trimmed bs)
squeezed_some [] some = absurd (some refl)
squeezed_some (b ∷ bs) some = some_at bs b (is_space b) refl (squeezed_some bs) some

spaced_begins_at : (holds : ℕ → Bool) (xs : List ℕ) (x : ℕ) (is : Bool) → is_space x ≡ is → holds (char " ") ≡ false
    → begins_with holds (behind_space (x ∷ xs)) ≡ false
spaced_begins_at holds xs x true is isnt = rw is (ap holds (eqb-true x (char " ") is) ∙ isnt)
spaced_begins_at holds xs x false is isnt = rw is isnt

spaced_begins : (holds : ℕ → Bool) (xs : List ℕ) → holds (char " ") ≡ false → begins_with holds (behind_space xs) ≡ false
spaced_begins holds [] isnt = refl
spaced_begins holds (x ∷ xs) isnt = spaced_begins_at holds xs x (is_space x) refl isnt

begins_at : (holds : ℕ → Bool) (bs : List ℕ) (b : ℕ) (is : Bool) → is_space b ≡ is → holds (char " ") ≡ false
    → begins_with holds (squeezed (b ∷ bs)) ≡ begins_with holds (b ∷ bs)
begins_at holds bs b true is isnt = rw is (spaced_begins holds (squeezed bs) isnt ∙ sym (ap holds (eqb-true b (char " ") is) ∙ isnt))
begins_at holds bs b false is isnt = rw is refl

pub begins_squeezed : (holds : ℕ → Bool) (bs : List ℕ) → holds (char " ") ≡ false → begins_with holds (squeezed bs) ≡ begins_with holds bs
begins_squeezed holds [] isnt = refl
begins_squeezed holds (b ∷ bs) isnt = begins_at holds bs b (is_space b) refl isnt

run_of_none : (holds : ℕ → Bool) (xs : List ℕ) → begins_with holds xs ≡ false → run holds xs ≡ []
run_of_none holds [] isnt = refl
run_of_none holds (x ∷ xs) isnt = rw isnt refl

behind_none : (holds : ℕ → Bool) (xs : List ℕ) → begins_with holds xs ≡ false → behind_run holds xs ≡ xs
behind_none holds [] isnt = refl
behind_none holds (x ∷ xs) isnt = rw isnt refl

run_at : (holds : ℕ → Bool) (bs : List ℕ) (b : ℕ) (is : Bool) → is_space b ≡ is → holds (char " ") ≡ false → run holds (squeezed bs) ≡ run holds bs
    → run holds (squeezed (b ∷ bs)) ≡ run holds (b ∷ bs)
run_at holds bs b true is isnt rest =
    run_of_none holds (squeezed (b ∷ bs)) (begins_at holds bs b true is isnt ∙ ap holds (eqb-true b (char " ") is) ∙ isnt)
    ∙ sym (run_of_none holds (b ∷ bs) (ap holds (eqb-true b (char " ") is) ∙ isnt))
run_at holds bs b false is isnt rest = rw (is, rest) refl

pub run_squeezed : (holds : ℕ → Bool) (bs : List ℕ) → holds (char " ") ≡ false → run holds (squeezed bs) ≡ run holds bs
run_squeezed holds [] isnt = refl
run_squeezed holds (b ∷ bs) isnt = run_at holds bs b (is_space b) refl isnt (run_squeezed holds bs isnt)

behind_joined : (holds : ℕ → Bool) (bs : List ℕ) (b : ℕ) (does : Bool) → is_space b ≡ false → holds b ≡ does
    → behind_run holds (squeezed bs) ≡ squeezed (behind_run holds bs) → behind_run holds (b ∷ squeezed bs) ≡ squeezed (behind_run holds (b ∷ bs))
behind_joined holds bs b true is does rest = rw does rest
behind_joined holds bs b false is does rest = rw (does, is) refl

behind_at : (holds : ℕ → Bool) (bs : List ℕ) (b : ℕ) (is : Bool) → is_space b ≡ is → holds (char " ") ≡ false
    → behind_run holds (squeezed bs) ≡ squeezed (behind_run holds bs) → behind_run holds (squeezed (b ∷ bs)) ≡ squeezed (behind_run holds (b ∷ bs))
behind_at holds bs b true is isnt rest =
    behind_none holds (squeezed (b ∷ bs)) (begins_at holds bs b true is isnt ∙ ap holds (eqb-true b (char " ") is) ∙ isnt)
    ∙ ap squeezed (sym (behind_none holds (b ∷ bs) (ap holds (eqb-true b (char " ") is) ∙ isnt)))
behind_at holds bs b false is isnt rest = rw is (behind_joined holds bs b (holds b) is refl rest)

pub behind_squeezed : (holds : ℕ → Bool) (bs : List ℕ) → holds (char " ") ≡ false → behind_run holds (squeezed bs) ≡ squeezed (behind_run holds bs)
behind_squeezed holds [] isnt = refl
behind_squeezed holds (b ∷ bs) isnt = behind_at holds bs b (is_space b) refl isnt (behind_squeezed holds bs isnt)

empty_of : (xs : List ℕ) → (length xs == 0) ≡ true → xs ≡ []
empty_of [] is = refl
empty_of (x ∷ xs) is = absurd (suc-ne-zero (length xs) (eqb-true (suc (length xs)) 0 is))

some_of : (xs : List ℕ) → (length xs == 0) ≡ false → xs ≢ []
some_of [] is = let never : true ≡ false = is in cc
some_of (x ∷ xs) is = λ none. cc

pub spaced_none : (bs behind : List ℕ) → behind ≡ trimmed bs → (length behind == 0) ≡ true → behind_space (squeezed bs) ≡ []
spaced_none bs behind are none = ap behind_space (squeezed_none bs (sym are ∙ empty_of behind none))

pub spaced_some : (bs behind : List ℕ) → behind ≡ trimmed bs → (length behind == 0) ≡ false → behind_space (squeezed bs) ≡ char " " ∷ squeezed behind
spaced_some bs behind are some = rw are (squeezed_some bs (rw are at (some_of behind some)))

pub digits_number : (text number : List ℕ) → begins_with is_ascii_digit text ≡ true → number ≡ run is_ascii_digit text
    → number ≡ number_at (squeezed text)
digits_number text number begins is = rw (begins_squeezed is_ascii_digit text refl, begins) (is ∙ sym (run_squeezed is_ascii_digit text refl))

pub behind_digits : (text behind : List ℕ) → begins_with is_ascii_digit text ≡ true → behind ≡ behind_run is_ascii_digit text
    → squeezed behind ≡ behind_number (squeezed text)
behind_digits text behind begins is =
    rw (begins_squeezed is_ascii_digit text refl, begins) (ap squeezed is ∙ sym (behind_squeezed is_ascii_digit text refl))

pub letters_number : (text number : List ℕ) → begins_with is_ascii_digit text ≡ false → number ≡ run is_ascii_alphabetic text
    → number ≡ number_at (squeezed text)
letters_number text number begins is = rw (begins_squeezed is_ascii_digit text refl, begins) (is ∙ sym (run_squeezed is_ascii_alphabetic text refl))

pub behind_letters : (text behind : List ℕ) → begins_with is_ascii_digit text ≡ false → behind ≡ behind_run is_ascii_alphabetic text
    → squeezed behind ≡ behind_number (squeezed text)
behind_letters text behind begins is =
    rw (begins_squeezed is_ascii_digit text refl, begins) (ap squeezed is ∙ sym (behind_squeezed is_ascii_alphabetic text refl))

-- A number that is read is spelled so, and one that is spelled is read.
use Rattle.std.proofs.Common.{◌≡◌, ◌==◌, ◌&&◌, ◌++◌, ℕ, Bool, List, [], ◌∷◌, Option, None, Some, true, false}
use Rattle.std.proofs.Common.{cond, length, refl, sym, ap, ◌∙◌, arith, nat_lt, nat_le, lt-ltb, option_map}
use Rattle.std.proofs.lemmas.Bool.{and_parts, ltb-true, leb-true, le-leb, eqb-true}
use Rattle.std.proofs.lemmas.Option.{cond_some, option_and_then_some, same_Some, none-some, some_pair_parts}
use Rattle.std.specs.Option.{option_and_then}
use Rattle.std.specs.List.{list_all}
use Rattle.chess_board.specs.Fields.{digits_value}
use Rattle.chess_notation.specs.Operations.{is_digit}
use Rattle.desk_scripts.specs.Scripts.{SpellsNumber}
use Rattle.desk_scripts.specs.inside.ScriptReading.{cut_at, is_number, number_of, number_cut, with_byte, with_rest}

pub map_some : {A B P : Type 0} (f : A → B) (o : Option A) (y : B) → option_map f o ≡ Some y → ((x : A) → o ≡ Some x → f x ≡ y → P) → P
map_some f None y is go = absurd (none-some y is)
map_some f (Some x) y is go = go x refl (same_Some (f x) y is)

pub number_spelled : (text : List ℕ) (n : ℕ) → number_of text ≡ Some n → SpellsNumber text n
unfolding number_of
number_spelled text n is =
    let parts = cond_some (is_number text) (digits_value text) n is in
    let outer = and_parts (nat_lt 0 (length text) && nat_le (length text) 9) (list_all is_digit text) parts.0 in
    let inner = and_parts (nat_lt 0 (length text)) (nat_le (length text) 9) outer.0 in
    (ltb-true 0 (length text) inner.0, leb-true (length text) 9 inner.1, outer.1, sym parts.1)

pub number_read : (text : List ℕ) (n : ℕ) → SpellsNumber text n → number_of text ≡ Some n
unfolding number_of
number_read text n (some, few, digits, value) =
    let test : is_number text ≡ true = rw (lt-ltb 0 (length text) some, le-leb (length text) 9 few, digits) refl in
    ap (λ t. cond t (Some (digits_value text)) None) test ∙ ap (λ m. Some m) (sym value)

cut_behind : (byte b : ℕ) (bs : List ℕ) (is_byte : Bool) (front back : List ℕ) → (b == byte) ≡ is_byte
    → cond {A = Option (List ℕ × List ℕ)} is_byte (Some ([], bs)) (option_map (with_byte b) (cut_at byte bs)) ≡ Some (front, back)
    → ((front back : List ℕ) → cut_at byte bs ≡ Some (front, back) → bs ≡ front ++ byte ∷ back) → (b ∷ bs) ≡ front ++ byte ∷ back
cut_behind byte b bs true front back here is more =
    let parts = some_pair_parts [] front bs back is in
    rw (sym parts.0, sym parts.1, eqb-true b byte here) refl
cut_behind byte b bs false front back here is more = map_some (with_byte b) (cut_at byte bs) (front, back) is step where
  step : (c : List ℕ × List ℕ) → cut_at byte bs ≡ Some c → with_byte b c ≡ (front, back) → (b ∷ bs) ≡ front ++ byte ∷ back
  step c cut same = rw (sym (ap (λ p. p.0) same), sym (ap (λ p. p.1) same)) (ap (λ t. b ∷ t) (more c.0 c.1 cut))

pub cut_spelled : (byte : ℕ) (text front back : List ℕ) → cut_at byte text ≡ Some (front, back) → text ≡ front ++ byte ∷ back
cut_spelled byte [] front back is = absurd (none-some (front, back) is)
cut_spelled byte (b ∷ bs) front back is = cut_behind byte b bs (b == byte) front back refl is (cut_spelled byte bs)

no_space : (b : ℕ) → is_digit b ≡ true → (b == 32) ≡ false
no_space b digit =
    let low = leb-true 48 b ((and_parts (nat_le 48 b) (nat_le b 57) digit).0) in
    grind (arith, low)

-- A number has no space in it.
pub cut_read : (front back : List ℕ) → list_all is_digit front ≡ true → cut_at 32 (front ++ 32 ∷ back) ≡ Some (front, back)
cut_read [] back digits = refl
cut_read (b ∷ bs) back digits =
    let parts = and_parts (is_digit b) (list_all is_digit bs) digits in
    rw (no_space b parts.0) (ap (option_map (with_byte b)) (cut_read bs back parts.1))

pub number_cut_spelled : (text : List ℕ) (n : ℕ) (rest : List ℕ) → number_cut text ≡ Some (n, rest)
    → (number : List ℕ) × (text ≡ number ++ 32 ∷ rest) × SpellsNumber number n
number_cut_spelled text n rest is =
    option_and_then_some (λ cut. option_map (with_rest cut.1) (number_of cut.0)) (cut_at 32 text) (n, rest) is step where
      step : (cut : List ℕ × List ℕ) → cut_at 32 text ≡ Some cut → option_map (with_rest cut.1) (number_of cut.0) ≡ Some (n, rest)
          → (number : List ℕ) × (text ≡ number ++ 32 ∷ rest) × SpellsNumber number n
      step cut at found = map_some (with_rest cut.1) (number_of cut.0) (n, rest) found (λ m is_m same. (
        cut.0,
        cut_spelled 32 text cut.0 cut.1 at ∙ ap (λ t. cut.0 ++ 32 ∷ t) (ap (λ p. p.1) same),
        number_spelled cut.0 n (is_m ∙ ap (λ p. Some p.0) same),
      ))

pub number_cut_read : (number : List ℕ) (n : ℕ) (rest : List ℕ) → SpellsNumber number n → number_cut (number ++ 32 ∷ rest) ≡ Some (n, rest)
number_cut_read number n rest spelled =
    ap (option_and_then (λ cut. option_map (with_rest cut.1) (number_of cut.0))) (cut_read number rest spelled.2)
    ∙ ap (option_map (with_rest rest)) (number_read number n spelled)

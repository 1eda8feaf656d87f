-- The texts of the fields after the placement: none has a space, each is read again, and no two values share one.
use Rattle.std.proofs.Common.{◌≡◌, ◌∙◌, ℕ, ◌+◌, ◌-◌, ◌*◌, ◌/◌, ◌%◌, ◌<◌, ◌≤◌, List, [], ◌∷◌, ◌++◌, Bool, true, false, Option}
use Rattle.std.proofs.Common.{Some, None, length, get_or, length-append, refl, ap, sym, arith, inl, inr, ◌==◌}
use Rattle.std.specs.Prelude.{All, decimal}
use Rattle.std.proofs.lemmas.List.Elements.{All-nil, All-cons, All-append, All-weaker}
use Rattle.std.proofs.lemmas.List.Sums.{fold-append}
use Rattle.std.proofs.lemmas.Bool.Decides.{nat_tests}
use Rattle.std.proofs.lemmas.Fmt.{decimal_by_steps, length-decimal-le}
use Rattle.chess_board.specs.declared.men.Colour.{Colour}
use Rattle.chess_board.specs.declared.men.Colour.TheVariants.{White, Black}
use Rattle.chess_board.specs.declared.men.Rights.{Rights}
use Rattle.chess_board.specs.Squares.{file_of, rank_of}
use Rattle.chess_board.specs.Fields.{side_text, letter_if, castling_text, rights_in, IsCastling, IsRightLetter, IsRightLetters}
use Rattle.chess_board.specs.Fields.{times, target_text, SpellsTarget, IsDigit, digits_value, SpellsCounter}

-- none of the bytes is a space
abbrev pub IsSpaceless : List ℕ → Type 0
IsSpaceless text = All (λ b. (b == 32) ≡ false) text

one : (b : ℕ) → (b == 32) ≡ false → IsSpaceless (b ∷ [])
one b h = All-cons (λ x. (x == 32) ≡ false) b [] h (All-nil _)

not_space : (b : ℕ) → 32 < b → (b == 32) ≡ false
not_space b h = grind (arith, nat_tests)

pub side_spaceless : (side : Colour) → IsSpaceless (side_text side)
side_spaceless White = one 119 refl
side_spaceless Black = one 98 refl

letters_apart : {X : Type 0} (w b : ℕ) → w ≡ 119 → b ≡ 98 → w ≡ b → X
letters_apart w b at_w at_b e = absurd (omega arith)

pub side_once : (a b : Colour) → side_text a ≡ side_text b → a ≡ b
side_once White White e = refl
side_once White Black e = letters_apart 119 98 refl refl (ap (λ (t : List ℕ). get_or t 0 0) e)
side_once Black White e = letters_apart 119 98 refl refl (ap (λ (t : List ℕ). get_or t 0 0) (sym e))
side_once Black Black e = refl

-- Castling.
pub castling_spaceless : (rights : Rights) → IsSpaceless (castling_text rights)
castling_spaceless rights = go rights.white_king_side rights.white_queen_side rights.black_king_side rights.black_queen_side where
  letter : (has : Bool) (b : ℕ) → (b == 32) ≡ false → IsSpaceless (letter_if has b)
  letter true b h = one b h
  letter false b h = All-nil _

  letters : (a b c d : Bool) → IsSpaceless (letter_if a 75 ++ letter_if b 81 ++ letter_if c 107 ++ letter_if d 113)
  letters a b c d = All-append (λ x. (x == 32) ≡ false) (letter_if a 75 ++ letter_if b 81 ++ letter_if c 107) (letter_if d 113)
      (All-append (λ x. (x == 32) ≡ false) (letter_if a 75 ++ letter_if b 81) (letter_if c 107)
      (All-append (λ x. (x == 32) ≡ false) (letter_if a 75) (letter_if b 81) (letter a 75 refl) (letter b 81 refl))
      (letter c 107 refl)) (letter d 113 refl)

  go : (a b c d : Bool) → IsSpaceless
      (castling_text (record { white_king_side = a; white_queen_side = b; black_king_side = c; black_queen_side = d }))
  go true b c d = letters true b c d
  go false true c d = letters false true c d
  go false false true d = letters false false true d
  go false false false true = letters false false false true
  go false false false false = one 45 refl

pub castling_read : (rights : Rights) → rights ≡ rights_in (castling_text rights)
castling_read rights = go rights.white_king_side rights.white_queen_side rights.black_king_side rights.black_queen_side where
  go : (a b c d : Bool) → record { white_king_side = a; white_queen_side = b; black_king_side = c; black_queen_side = d }
      ≡ rights_in (castling_text (record { white_king_side = a; white_queen_side = b; black_king_side = c; black_queen_side = d }))
  go true true true true = refl
  go true true true false = refl
  go true true false true = refl
  go true true false false = refl
  go true false true true = refl
  go true false true false = refl
  go true false false true = refl
  go true false false false = refl
  go false true true true = refl
  go false true true false = refl
  go false true false true = refl
  go false true false false = refl
  go false false true true = refl
  go false false true false = refl
  go false false false true = refl
  go false false false false = refl

-- four letters that differ, each there or not
abbrev letters : Bool → Bool → Bool → Bool → List ℕ
letters a b c d = letter_if a 75 ++ letter_if b 81 ++ letter_if c 107 ++ letter_if d 113

pub castling_spelt : (rights : Rights) → IsCastling (castling_text rights)
castling_spelt rights = go rights.white_king_side rights.white_queen_side rights.black_king_side rights.black_queen_side where
  letter : (has : Bool) (b : ℕ) → IsRightLetter b → All IsRightLetter (letter_if has b)
  letter true b h = All-cons IsRightLetter b [] h (All-nil IsRightLetter)
  letter false b h = All-nil IsRightLetter

  all : (a b c d : Bool) → All IsRightLetter (letters a b c d)
  all a b c d = All-append IsRightLetter (letter_if a 75 ++ letter_if b 81 ++ letter_if c 107) (letter_if d 113)
      (All-append IsRightLetter (letter_if a 75 ++ letter_if b 81) (letter_if c 107)
      (All-append IsRightLetter (letter_if a 75) (letter_if b 81) (letter a 75 (inl refl)) (letter b 81 (inr (inl refl))))
      (letter c 107 (inr (inr (inl refl))))) (letter d 113 (inr (inr (inr refl))))

  once : (a b c d : Bool) → (times 75 (letters a b c d) ≤ 1) × (times 81 (letters a b c d) ≤ 1)
      × (times 107 (letters a b c d) ≤ 1) × (times 113 (letters a b c d) ≤ 1)
  once false false false false = (omega arith, omega arith, omega arith, omega arith)
  once false false false true = (omega arith, omega arith, omega arith, omega arith)
  once false false true false = (omega arith, omega arith, omega arith, omega arith)
  once false false true true = (omega arith, omega arith, omega arith, omega arith)
  once false true false false = (omega arith, omega arith, omega arith, omega arith)
  once false true false true = (omega arith, omega arith, omega arith, omega arith)
  once false true true false = (omega arith, omega arith, omega arith, omega arith)
  once false true true true = (omega arith, omega arith, omega arith, omega arith)
  once true false false false = (omega arith, omega arith, omega arith, omega arith)
  once true false false true = (omega arith, omega arith, omega arith, omega arith)
  once true false true false = (omega arith, omega arith, omega arith, omega arith)
  once true false true true = (omega arith, omega arith, omega arith, omega arith)
  once true true false false = (omega arith, omega arith, omega arith, omega arith)
  once true true false true = (omega arith, omega arith, omega arith, omega arith)
  once true true true false = (omega arith, omega arith, omega arith, omega arith)
  once true true true true = (omega arith, omega arith, omega arith, omega arith)

  right : (a b c d : Bool) → 0 < length (letters a b c d) → IsRightLetters (letters a b c d)
  right a b c d some = let e = once a b c d in
      record { some = some; letters = all a b c d; white_king_side = e.0; white_queen_side = e.1; black_king_side = e.2; black_queen_side = e.3 }

  go : (a b c d : Bool) → IsCastling (castling_text (record { white_king_side = a; white_queen_side = b; black_king_side = c; black_queen_side = d }))
  go true b c d = inr (right true b c d (omega arith))
  go false true c d = inr (right false true c d (omega arith))
  go false false true d = inr (right false false true d (omega arith))
  go false false false true = inr (right false false false true (omega arith))
  go false false false false = inl refl

-- The target.
pub target_spaceless : (target : Option ℕ) → IsSpaceless (target_text target)
target_spaceless None = one 45 refl
target_spaceless (Some square) =
    All-cons (λ x. (x == 32) ≡ false) (97 + file_of square) ((49 + rank_of square) ∷ []) (not_space (97 + file_of square) (omega arith))
    (one (49 + rank_of square) (not_space (49 + rank_of square) (omega arith)))

pub target_once : (side : Colour) (a b : Option ℕ) (text : List ℕ) → SpellsTarget side text a → SpellsTarget side text b → a ≡ b
target_once side None None text h k = refl
target_once side None (Some square) text h k = let e : target_text None ≡ target_text (Some square) = sym h.1 ∙ k.1 in cc
target_once side (Some square) None text h k = let e : target_text None ≡ target_text (Some square) = sym k.1 ∙ h.1 in cc
target_once side (Some a) (Some b) text h k =
    let e : (97 + file_of a) ∷ (49 + rank_of a) ∷ [] ≡ (97 + file_of b) ∷ (49 + rank_of b) ∷ [] = sym h.1 ∙ k.1 in
    let files : 97 + file_of a ≡ 97 + file_of b = cc in
    let ranks : 49 + rank_of a ≡ 49 + rank_of b = cc in
    ap Some (omega arith)

-- Counters.
pub record IsCounterOf (n : ℕ) (text : List ℕ) : Type 0 where
  pub digits : All IsDigit text
  pub value : digits_value text ≡ n
  pub some : 0 < length text

counter_one : (n : ℕ) → n < 10 → IsCounterOf n ((48 + n) ∷ [])
counter_one n h = record {
  digits = All-cons IsDigit (48 + n) [] (omega arith, omega arith) (All-nil IsDigit);
  value = omega arith;
  some = omega arith;
}

counter_more : (n : ℕ) (text : List ℕ) → 10 ≤ n → IsCounterOf (n / 10) text → IsCounterOf n (text ++ (48 + n % 10) ∷ [])
counter_more n text h front = record {
  digits = All-append IsDigit text ((48 + n % 10) ∷ []) front.digits (All-cons IsDigit (48 + n % 10) [] (omega arith, omega arith) (All-nil IsDigit));
  value = fold-append (λ (m b : ℕ). 10 * m + (b - 48)) 0 text ((48 + n % 10) ∷ [])
      ∙ ap (λ m. 10 * m + ((48 + n % 10) - 48)) front.value ∙ omega arith;
  some = rw length-append (omega arith);
}

pub counter_read : (n : ℕ) → n ≤ 9999 → SpellsCounter (decimal n) n
counter_read n h =
    let known = decimal_by_steps IsCounterOf counter_one counter_more n (omega arith) in
    ((known.some, length-decimal-le 4 n (omega arith) (omega arith) (omega arith), known.digits), sym known.value)

pub counter_spaceless : (n : ℕ) → n ≤ 9999 → IsSpaceless (decimal n)
counter_spaceless n h = All-weaker IsDigit (λ b. (b == 32) ≡ false) (λ b digit. not_space b (omega arith)) (decimal n) (counter_read n h).0.2

-- A side passes: the fields of the position it leaves.
use Rattle.std.proofs.Common.{◌≡◌, ◌≢◌, ◌∙◌, Result, Ok, Err, ℕ, ◌<◌, ◌≤◌, ◌==◌, List, [], ◌∷◌, ◌++◌, true, false}
use Rattle.std.proofs.Common.{Some, None, length, drop, get_or, refl, sym, ap, arith, append_assoc}
use Rattle.std.specs.List.{slice_split, All}
use Rattle.std.proofs.lemmas.Bool.Decides.{nat_tests}
use Rattle.std.proofs.lemmas.List.Splits.{slice_split_none, slice_split_at}
use Rattle.chess_board.specs.declared.men.Colour.{Colour}
use Rattle.chess_board.specs.declared.men.Colour.TheVariants.{White, Black}
use Rattle.chess_board.specs.Men.{other_side}
use Rattle.chess_board.specs.Positions.{Setup}
use Rattle.chess_board.specs.Attacks.{is_in_check}
use Rattle.chess_board.specs.Soundness.{IsSound}
use Rattle.chess_board.specs.Fields.{side_text, castling_text, target_text}
use Rattle.chess_board.specs.Placement.{placement_text}
use Rattle.chess_board.specs.Fens.{SpellsSetup, position_text}
use Rattle.chess_board.specs.Laws.{ArePrinted, IsVisibleWord}
use Rattle.mate_tree.specs.Passing.{passed}

abbrev pub words : List ℕ → List (List ℕ)
words text = slice_split (λ b. b == 32) text

other_byte : (a b : ℕ) → a ≢ b → (a == b) ≡ false
other_byte a b other = grind (arith, nat_tests)

visible_apart : (word : List ℕ) → IsVisibleWord word → All (λ b. (b == 32) ≡ false) word
visible_apart word visible = λ k d inside. other_byte (get_or word k d) 32 (visible_other (get_or word k d) (visible.1 k d inside))
  where
    visible_other : (b : ℕ) → (32 < b) × (b ≤ 126) → b ≢ 32
    visible_other b seen = λ e. absurd (omega (arith, seen.0, e))

first_word : (word rest : List ℕ) → All (λ b. (b == 32) ≡ false) word → words (word ++ 32 ∷ rest) ≡ word ∷ words rest
first_word word rest apart = slice_split_at (λ b. b == 32) word 32 rest apart refl

in_line : (a b c d : List ℕ) → a ++ 32 ∷ b ++ 32 ∷ c ++ 32 ∷ d ≡ a ++ 32 ∷ (b ++ 32 ∷ (c ++ 32 ∷ d))
in_line a b c d = append_assoc (a ++ 32 ∷ b) (32 ∷ c) (32 ∷ d) ∙ append_assoc a (32 ∷ b) (32 ∷ (c ++ 32 ∷ d))

-- The words of a position's text are its four fields.
pub four_words : (p : Setup) → ArePrinted p
    → words (position_text p) ≡ placement_text p.men ∷ side_text p.side ∷ castling_text p.rights ∷ target_text p.target ∷ []
unfolding position_text
four_words p printed =
    let placement = placement_text p.men in
    let side = side_text p.side in
    let castling = castling_text p.rights in
    let target = target_text p.target in
    ap words (in_line placement side castling target)
    ∙ first_word placement (side ++ 32 ∷ (castling ++ 32 ∷ target)) (visible_apart placement printed.placement)
    ∙ ap (λ t. placement ∷ t) (first_word side (castling ++ 32 ∷ target) (visible_apart side printed.side)
    ∙ ap (λ t. side ∷ t) (first_word castling target (visible_apart castling printed.castling)
    ∙ ap (λ t. castling ∷ t) (slice_split_none (λ b. b == 32) target (visible_apart target printed.target))))

-- A text of four words is cut at the first three spaces.
pub first_is : (text a b w x y z : List ℕ) → words text ≡ w ∷ x ∷ y ∷ z ∷ [] → words text ≡ a ∷ words b → (a ≡ w) × (words b ≡ x ∷ y ∷ z ∷ [])
first_is text a b w x y z four cut =
    let same : a ∷ words b ≡ w ∷ x ∷ y ∷ z ∷ [] = sym cut ∙ four in
    (ap (λ ws. get_or ws 0 []) same, ap (drop 1) same)

pub second_is : (text a b x y z : List ℕ) → words text ≡ x ∷ y ∷ z ∷ [] → words text ≡ a ∷ words b → words b ≡ y ∷ z ∷ []
second_is text a b x y z three cut = ap (drop 1) (sym cut ∙ three)

pub third_is : (text a b y z : List ℕ) → words text ≡ y ∷ z ∷ [] → words text ≡ a ∷ words b → a ≡ y
third_is text a b y z two cut = ap (λ ws. get_or ws 0 []) (sym cut ∙ two)

pub no_one_word : (text y z : List ℕ) (ws : List (List ℕ)) → words text ≡ y ∷ z ∷ ws → words text ≡ text ∷ [] → ⊥
no_one_word text y z ws more one = absurd (omega (arith, ap length (sym more ∙ one)))

-- The position once the side to move has passed.
abbrev pub passed_setup : Setup → Setup
passed_setup p = record { men = p.men; side = other_side p.side; rights = p.rights; target = None }

pub passed_safe : (p : Setup) → is_in_check p.men p.side ≡ false → passed p ≡ Some (passed_setup p)
unfolding passed
passed_safe p safe = rw safe refl

pub passed_in_check : (p : Setup) → is_in_check p.men p.side ≡ true → passed p ≡ None
unfolding passed
passed_in_check p check = rw check refl

-- The fields with the other side to move and no target spell it.
pub passed_spelt : (p : Setup) → ArePrinted p
    → SpellsSetup (record {
      placement = placement_text p.men;
      side = side_text (other_side p.side);
      castling = castling_text p.rights;
      target = 45 ∷ [];
    }) (passed_setup p)
passed_spelt p printed = record { placement = printed.spelt.placement; side = refl; castling = printed.spelt.castling; target = (tt, refl) }

other_twice : (c : Colour) → other_side (other_side c) ≡ c
other_twice White = refl
other_twice Black = refl

pub passed_sound : (p : Setup) → IsSound p → is_in_check p.men p.side ≡ false → IsSound (passed_setup p)
passed_sound p sound safe = record {
  squares = sound.squares;
  kings = sound.kings;
  pawns = sound.pawns;
  few = sound.few;
  rights = sound.rights;
  target = refl;
  safe = ap (is_in_check p.men) (other_twice p.side) ∙ safe;
}

pub ok_one : {X E : Type 0} (r : Result X E) (x y : X) → r ≡ Ok x → r ≡ Ok y → x ≡ y
ok_one r x y is same = cc

pub no_fault : {X E : Type 0} (r : Result X E) (fault : E) (y : X) → r ≡ Err fault → r ≡ Ok y → ⊥
no_fault r fault y is same = cc

-- What spells it by the text's words that were cut off.
pub read_spelt : (p : Setup) (text placement rest side rest' castling last letter : List ℕ) → ArePrinted p → text ≡ position_text p
    → words text ≡ placement ∷ words rest → words rest ≡ side ∷ words rest' → words rest' ≡ castling ∷ words last
    → letter ≡ side_text (other_side p.side)
    → SpellsSetup (record { placement = placement; side = letter; castling = castling; target = 45 ∷ [] }) (passed_setup p)
read_spelt p text placement rest side rest' castling last letter printed is first second third other =
    let four = ap words is ∙ four_words p printed in
    let (placement_is, three) = first_is text placement rest _ _ _ _ four first in
    let two = second_is rest side rest' _ _ _ three second in
    let castling_is = third_is rest' castling last _ _ two third in
    rw (placement_is, castling_is, other) (passed_spelt p printed)

pub three_words : (p : Setup) (text placement rest : List ℕ) → ArePrinted p → text ≡ position_text p → words text ≡ placement ∷ words rest
    → words rest ≡ side_text p.side ∷ castling_text p.rights ∷ target_text p.target ∷ []
three_words p text placement rest printed is first = (first_is text placement rest _ _ _ _ (ap words is ∙ four_words p printed) first).1

pub two_words : (p : Setup) (text placement rest side rest' : List ℕ) → ArePrinted p → text ≡ position_text p
    → words text ≡ placement ∷ words rest → words rest ≡ side ∷ words rest'
    → words rest' ≡ castling_text p.rights ∷ target_text p.target ∷ []
two_words p text placement rest side rest' printed is first second =
    second_is rest side rest' _ _ _ (three_words p text placement rest printed is first) second

-- A side's king stands on one square alone, and check is attack on that square.
use Rattle.std.proofs.Common.{◌≡◌, ℕ, zero, suc, ◌+◌, ◌<◌, Bool, true, false, ◌&&◌, cond, List, [], ◌∷◌}
use Rattle.std.proofs.Common.{length, get_or, count_by, Option, None, refl, sym, ap, ◌∙◌, arith}
use Rattle.std.proofs.lemmas.Bool.{and_from}
use Rattle.std.proofs.lemmas.List.Sums.{sum_by-cons}
use Rattle.chess_board.specs.declared.men.Colour.{Colour}
use Rattle.chess_board.specs.declared.men.Colour.TheVariants.{White, Black}
use Rattle.chess_board.specs.declared.men.Kind.TheVariants.{King}
use Rattle.chess_board.specs.declared.men.Man.{Man}
use Rattle.chess_board.specs.Men.{man_of, other_side}
use Rattle.chess_board.specs.inside.KindTests.{is_king_of}
use Rattle.chess_board.specs.Positions.{Setup, man_at}
use Rattle.chess_board.specs.Attacks.{is_attacked, is_king_attacked, is_in_check}
use Rattle.chess_board.specs.Soundness.{IsSound, HasOneKingEach}
use Rattle.chess_moves.specs.inside.Hits.{is_hit}
use Rattle.chess_moves.proofs.AnyLemmas.{any_none, any_at}
use Rattle.chess_moves.proofs.Bridge.{attacked_same}

pub count_by-cons : {X : Type 0} (p : X → Bool) (x : X) (xs : List X) → count_by p (x ∷ xs) ≡ cond (p x) 1 0 + count_by p xs
count_by-cons p x xs = sum_by-cons (λ y. cond (p y) 1 0) x xs

count_by_positive : {X : Type 0} (p : X → Bool) (xs : List X) (i : ℕ) (d : X) → i < length xs → p (get_or xs i d) ≡ true → 0 < count_by p xs
count_by_positive p [] i d inside holds = absurd (omega arith)
count_by_positive p (x ∷ xs) zero d inside holds = rw (count_by-cons, holds) (omega arith)
count_by_positive p (x ∷ xs) (suc i) d inside holds =
    let more : 0 < count_by p xs = count_by_positive p xs i d (omega arith) holds in rw count_by-cons (omega arith)

-- a test that holds once holds at one place
count_by_once : {X : Type 0} (p : X → Bool) (xs : List X) (i j : ℕ) (d : X) → i < length xs → j < length xs
    → p (get_or xs i d) ≡ true → p (get_or xs j d) ≡ true → count_by p xs ≡ 1 → i ≡ j
count_by_once p [] i j d i_in j_in at_i at_j once = absurd (omega arith)
count_by_once p (x ∷ xs) zero zero d i_in j_in at_i at_j once = refl
count_by_once p (x ∷ xs) zero (suc j) d i_in j_in at_i at_j once =
    let more : 0 < count_by p xs = count_by_positive p xs j d (omega arith) at_j in
    let total : 1 + count_by p xs ≡ 1 = rw (count_by-cons, at_i) at once in absurd (omega arith)
count_by_once p (x ∷ xs) (suc i) zero d i_in j_in at_i at_j once =
    let more : 0 < count_by p xs = count_by_positive p xs i d (omega arith) at_i in
    let total : 1 + count_by p xs ≡ 1 = rw (count_by-cons, at_j) at once in absurd (omega arith)
count_by_once p (x ∷ xs) (suc i) (suc j) d i_in j_in at_i at_j once =
    let more : 0 < count_by p xs = count_by_positive p xs i d (omega arith) at_i in
    let total : cond (p x) 1 0 + count_by p xs ≡ 1 = rw count_by-cons at once in
    ap suc (count_by_once p xs i j d (omega arith) (omega arith) at_i at_j (omega arith))

pub king_found : (men : List (Option Man)) (c : Colour) (square : ℕ) → man_at men square ≡ man_of c King → is_king_of c (man_at men square) ≡ true
king_found men White square h = rw h refl
king_found men Black square h = rw h refl

pub one_king : (men : List (Option Man)) (c : Colour) → HasOneKingEach men → count_by (is_king_of c) men ≡ 1
one_king men White kings = kings.0
one_king men Black kings = kings.1

-- a side's king stands on one square alone
pub only_king : (p : Setup) → IsSound p → (c : Colour) (a b : ℕ) → a < 64 → b < 64
    → man_at p.men a ≡ man_of c King → is_king_of c (man_at p.men b) ≡ true → b ≡ a
only_king p sound c a b a_on b_on at_a at_b =
    let long = sound.squares in
    count_by_once (is_king_of c) p.men b a None (omega arith) (omega arith) at_b (king_found p.men c a at_a) (one_king p.men c sound.kings)

-- check is attack on the king's square
pub in_check_at : (men : List (Option Man)) (c : Colour) (k : ℕ) → k < 64 → man_at men k ≡ man_of c King
    → ((s : ℕ) → s < 64 → is_king_of c (man_at men s) ≡ true → s ≡ k) → is_in_check men c ≡ is_hit men k (other_side c)
in_check_at men c k on there alone =
    (elim (is_attacked men k (other_side c)) as (λ b. is_attacked men k (other_side c) ≡ b → is_in_check men c ≡ b) [
      | true ↦ λ hit. any_at (λ s. is_king_attacked men c s) 64 k on
          (and_from (is_king_of c (man_at men k)) (is_attacked men k (other_side c)) (king_found men c k there) hit)
      | false ↦ λ safe. any_none (λ s. is_king_attacked men c s) 64 (λ s s_on. elsewhere s s_on safe)
    ]) refl ∙ attacked_same men k (other_side c) on
  where
    elsewhere : (s : ℕ) → s < 64 → is_attacked men k (other_side c) ≡ false → is_king_attacked men c s ≡ false
    elsewhere s s_on safe = (elim (is_king_of c (man_at men s)) as (λ b. is_king_of c (man_at men s) ≡ b
        → (b && is_attacked men s (other_side c)) ≡ false) [
          | true ↦ λ king. rw (alone s s_on king) safe
          | false ↦ λ none. refl
        ]) refl

-- the same of the side to move
pub in_check_is : (p : Setup) (king : ℕ) → IsSound p → king < 64 → man_at p.men king ≡ man_of p.side King
    → is_in_check p.men p.side ≡ is_attacked p.men king (other_side p.side)
in_check_is p king sound on there =
    in_check_at p.men p.side king on there (λ s l is. only_king p sound p.side king s on l there is)
    ∙ sym (attacked_same p.men king (other_side p.side) on)

-- Two moves of such men to one square are rivals of each other, so that what tells them from their rivals tells their origins.
use Rattle.std.proofs.Common.{◌≡◌, ℕ, ◌+◌, Bool, true, false, ◌&&◌, eqb, get_or, Contains, Option, Some, refl, sym, arith}
use Rattle.std.proofs.lemmas.Bool.{eqb-true, eq-eqb}
use Rattle.std.proofs.lemmas.List.Folds.{list_any_at}
use Rattle.chess_board.specs.declared.men.Colour.{Colour}
use Rattle.chess_board.specs.declared.men.Colour.TheVariants.{White, Black}
use Rattle.chess_board.specs.declared.men.Man.{Man}
use Rattle.chess_board.specs.Squares.{file_of, rank_of}
use Rattle.chess_board.specs.Men.{is_colour}
use Rattle.chess_board.specs.Positions.{Setup, man_at}
use Rattle.chess_board.specs.Placement.{kind_letter}
use Rattle.chess_board.specs.Moves.{Move}
use Rattle.chess_moves.specs.inside.Listing.{legal_moves}
use Rattle.chess_notation.specs.Disambiguation.{is_such, is_rival, some_rival}
use Rattle.chess_notation.proofs.LegalMen.{IsPlayed}
use Rattle.chess_notation.proofs.TextBytes.{same_square}
use Rattle.chess_notation.proofs.PieceTexts.{has_rival, has_on_file, has_on_rank, told_file, told_rank, told_same}

rival_there : (p : Setup) (man : Man) (m n : Move) (passes : Move → Bool) → Contains (legal_moves p) n → is_rival p man m n ≡ true
    → passes n ≡ true → some_rival p man m passes ≡ true
unfolding some_rival
rival_there p man m n passes at is pass =
    let here : (is_rival p man m (get_or (legal_moves p) at.0 n) && passes (get_or (legal_moves p) at.0 n)) ≡ true = rw at.2 (rw (is, pass)) in
    list_any_at (λ x. is_rival p man m x && passes x) (legal_moves p) at.0 n at.1 here

one_colour : (colour : Colour) → is_colour colour colour ≡ true
one_colour White = refl
one_colour Black = refl

such_there : (man : Man) (place : Option Man) → place ≡ Some man → is_such man place ≡ true
such_there man place there = rw (there, one_colour man.colour) (eq-eqb (kind_letter man.kind) (kind_letter man.kind) refl)

rival_of : (p : Setup) (man : Man) (m n : Move) → man_at p.men n.origin ≡ Some man → n.target ≡ m.target
    → eqb n.origin m.origin ≡ false → is_rival p man m n ≡ true
rival_of p man m n there targets apart = rw (eq-eqb n.target m.target targets, apart) (such_there man (man_at p.men n.origin) there)

eqb-false_sym : (a b : ℕ) → eqb a b ≡ false → eqb b a ≡ false
eqb-false_sym a b h = (elim (eqb b a) as (λ x. eqb b a ≡ x → x ≡ false) [
  | false ↦ λ t. refl
  | true ↦ λ t. let s = eq-eqb a b (sym (eqb-true b a t)) in cc
]) refl

pub piece_origin_same : (p : Setup) (man : Man) (m n : Move) → IsPlayed p m man → IsPlayed p n man → m.target ≡ n.target →
    told_file p man m ≡ told_file p man n → told_rank p man m ≡ told_rank p man n → m.origin ≡ n.origin
piece_origin_same p man m n by_m by_n targets files ranks = (elim (eqb m.origin n.origin) as (λ b. eqb m.origin n.origin ≡ b → m.origin ≡ n.origin) [
  | true ↦ λ same. eqb-true m.origin n.origin same
  | false ↦ λ apart.
      let n_is : is_rival p man m n ≡ true = rival_of p man m n by_n.there (sym targets) (eqb-false_sym m.origin n.origin apart) in
      let m_is : is_rival p man n m ≡ true = rival_of p man n m by_m.there targets apart in
      let some_m : has_rival p man m ≡ true = rival_there p man m n (λ x. true) by_n.listed n_is refl in
      let some_n : has_rival p man n ≡ true = rival_there p man n m (λ x. true) by_m.listed m_is refl in
      let told = told_same (has_on_file p man m) (has_on_rank p man m) (has_on_file p man n) (has_on_rank p man n)
      (97 + file_of m.origin) (49 + rank_of m.origin) (97 + file_of n.origin) (49 + rank_of n.origin)
      (rw (some_m, some_n) at files) (rw (some_m, some_n) at ranks)
      (λ f. rival_there p man m n (λ x. eqb (file_of x.origin) (file_of m.origin)) by_n.listed n_is
      (eq-eqb (file_of n.origin) (file_of m.origin) (omega arith)))
      (λ r. rival_there p man m n (λ x. eqb (rank_of x.origin) (rank_of m.origin)) by_n.listed n_is
      (eq-eqb (rank_of n.origin) (rank_of m.origin) (omega arith))) in
      let f = told.0 in
      let r = told.1 in
      same_square m.origin n.origin (omega arith) (omega arith)
]) refl

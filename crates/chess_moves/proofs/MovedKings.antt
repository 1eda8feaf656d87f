-- Where a colour's king stands once a man moved, and that it stands nowhere else.
use Rattle.std.proofs.Common.{◌≡◌, ◌≢◌, ℕ, ◌<◌, true, false, List, length, Option, Some, None, sym, ap, subst}
use Rattle.std.proofs.Common.{◌∙◌, inl, inr, arith, length-set, get_or-set_other, get_or-set_same}
use Rattle.std.proofs.lemmas.Bool.{cases_eq}
use Rattle.chess_board.specs.declared.men.Colour.{Colour}
use Rattle.chess_board.specs.declared.men.Kind.TheVariants.{King}
use Rattle.chess_board.specs.declared.men.Man.{Man}
use Rattle.chess_board.specs.Men.{other_side, man_of}
use Rattle.chess_board.specs.inside.KindTests.{is_king_of}
use Rattle.chess_board.specs.Positions.{Setup, man_at, moved, cleared}
use Rattle.chess_board.specs.Attacks.{is_in_check}
use Rattle.chess_moves.specs.declared.legality_info.LegalityInfo.{LegalityInfo}
use Rattle.chess_moves.specs.inside.Hits.{is_hit}
use Rattle.chess_moves.specs.inside.LegalityInfo.{IsLegalityInfoOf}
use Rattle.chess_moves.proofs.OneKing.{only_king, in_check_at}

-- The colour's king stands on the square, and on no other.
pub record IsKingAt (men : List (Option Man)) (c : Colour) (k : ℕ) : Type 0 where
  pub on_board : k < 64
  pub here : man_at men k ≡ man_of c King
  pub alone : (s : ℕ) → s < 64 → is_king_of c (man_at men s) ≡ true → s ≡ k

pub in_check_there : (men : List (Option Man)) (c : Colour) (k : ℕ) → IsKingAt men c k → is_in_check men c ≡ is_hit men k (other_side c)
in_check_there men c k h = in_check_at men c k h.on_board h.here h.alone

pub king_of_scene : (info : LegalityInfo) (p : Setup) → IsLegalityInfoOf info p → IsKingAt p.men p.side info.king
king_of_scene info p h = record {
  on_board = h.on_board;
  here = h.king;
  alone = λ s on is. only_king p h.sound p.side info.king s h.on_board on h.king is;
}

-- What holds of the man that moved, of an empty square, and of what stood elsewhere, holds of each square after the move.
pub there_after : (P : Option Man → Type 0) (men : List (Option Man)) (a b : ℕ) (man : Man) (s : ℕ) → length men ≡ 64 → s < 64
    → (s ≡ b → P (Some man)) → P None → (s ≢ a → s ≢ b → P (man_at men s)) → P (man_at (moved men a b man) s)
there_after P men a b man s long on new gone old = elim (cases_eq s b) [
  | inl here ↦
      let at : b < length (cleared men a) = omega (arith, length-set men a None) in
      let there : man_at (moved men a b man) b ≡ Some man = get_or-set_same (cleared men a) b (Some man) None at in
      subst P (sym (ap (man_at (moved men a b man)) here ∙ there)) (new here)
  | inr to ↦
      let kept : man_at (moved men a b man) s ≡ man_at (cleared men a) s = get_or-set_other (cleared men a) b s (Some man) None to in
      elim (cases_eq s a) [
        | inl here ↦
            let at : a < length men = omega arith in
            let there : man_at (cleared men a) a ≡ None = get_or-set_same men a None None at in
            subst P (sym (kept ∙ ap (man_at (cleared men a)) here ∙ there)) gone
        | inr off ↦ subst P (sym (kept ∙ get_or-set_other men a s None None off)) (old off to)
      ]
]

-- what stands on a square once another man was taken away
there_cleared : (P : Option Man → Type 0) (men : List (Option Man)) (v s : ℕ) → length men ≡ 64 → s < 64 → P None
    → (s ≢ v → P (man_at men s)) → P (man_at (cleared men v) s)
there_cleared P men v s long on gone old = elim (cases_eq s v) [
  | inl here ↦
      let at : v < length men = omega arith in
      let there : man_at (cleared men v) v ≡ None = get_or-set_same men v None None at in
      subst P (sym (ap (man_at (cleared men v)) here ∙ there)) gone
  | inr off ↦ subst P (sym (get_or-set_other men v s None None off)) (old off)
]

-- a king that is found on s stands on k
Alone : Colour → ℕ → ℕ → Option Man → Type 0
Alone c k s place = is_king_of c place ≡ true → s ≡ k

-- Another man moved: the king stands where it stood.
pub king_stays : (men : List (Option Man)) (c : Colour) (k a b : ℕ) (man : Man) → length men ≡ 64 → IsKingAt men c k → k ≢ a
    → k ≢ b → is_king_of c (Some man) ≡ false
    → IsKingAt (moved men a b man) c k
unfolding Alone
king_stays men c k a b man long h off to other = record {
  on_board = h.on_board;
  here = get_or-set_other (cleared men a) b k (Some man) None to ∙ get_or-set_other men a k None None off ∙ h.here;
  alone = λ s on. there_after (Alone c k s) men a b man s long on (λ e is. cc) (λ is. cc) (λ o t. h.alone s on);
}

-- The king moved.
pub king_goes : (men : List (Option Man)) (c : Colour) (k b : ℕ) → length men ≡ 64 → b < 64 → IsKingAt men c k
    → IsKingAt (moved men k b (record { colour = c; kind = King })) c b
unfolding Alone
king_goes men c k b long on_b h =
    let king : Man = record { colour = c; kind = King } in record {
      on_board = on_b;
      here = get_or-set_same (cleared men k) b (Some king) None (omega (arith, length-set men k None));
      alone = λ s on. there_after (Alone c b s) men k b king s long on (λ e is. e) (λ is. cc) (λ o t is. absurd (o (h.alone s on is)));
    }

-- A man was taken away that is not the king.
pub king_kept : (men : List (Option Man)) (c : Colour) (k v : ℕ) → length men ≡ 64 → IsKingAt men c k → k ≢ v → IsKingAt (cleared men v) c k
unfolding Alone
king_kept men c k v long h off = record {
  on_board = h.on_board;
  here = get_or-set_other men v k None None off ∙ h.here;
  alone = λ s on. there_cleared (Alone c k s) men v s long on (λ is. cc) (λ o. h.alone s on);
}

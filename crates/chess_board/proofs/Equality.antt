-- Two positions that `==` finds equal are one, and the other way round.
use Rattle.std.proofs.Common.{◌≡◌, ℕ, Bool, true, false, List, length, Option, Some, None, refl, ap, sym, ◌&&◌, IsTrue, ◌∙◌}
use Rattle.std.specs.Option.{option_eq}
use Rattle.chess_board.specs.Positions.{Setup}
use Rattle.chess_board.specs.declared.men.Colour.{Colour}
use Rattle.chess_board.specs.declared.men.Man.{Man}
use Rattle.chess_board.specs.declared.men.Rights.{Rights}
use denote.Enum.Bare.{sameb, same_true, true_same}
use mathlib.Core.Bool.{beq}
use Rattle.std.specs.Cmp.{booleans_Decides}
use Rattle.chess_board.specs.contracts.men.Colour.{the_type as colour_type}

abbrev pub Agrees : {X : Type 0} → (X → X → Bool) → X → X → Type 0
Agrees E a b = (E a b ≡ true → a ≡ b) × (a ≡ b → E a b ≡ true)

pub option_agrees : {X : Type 0} {E : X → X → Bool} → ((x y : X) → Agrees E x y) → (p q : Option X) → Agrees (option_eq E) p q
option_agrees h None None = ((λ _. refl), (λ _. refl))
option_agrees h None (Some y) = ((λ e. cc), (λ e. cc))
option_agrees h (Some x) None = ((λ e. cc), (λ e. cc))
option_agrees h (Some x) (Some y) = ((λ e. ap Some ((h x y).0 e)), (λ e. (h x y).1 cc))

pub both : (s t : Bool) → (s && t) ≡ true → (s ≡ true) × (t ≡ true)
both true t h = (refl, h)
both false t h = (cc, cc)

pub and_true : (s t : Bool) → s ≡ true → t ≡ true → (s && t) ≡ true
and_true true t a b = b
and_true false t a b = cc

-- `==` of each part says whether the parts are equal.
pub setup_agrees : (B : List (Option Man) → List (Option Man) → Bool) (C : Colour → Colour → Bool) (R : Rights → Rights → Bool) (T : ℕ → ℕ → Bool)
    → ((x y : List (Option Man)) → length x ≡ 64 → length y ≡ 64 → Agrees B x y) → ((x y : Colour) → Agrees C x y)
    → ((x y : Rights) → Agrees R x y) → ((x y : ℕ) → Agrees T x y)
    → (a b : Setup) → length a.men ≡ 64 → length b.men ≡ 64 → (r : Bool)
    → r ≡ (B a.men b.men && (C a.side b.side && (R a.rights b.rights && option_eq T a.target b.target)))
    → (IsTrue r → a ≡ b) × (a ≡ b → IsTrue r)
setup_agrees B C R T m c r t a b a_long b_long result is =
    let board : Agrees B a.men b.men = m a.men b.men a_long b_long in (
      (λ holds.
          let one = both _ _ (sym is ∙ holds) in
          let two = both _ _ one.1 in
          let three = both _ _ two.1 in
          let men = board.0 one.0 in
          let side = (c a.side b.side).0 two.0 in
          let rights = (r a.rights b.rights).0 three.0 in
          let target = (option_agrees t a.target b.target).0 three.1 in
          λ i. record { men = men i; side = side i; rights = rights i; target = target i }),
      (λ same. is ∙ and_true _ _ (board.1 (ap (λ s. s.men) same))
          (and_true _ _ ((c a.side b.side).1 (ap (λ s. s.side) same))
          (and_true _ _ ((r a.rights b.rights).1 (ap (λ s. s.rights) same)) ((option_agrees t a.target b.target).1 (ap (λ s. s.target) same))))),
    )

-- `==` at rights.
abbrev pub rights_eq : Rights → Rights → Bool
rights_eq x y = beq x.white_king_side y.white_king_side && (beq x.white_queen_side y.white_queen_side
    && (beq x.black_king_side y.black_king_side && beq x.black_queen_side y.black_queen_side))

pub colour_agrees : (x y : Colour) → Agrees (sameb colour_type) x y
colour_agrees x y = (same_true colour_type tt x y, true_same colour_type x y)

pub rights_agrees : (x y : Rights) → Agrees rights_eq x y
rights_agrees x y = (
  (λ e.
      let one = both _ _ e in
      let two = both _ _ one.1 in
      let three = both _ _ two.1 in
      let a = (booleans_Decides x.white_king_side y.white_king_side).0 one.0 in
      let b = (booleans_Decides x.white_queen_side y.white_queen_side).0 two.0 in
      let c = (booleans_Decides x.black_king_side y.black_king_side).0 three.0 in
      let d = (booleans_Decides x.black_queen_side y.black_queen_side).0 three.1 in
      λ i. record { white_king_side = a i; white_queen_side = b i; black_king_side = c i; black_queen_side = d i }),
  (λ e. and_true _ _ ((booleans_Decides _ _).1 (ap (λ m. m.white_king_side) e))
      (and_true _ _ ((booleans_Decides _ _).1 (ap (λ m. m.white_queen_side) e)) (and_true _ _
      ((booleans_Decides _ _).1 (ap (λ m. m.black_king_side) e)) ((booleans_Decides _ _).1 (ap (λ m. m.black_queen_side) e))))),
)

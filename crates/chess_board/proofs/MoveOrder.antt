-- The derived order of moves is the order of their places.
use Rattle.std.proofs.Common.{Less, Equal, Greater, ◌≡◌, ℕ, ◌<◌, ◌⊎◌, true, Option, Some, None, refl, inl, inr, arith}
use Rattle.std.specs.Option.{option_partial_cmp}
use Rattle.std.specs.Ordering.{nat_cmp, partial_lt}
use Rattle.std.proofs.lemmas.Bool.{cases_eq, cases_lt, lt-ltb}
use Rattle.std.proofs.lemmas.Bool.Decides.{nat_tests}
use Rattle.chess_board.specs.declared.men.Kind.{Kind}
use Rattle.chess_board.specs.declared.men.Kind.TheVariants.{Pawn, Knight, Bishop, Rook, Queen, King}
use Rattle.chess_board.specs.contracts.men.KindPartialOrd.TheImpl as kinds
use Rattle.chess_board.specs.contracts.moves.MovePartialOrd.TheImpl as moves
use Rattle.chess_board.specs.Moves.{Move, promotion_place, move_place}

-- What holds of the six kinds holds of each.
each_kind : (P : Kind → Type 0) → P Pawn → P Knight → P Bishop → P Rook → P Queen → P King → (k : Kind) → P k
each_kind P pawn knight bishop rook queen king Pawn = pawn
each_kind P pawn knight bishop rook queen king Knight = knight
each_kind P pawn knight bishop rook queen king Bishop = bishop
each_kind P pawn knight bishop rook queen king Rook = rook
each_kind P pawn knight bishop rook queen king Queen = queen
each_kind P pawn knight bishop rook queen king King = king

abbrev AsPlaced : Kind → Kind → Type 0
AsPlaced k j = (kinds.ghosts).partial_cmp k j ≡ Some (nat_cmp (promotion_place (Some k)) (promotion_place (Some j)))

kinds_compare : (k j : Kind) → AsPlaced k j
kinds_compare k j =
    each_kind (λ x. (y : Kind) → AsPlaced x y)
    (each_kind (AsPlaced Pawn) refl refl refl refl refl refl)
    (each_kind (AsPlaced Knight) refl refl refl refl refl refl)
    (each_kind (AsPlaced Bishop) refl refl refl refl refl refl)
    (each_kind (AsPlaced Rook) refl refl refl refl refl refl)
    (each_kind (AsPlaced Queen) refl refl refl refl refl refl)
    (each_kind (AsPlaced King) refl refl refl refl refl refl) k j

-- No promotion stands before any.
kind_placed : (k : Kind) → (0 < promotion_place (Some k)) × (promotion_place (Some k) < 7)
kind_placed k =
    each_kind (λ x. (0 < promotion_place (Some x)) × (promotion_place (Some x) < 7))
    (omega arith, omega arith) (omega arith, omega arith) (omega arith, omega arith) (omega arith, omega arith)
    (omega arith, omega arith) (omega arith, omega arith) k

promotion_below : (o : Option Kind) → promotion_place o < 7
promotion_below None = omega arith
promotion_below (Some k) = (kind_placed k).1

nat_cmp-less : (x y : ℕ) → x < y → nat_cmp x y ≡ Less
nat_cmp-less x y h = let e = lt-ltb x y h in rw e refl

nat_cmp-equal : (x y : ℕ) → x ≡ y → nat_cmp x y ≡ Equal
nat_cmp-equal x y h = grind (arith, nat_tests)

nat_cmp-greater : (x y : ℕ) → y < x → nat_cmp x y ≡ Greater
nat_cmp-greater x y h = grind (arith, nat_tests)

promotions_compare : (o u : Option Kind)
    → option_partial_cmp ((kinds.ghosts).partial_cmp) o u ≡ Some (nat_cmp (promotion_place o) (promotion_place u))
promotions_compare None None = refl
promotions_compare None (Some j) = let e = nat_cmp-less 0 (promotion_place (Some j)) (kind_placed j).0 in rw e refl
promotions_compare (Some k) None = let e = nat_cmp-greater (promotion_place (Some k)) 0 (kind_placed k).0 in rw e refl
promotions_compare (Some k) (Some j) = kinds_compare k j

order_cases : (x y : ℕ) → (x < y) ⊎ (x ≡ y) ⊎ (y < x)
order_cases x y = elim (cases_eq x y) [
  | inl same ↦ inr (inl same)
  | inr apart ↦ elim (cases_lt x y) [ inl less ↦ inl less | inr more ↦ inr (inr (omega arith)) ]
]

abbrev IsBefore : Move → Move → Type 0
IsBefore a b = (partial_lt ((moves.ghosts).partial_cmp) a b ≡ true → move_place a < move_place b)
    × (move_place a < move_place b → partial_lt ((moves.ghosts).partial_cmp) a b ≡ true)

by_promotion : (a b : Move) → a.origin ≡ b.origin → a.target ≡ b.target → IsBefore a b
by_promotion a b origin target =
    let p = nat_cmp-equal a.origin b.origin origin in let q = nat_cmp-equal a.target b.target target in
    let r = promotions_compare a.promotion b.promotion in
    elim (order_cases (promotion_place a.promotion) (promotion_place b.promotion)) [
      | inl less ↦ let s = nat_cmp-less (promotion_place a.promotion) (promotion_place b.promotion) less in
          rw (p, q, r, s) ((λ h. omega arith), (λ h. refl))
      | inr (inl same) ↦ let s = nat_cmp-equal (promotion_place a.promotion) (promotion_place b.promotion) same in
          rw (p, q, r, s) ((λ h. cc), (λ h. absurd (omega arith)))
      | inr (inr more) ↦ let s = nat_cmp-greater (promotion_place a.promotion) (promotion_place b.promotion) more in
          rw (p, q, r, s) ((λ h. cc), (λ h. absurd (omega arith)))
    ]

by_target : (a b : Move) → a.origin ≡ b.origin → IsBefore a b
by_target a b origin =
    let p = nat_cmp-equal a.origin b.origin origin in
    let few = promotion_below a.promotion in let few' = promotion_below b.promotion in
    elim (order_cases a.target b.target) [
      | inl less ↦ let q = nat_cmp-less a.target b.target less in rw (p, q) ((λ h. omega arith), (λ h. refl))
      | inr (inl same) ↦ by_promotion a b origin same
      | inr (inr more) ↦ let q = nat_cmp-greater a.target b.target more in rw (p, q) ((λ h. cc), (λ h. absurd (omega arith)))
    ]

pub before_is_placed_before : (a b : Move) → a.target < 64 → b.target < 64 → IsBefore a b
before_is_placed_before a b a_on b_on =
    let few = promotion_below a.promotion in let few' = promotion_below b.promotion in
    elim (order_cases a.origin b.origin) [
      | inl less ↦ let p = nat_cmp-less a.origin b.origin less in rw p ((λ h. omega arith), (λ h. refl))
      | inr (inl same) ↦ by_target a b same
      | inr (inr more) ↦ let p = nat_cmp-greater a.origin b.origin more in rw p ((λ h. cc), (λ h. absurd (omega arith)))
    ]

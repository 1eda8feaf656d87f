-- The last ranks as sets, and how many moves a man has to a set of targets.
use Rattle.std.proofs.Common.{◌≡◌, ℕ, zero, suc, ◌+◌, ◌*◌, ◌<◌, ◌≤◌, ◌^◌, Bool, true, false, ◌&&◌, eqb, cond}
use Rattle.std.proofs.Common.{[], ◌∷◌, length, None, refl, sym, ap, ◌∙◌, arith, length-append, inl, inr}
use Rattle.std.specs.List.{flat_map}
use Rattle.std.specs.Int.RustNames.{bit_and, count_ones}
use Rattle.std.proofs.lemmas.Bool.{and_parts, cases_eq}
use Rattle.std.proofs.lemmas.Nat.{and_le_l}
use Rattle.square_sets.specs.Members.{has, members_below, members}
use Rattle.chess_board.specs.declared.men.Man.{Man}
use Rattle.chess_board.specs.Squares.{rank_of, all_below}
use Rattle.chess_board.specs.PseudoLegal.{promotes}
use Rattle.chess_moves.specs.inside.Listing.{move_of, promotions}
use Rattle.chess_moves.specs.inside.LegalTargets.{ways}
use Rattle.chess_moves.proofs.SetBits.{has_and}
use Rattle.chess_moves.proofs.Members.{flat_map-below_suc, length-below_more, length-members}

abbrev pub same : Bool → Bool → Bool
same true b = b
same false true = false
same false false = true

pub same_equal : (a b : Bool) → same a b ≡ true → a ≡ b
same_equal true true h = refl
same_equal true false h = sym h
same_equal false true h = h
same_equal false false h = refl

pub each : (test : ℕ → Bool) (n s : ℕ) → all_below n test ≡ true → s < n → test s ≡ true
unfolding all_below
each test zero s h l = absurd (omega arith)
each test (suc n) s h l =
    let both = and_parts (all_below n test) (test n) h in
    elim (cases_eq s n) [
      | inl e ↦ rw e both.1
      | inr ne ↦ each test n s both.0 (omega arith)
    ]

-- the eighth rank and the first, square by square
pub has-eighth : (s : ℕ) → s < 64 → has 18374686479671623680 s ≡ eqb (rank_of s) 7
unfolding all_below
has-eighth s l = same_equal (has 18374686479671623680 s) (eqb (rank_of s) 7)
    (each (λ t. same (has 18374686479671623680 t) (eqb (rank_of t) 7)) 64 s refl l)

pub has-first : (s : ℕ) → s < 64 → has 255 s ≡ eqb (rank_of s) 0
unfolding all_below
has-first s l = same_equal (has 255 s) (eqb (rank_of s) 0) (each (λ t. same (has 255 t) (eqb (rank_of t) 0)) 64 s refl l)

-- and those before them, from which pawns go there
pub has-seventh : (s : ℕ) → s < 64 → has 71776119061217280 s ≡ eqb (rank_of s) 6
unfolding all_below
has-seventh s l = same_equal (has 71776119061217280 s) (eqb (rank_of s) 6)
    (each (λ t. same (has 71776119061217280 t) (eqb (rank_of t) 6)) 64 s refl l)

pub has-second : (s : ℕ) → s < 64 → has 65280 s ≡ eqb (rank_of s) 1
unfolding all_below
has-second s l = same_equal (has 65280 s) (eqb (rank_of s) 1) (each (λ t. same (has 65280 t) (eqb (rank_of t) 1)) 64 s refl l)

module _ (man : Man) (o set last : ℕ) (is : (t : ℕ) → t < 64 → has last t ≡ promotes man t) where
  many_to : (t : ℕ) → t < 64 → length (cond (has set t) (ways man o t) []) ≡ cond (has set t) 1 0 + 3 * cond (has (bit_and set last) t) 1 0
  many_to t l = rw (has_and set last t) (rw (is t l) (one (has set t) (promotes man t)))
    where
      one : (b q : Bool) → length (cond b (cond q (promotions o t) (move_of o t None ∷ [])) []) ≡ cond b 1 0 + 3 * cond (b && q) 1 0
      one true true = refl
      one true false = refl
      one false q = refl

  many_below : (n : ℕ) → n ≤ 64 → length (flat_map (ways man o) (members_below set n))
      ≡ length (members_below set n) + 3 * length (members_below (bit_and set last) n)
  unfolding members_below
  many_below zero h = refl
  many_below (suc n) h = omega (
    arith,
    ap length (flat_map-below_suc (ways man o) set n)
        ∙ length-append (flat_map (ways man o) (members_below set n)) (cond (has set n) (ways man o n) []),
    many_below n (omega arith),
    many_to n (omega arith),
    length-below_more set n,
    length-below_more (bit_and set last) n,
  )

  -- one to each target, and three more where the man is promoted
  pub many_ways : set < 2 ^ 64 → length (flat_map (ways man o) (members set)) ≡ count_ones set + 3 * count_ones (bit_and set last)
  unfolding members
  many_ways fits = omega (
    arith,
    many_below 64 (omega arith),
    length-members set fits,
    length-members (bit_and set last) (omega (arith, and_le_l set last)),
  )

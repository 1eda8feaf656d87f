-- The legal moves of some of the men.
use Rattle.std.proofs.Common.{◌≡◌, ℕ, zero, suc, ◌<◌, ◌≤◌, Bool, true, false, ◌&&◌, cond, List, [], ◌∷◌, ◌++◌}
use Rattle.std.proofs.Common.{filter, refl, sym, ap, ◌∙◌, arith}
use Rattle.std.specs.Prelude.{Contains}
use Rattle.std.proofs.lemmas.Bool.{and_parts}
use Rattle.std.proofs.lemmas.List.Elements.{Contains-append_right, filter-append}
use Rattle.square_sets.specs.Members.{has, members_below, members}
use Rattle.chess_board.specs.Men.{is_of}
use Rattle.chess_board.specs.Positions.{Setup}
use Rattle.chess_board.specs.Sets.{IsSetOf}
use Rattle.chess_board.specs.Moves.{Move}
use Rattle.chess_board.specs.Legality.{is_legal}
use Rattle.chess_moves.specs.inside.Listing.{moves_to, moves_below, legal_moves}
use Rattle.chess_moves.specs.inside.MoveGeneration.{moves_of_men, HaveOwnMen}
use Rattle.chess_moves.proofs.Few.{none_from}
use Rattle.chess_moves.proofs.Listed.{to_in}
use Rattle.chess_moves.proofs.Members.{flat_map-below_suc}

-- All of a list pass the test, or none does.
sifted_alike : (b : Bool) (f g : Move → Bool) (xs : List Move) → ((m : Move) → Contains xs m → f m ≡ b)
    → filter f (filter g xs) ≡ cond b (filter g xs) []
sifted_alike true f g [] h = refl
sifted_alike false f g [] h = refl
sifted_alike true f g (x ∷ xs) h =
    let rest = sifted_alike true f g xs (λ m c. h m (Contains-append_right (x ∷ []) xs m c)) in
    let here = h x (0, omega arith, refl) in
    elim (g x) as (λ b. filter f (cond b (x ∷ filter g xs) (filter g xs)) ≡ cond b (x ∷ filter g xs) (filter g xs)) [
      | true ↦ rw here (ap (λ (ys : List Move). x ∷ ys) rest)
      | false ↦ rest
    ]
sifted_alike false f g (x ∷ xs) h =
    let rest = sifted_alike false f g xs (λ m c. h m (Contains-append_right (x ∷ []) xs m c)) in
    let here = h x (0, omega arith, refl) in
    elim (g x) as (λ b. filter f (cond b (x ∷ filter g xs) (filter g xs)) ≡ []) [
      | true ↦ rw here rest
      | false ↦ rest
    ]

-- The set has the men of the one that are in the other.
abbrev pub IsPart : ℕ → ℕ → ℕ → Type 0
IsPart part own men = (s : ℕ) → s < 64 → has part s ≡ (has own s && has men s)

some_below : (p : Setup) (own men part n : ℕ) → IsSetOf own (is_of p.side) p.men → IsPart part own men → n ≤ 64
    → filter (λ m. has men m.origin) (filter (is_legal p) (moves_below n)) ≡ moves_of_men p (members_below part n)
unfolding moves_below members_below
some_below p own men part zero is are h = refl
some_below p own men part (suc n) is are h =
    let test : Move → Bool = λ m. has men m.origin in
    ap (filter test) (filter-append (is_legal p) (moves_below n) (moves_to n 64))
    ∙ filter-append test (filter (is_legal p) (moves_below n)) (filter (is_legal p) (moves_to n 64))
    ∙ ap (λ (ms : List Move). ms ++ filter test (filter (is_legal p) (moves_to n 64))) (some_below p own men part n is are (omega arith))
    ∙ ap (λ (ms : List Move). moves_of_men p (members_below part n) ++ ms) here
    ∙ sym (flat_map-below_suc (λ o. filter (is_legal p) (moves_to o 64)) part n)
  where
    from : List Move
    from = filter (is_legal p) (moves_to n 64)

    sifted : filter (λ m. has men m.origin) from ≡ cond (has men n) from []
    sifted = sifted_alike (has men n) (λ m. has men m.origin) (is_legal p) (moves_to n 64) (λ m c. ap (has men) (to_in n 64 m c).0)

    none : has own n ≡ false → from ≡ []
    none e = none_from p n (sym (is n (omega arith)) ∙ e)

    both : (a b : Bool) → has own n ≡ a → has men n ≡ b → cond b from [] ≡ cond (a && b) from []
    both true b e f = refl
    both false true e f = none e
    both false false e f = refl

    here : filter (λ m. has men m.origin) from ≡ cond (has part n) from []
    here = let parts = are n (omega arith) in sifted ∙ both (has own n) (has men n) refl refl ∙ ap (λ b. cond b from []) (sym parts)

-- The legal moves of some of the men are those that leave their squares.
pub legal_of_some : (p : Setup) (own men part : ℕ) → IsSetOf own (is_of p.side) p.men → IsPart part own men
    → filter (λ m. has men m.origin) (legal_moves p) ≡ moves_of_men p (members part)
unfolding legal_moves members
legal_of_some p own men part is are = some_below p own men part 64 is are (omega arith)

pub own_some : (p : Setup) (own men part : ℕ) → IsSetOf own (is_of p.side) p.men → IsPart part own men → HaveOwnMen part p
own_some p own men part is are s l e = sym (is s l) ∙ (and_parts (has own s) (has men s) (sym (are s l) ∙ e)).0

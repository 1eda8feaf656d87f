-- What is named, counted move by move.
use Rattle.std.proofs.Common.{◌≡◌, List, [], ◌∷◌, Bool, true, false, filter, refl}
use Rattle.std.specs.Prelude.{Contains}
use Rattle.std.specs.List.{All}
use Rattle.std.proofs.lemmas.List.Elements.{All-contains_itself, All-filter, All-head}
use Rattle.chess_board.specs.Moves.{Move}
use Rattle.move_words.specs.declared.naming.Named.{Named}
use Rattle.move_words.specs.declared.naming.Named.TheVariants.{One, No, Several}
use Rattle.chess_board.specs.Legality.{is_legal}
use Rattle.chess_board.specs.Positions.{Setup}
use Rattle.chess_moves.specs.inside.Listing.{legal_moves}
use Rattle.chess_moves.specs.Laws.{LegalListed}
use Rattle.move_words.specs.Naming.{IfOne, named_by}
use Rattle.move_words.specs.inside.Counting.{with_move, with_moves}

several : (ms : List Move) → with_moves Several ms ≡ Several
several [] = refl
several (m ∷ ms) = several ms

pub counted : (ms : List Move) → with_moves No ms ≡ named_by ms
counted [] = refl
counted (m ∷ []) = refl
counted (m ∷ n ∷ ms) = several ms

-- one more that fits
pub fitting_next : (f : Move → Bool) (named : Named) (xs rest : List Move) (m : Move) → xs ≡ m ∷ rest → f m ≡ true
    → with_moves (with_move named m) (filter f rest) ≡ with_moves named (filter f xs)
fitting_next f named xs rest m is on = rw (is, on) refl

-- one more that does not
pub other_next : (f : Move → Bool) (named : Named) (xs rest : List Move) (m : Move) → xs ≡ m ∷ rest → f m ≡ false
    → with_moves named (filter f rest) ≡ with_moves named (filter f xs)
other_next f named xs rest m is off = rw (is, off) refl

-- None is left.
pub none_next : (f : Move → Bool) (named all : Named) (xs : List Move) → xs ≡ [] → with_moves named (filter f xs) ≡ all → named ≡ all
none_next f named all xs is e = rw is at e

-- What is true of all of them is true of the one that is named.
of_all : (P : Move → Type 0) (ms : List Move) → All P ms → IfOne (named_by ms) P
of_all P [] all = tt
of_all P (m ∷ []) all = All-head P m [] all
of_all P (m ∷ n ∷ ms) all = tt

so_of_one : (P Q : Move → Type 0) (named : Named) → ((m : Move) → P m → Q m) → IfOne named P → IfOne named Q
so_of_one P Q (One m) so is = so m is
so_of_one P Q No so is = tt
so_of_one P Q Several so is = tt

pub one_legal : LegalListed → (p : Setup) (f : Move → Bool) (named : Named) → named ≡ named_by (filter f (legal_moves p))
    → IfOne named (λ m. is_legal p m ≡ true)
one_legal listed p f named is =
    so_of_one (Contains (legal_moves p)) (λ m. is_legal p m ≡ true) named (λ m c. ((listed p m).0 c).2)
    (rw is (of_all (Contains (legal_moves p)) (filter f (legal_moves p))
    (All-filter f (Contains (legal_moves p)) (legal_moves p) (All-contains_itself (legal_moves p)))))

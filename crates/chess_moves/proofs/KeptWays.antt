-- Which of the moves from one square to another are legal: all of the man's ways there, or none.
use Rattle.std.proofs.Common.{◌≡◌, ℕ, ◌<◌, Bool, true, false, not, ◌&&◌, cond, [], ◌∷◌, filter, Option, Some, None, refl, ◌∙◌}
use Rattle.square_sets.specs.Members.{has}
use Rattle.chess_board.specs.declared.men.Kind.TheVariants.{Knight, Bishop, Rook, Queen}
use Rattle.chess_board.specs.declared.men.Kind.{Kind}
use Rattle.chess_board.specs.declared.men.Man.{Man}
use Rattle.chess_board.specs.Positions.{Setup, man_at}
use Rattle.chess_board.specs.Moves.{Move}
use Rattle.chess_board.specs.Attacks.{is_in_check}
use Rattle.chess_board.specs.PseudoLegal.{goes, is_promotion, promotes, suits, is_pseudo_legal}
use Rattle.chess_board.specs.MakeMove.{men_after, after_setup}
use Rattle.chess_board.specs.Legality.{is_safe, is_legal}
use Rattle.chess_moves.specs.inside.Listing.{move_of, promotions, moves_between}
use Rattle.chess_moves.specs.inside.LegalTargets.{ways, AreTargets}
use Rattle.chess_moves.proofs.OwnColours.{same_colour}
use Rattle.chess_moves.proofs.Few.{between_promoted, between_plain}

-- The man may go there, and its king is safe afterwards.
abbrev pub goes_safely : Setup → Man → ℕ → ℕ → Option Kind → Bool
goes_safely p man o t r = goes p man.colour man.kind o t && not (is_in_check (men_after p man (move_of o t r)) p.side)

-- A way that suits the man is legal where the man goes safely.
legal_way : (p : Setup) (man : Man) (o t : ℕ) (r : Option Kind) → man_at p.men o ≡ Some man → man.colour ≡ p.side → suits man t r ≡ true
    → is_legal p (move_of o t r) ≡ goes_safely p man o t r
unfolding is_legal is_pseudo_legal is_safe after_setup
legal_way p man o t r there own suited =
    let colour = same_colour man.colour p.side own in
    rw (there, colour, suited) refl

-- The four promotions pass a test together, or none does.
promotions_pass : (f : Move → Bool) (o t : ℕ) (b : Bool) → ((k : Kind) → is_promotion k ≡ true → f (move_of o t (Some k)) ≡ b)
    → filter f (promotions o t) ≡ cond b (promotions o t) []
promotions_pass f o t true h = rw (h Knight refl, h Bishop refl, h Rook refl, h Queen refl) refl
promotions_pass f o t false h = rw (h Knight refl, h Bishop refl, h Rook refl, h Queen refl) refl

-- All of the man's ways to a square are kept, or none.
pub ways_kept : (p : Setup) (man : Man) (o t : ℕ) (b : Bool) → man_at p.men o ≡ Some man → man.colour ≡ p.side
    → ((r : Option Kind) → suits man t r ≡ true → goes_safely p man o t r ≡ b) → filter (is_legal p) (moves_between o t) ≡ cond b (ways man o t) []
ways_kept p man o t b there own safe =
    let way = λ (r : Option Kind) (s : suits man t r ≡ true). legal_way p man o t r there own s ∙ safe r s in
    (elim (promotes man t) as (λ x. promotes man t ≡ x
    → filter (is_legal p) (moves_between o t) ≡ cond b (cond x (promotions o t) (move_of o t None ∷ [])) []) [
      | true ↦ λ e. between_promoted p o t man there e ∙ promotions_pass (is_legal p) o t b (λ k is. way (Some k) (rw (e, is) refl))
      | false ↦ λ e. let plain = way None (rw e refl) in between_plain p o t man there e ∙ rw plain refl
    ]) refl

-- The set has a man's targets where it has the squares to which the man goes safely.
pub targets_where_safe : (p : Setup) (man : Man) (o set : ℕ) → man_at p.men o ≡ Some man → man.colour ≡ p.side
    → ((t : ℕ) (r : Option Kind) → t < 64 → suits man t r ≡ true → goes_safely p man o t r ≡ has set t) → AreTargets set p man o
targets_where_safe p man o set there own safe = λ t on. ways_kept p man o t (has set t) there own (λ r s. safe t r on s)

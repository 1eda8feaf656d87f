-- The men of whom a legal move may mate, and which of their moves are special.
use Rattle.std.proofs.Common.{◌≡◌, ℕ, ◌<◌, true, false, eqb, filter, Some, refl, sym, ap, ◌∙◌, bit_and}
use Rattle.std.specs.List.{list_any}
use Rattle.std.proofs.lemmas.Bool.{and_from, and_parts, eqb-true, eq-eqb, false_from_ne_true, or_parts}
use Rattle.std.specs.Int.RustNames.{bit_or}
use Rattle.square_sets.specs.Members.{has, members}
use Rattle.chess_board.specs.declared.men.Colour.{Colour}
use Rattle.chess_board.specs.declared.men.Kind.{Kind}
use Rattle.chess_board.specs.declared.men.Kind.TheVariants.{Pawn, Knight, Bishop, Rook, Queen, King}
use Rattle.chess_board.specs.declared.men.Man.{Man}
use Rattle.chess_board.specs.Squares.{rank_of}
use Rattle.chess_board.specs.MakeMove.{after_setup}
use Rattle.chess_board.specs.Men.{is_colour, is_kind, is_man, is_of}
use Rattle.chess_board.specs.Sets.{IsSetOf}
use Rattle.chess_board.specs.Legality.{is_legal}
use Rattle.chess_board.specs.Moves.{Move}
use Rattle.chess_board.specs.Positions.{Setup, man_at}
use Rattle.chess_board.specs.PseudoLegal.{last_rank, promotes, goes, pawn_goes}
use Rattle.chess_moves.specs.inside.Listing.{moves_to, legal_moves}
use Rattle.chess_moves.specs.inside.MoveGeneration.{moves_of_men, HaveOwnMen}
use Rattle.chess_moves.specs.inside.Shifts.{rank_before}
use Rattle.chess_moves.specs.Verdicts.{is_mate}
use Rattle.chess_moves.proofs.Listed.{to_in}
use Rattle.chess_moves.proofs.Narrowed.{any_narrowed, none_kept}
use Rattle.chess_moves.proofs.PawnSteps.{pawn_before}
use Rattle.chess_moves.proofs.Played.{played_by}
use Rattle.chess_moves.proofs.PlainChecks.{colour_back}
use Rattle.chess_moves.proofs.SetBits.{has_and, has_or}
use Rattle.chess_moves.proofs.Walks.{legal_of_men}

-- A legal move of a man on none of these squares does not mate.
abbrev pub AreMatingMen : ℕ → Setup → Type 0
AreMatingMen set p = (m : Move) → is_legal p m ≡ true → m.origin < 64 → m.target < 64 → has set m.origin ≡ false
    → is_mate (after_setup p m) ≡ false

-- So it is these alone of whom it is asked.
pub mates_of_some : (p : Setup) (asked own : ℕ) → IsSetOf own (is_of p.side) p.men → AreMatingMen asked p
    → list_any (λ m. is_mate (after_setup p m)) (moves_of_men p (members (bit_and asked own)))
    ≡ list_any (λ m. is_mate (after_setup p m)) (legal_moves p)
unfolding members
mates_of_some p asked own is quiet =
    any_narrowed (λ m. is_mate (after_setup p m)) (λ o. filter (is_legal p) (moves_to o 64)) asked own 64 (λ o l there out.
    none_kept (λ m. is_mate (after_setup p m)) (is_legal p) (moves_to o 64) (λ m c legal.
    let at = to_in o 64 m c in
    quiet m legal (rw at.0 l) at.1 (ap (has asked) at.0 ∙ out)))
    ∙ ap (list_any (λ m. is_mate (after_setup p m))) (sym (legal_of_men p own is))

pub own_some : (p : Setup) (asked own : ℕ) → IsSetOf own (is_of p.side) p.men → HaveOwnMen (bit_and asked own) p
own_some p asked own is s l e = sym (is s l) ∙ (and_parts (has asked s) (has own s) (sym (has_and asked own s) ∙ e)).1

pub neither : (a b t : ℕ) → has (bit_or a b) t ≡ false → (has a t ≡ false) × (has b t ≡ false)
neither a b t none = or_parts (has a t) (has b t) (sym (has_or a b t) ∙ none)

pub kind_self : (kind : Kind) → is_kind kind kind ≡ true
kind_self Pawn = refl
kind_self Knight = refl
kind_self Bishop = refl
kind_self Rook = refl
kind_self Queen = refl
kind_self King = refl

module _ (p : Setup) (m : Move) (man : Man) (there : man_at p.men m.origin ≡ Some man) (legal : is_legal p m ≡ true) where
  -- Who moves is one of the men of his kind.
  pub among : (by : Colour) (asked : Kind) (set : ℕ) → by ≡ p.side → IsSetOf set (is_man by asked) p.men → man.kind ≡ asked → m.origin < 64
      → has set m.origin ≡ true
  among by asked set side is kind on =
      let own : is_colour by man.colour ≡ true =
      ap (λ (c : Colour). is_colour c man.colour) side ∙ colour_back man.colour p.side (played_by p m man there legal).own in
      is m.origin on ∙ ap (is_man by asked) there
      ∙ and_from (is_colour by man.colour) (is_kind asked man.kind) own (ap (is_kind asked) kind ∙ kind_self asked)

  -- A pawn is promoted from the rank before the last alone.
  pub unpromoted : man.kind ≡ Pawn → eqb (rank_of m.origin) (rank_before man.colour) ≡ false → promotes man m.target ≡ false
  unpromoted pawn apart = false_from_ne_true (promotes man m.target) (λ h.
      let goes_so : pawn_goes p man.colour m.origin m.target ≡ true = ap (λ kind. goes p man.colour kind m.origin m.target) (sym pawn)
      ∙ (played_by p m man there legal).goes in
      let last = eqb-true (rank_of m.target) (last_rank man.colour)
      ((and_parts (is_kind Pawn man.kind) (eqb (rank_of m.target) (last_rank man.colour)) h).1) in
      let from = eq-eqb (rank_of m.origin) (rank_before man.colour) ((pawn_before p man.colour m.origin m.target goes_so).0 last) in cc)

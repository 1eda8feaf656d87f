-- Where the side to move may not castle and there is no en passant target, a legal move changes its origin and its target alone.
use Rattle.std.proofs.Common.{◌≡◌, ℕ, Bool, true, false, ◌&&◌, not, eqb, Option, None, Some, refl, inl, inr, arith}
use Rattle.std.proofs.lemmas.Bool.{and_parts, or_cases}
use Rattle.std.proofs.lemmas.Bool.Decides.{nat_tests}
use Rattle.chess_board.specs.declared.men.Colour.{Colour}
use Rattle.chess_board.specs.declared.men.Colour.TheVariants.{White, Black}
use Rattle.chess_board.specs.declared.men.Kind.{Kind}
use Rattle.chess_board.specs.declared.men.Kind.TheVariants.{Pawn, Knight, Bishop, Rook, Queen, King}
use Rattle.chess_board.specs.declared.men.Man.{Man}
use Rattle.chess_board.specs.Squares.{file_gap}
use Rattle.chess_board.specs.Men.{is_colour, is_kind, is_of}
use Rattle.chess_board.specs.Moves.{Move}
use Rattle.chess_board.specs.Positions.{Setup, man_at, moved}
use Rattle.chess_board.specs.Attacks.{attacks_as}
use Rattle.chess_board.specs.EnPassant.{is_en_passant}
use Rattle.chess_board.specs.Castling.{castles, is_castling}
use Rattle.chess_board.specs.PseudoLegal.{goes, suits, piece_goes, man_may, is_pseudo_legal}
use Rattle.chess_board.specs.MakeMove.{becomes, men_after, after_setup}
use Rattle.chess_board.specs.Legality.{is_safe, is_legal}
use Rattle.mate_search.specs.inside.SideOccupancy.{IsPlain}

-- A man of the side to move stands on the origin and goes to the target, and no other square changes.
pub record IsPlainMove (p : Setup) (m : Move) (man : Man) : Type 0 where
  pub there : man_at p.men m.origin ≡ Some man
  pub own : man.colour ≡ p.side
  pub men : (after_setup p m).men ≡ moved p.men m.origin m.target (becomes man m.promotion)

same_colour : (a b : Colour) → is_colour a b ≡ true → a ≡ b
same_colour White White h = refl
same_colour White Black h = absurd (cc)
same_colour Black White h = absurd (cc)
same_colour Black Black h = refl

no_passing : (p : Setup) (man : Man) (m : Move) → p.target ≡ None → is_en_passant p man m ≡ false
no_passing p man m none = rw none (never (is_kind Pawn man.kind))
  where
    never : (x : Bool) → (x && false) ≡ false
    never true = refl
    never false = refl

no_castling : (p : Setup) (colour : Colour) (a b : ℕ) → IsPlain p → colour ≡ p.side → castles p colour a b ≡ false
no_castling p colour a b plain own = rw own (rw (plain.king_side, plain.queen_side) refl)

king_near : (p : Setup) (colour : Colour) (a b : ℕ) → piece_goes p colour King a b ≡ true → eqb (file_gap a b) 2 ≡ false
king_near p colour a b goes =
    let near : attacks_as p.men colour King a b ≡ true =
    (and_parts (attacks_as p.men colour King a b) (not (is_of colour (man_at p.men b))) goes).0 in
    grind (arith, nat_tests)

no_castler : (p : Setup) (colour : Colour) (kind : Kind) (a b : ℕ) → castles p colour a b ≡ false → goes p colour kind a b ≡ true
    → (is_kind King kind && eqb (file_gap a b) 2) ≡ false
no_castler p colour Pawn a b none goes = refl
no_castler p colour Knight a b none goes = refl
no_castler p colour Bishop a b none goes = refl
no_castler p colour Rook a b none goes = refl
no_castler p colour Queen a b none goes = refl
no_castler p colour King a b none goes = elim (or_cases (piece_goes p colour King a b) (castles p colour a b) goes) [
  | inl steps ↦ king_near p colour a b steps
  | inr never ↦ absurd (cc)
]

men_plain : (p : Setup) (man : Man) (m : Move) → is_en_passant p man m ≡ false → is_castling man m ≡ false
    → men_after p man m ≡ moved p.men m.origin m.target (becomes man m.promotion)
men_plain p man m passing castling = rw (passing, castling) refl

pub plain_move : (p : Setup) (m : Move) → IsPlain p → is_legal p m ≡ true → (man : Man) × IsPlainMove p m man
unfolding is_legal is_pseudo_legal after_setup
plain_move p m plain legal =
    let may : man_may p (man_at p.men m.origin) m ≡ true = (and_parts (is_pseudo_legal p m) (is_safe p m) legal).0 in
    (elim (man_at p.men m.origin) as (λ o. man_at p.men m.origin ≡ o → (man : Man) × IsPlainMove p m man) [
      | None ↦ λ is. let never = rw is at may in cc
      | Some man ↦ λ is.
          let parts = and_parts (is_colour man.colour p.side && suits man m.target m.promotion)
          (goes p man.colour man.kind m.origin m.target) (rw is at may) in
          let own : man.colour ≡ p.side =
          same_colour man.colour p.side (and_parts (is_colour man.colour p.side) (suits man m.target m.promotion) parts.0).0 in
          let castles_not = no_castler p man.colour man.kind m.origin m.target (no_castling p man.colour m.origin m.target plain own) parts.1 in
          (man, record { there = is; own = own; men = rw is (men_plain p man m (no_passing p man m plain.target) castles_not) })
    ]) refl

-- what a man becomes is of its colour
pub becomes_colour : (man : Man) (into : Option Kind) → (becomes man into).colour ≡ man.colour
becomes_colour man None = refl
becomes_colour man (Some into) = refl

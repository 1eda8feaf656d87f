-- What is known of a man that makes a candidate move, and the three shapes that the move can have: plain, en passant, castling.
use Rattle.std.proofs.Common.{◌≡◌, ◌≢◌, ◌⊎◌, ℕ, ◌<◌, true, false, List, Option, Some, None, refl}
use Rattle.std.proofs.lemmas.Bool.{and_from}
use Rattle.chess_board.specs.declared.men.Colour.{Colour}
use Rattle.chess_board.specs.declared.men.Colour.TheVariants.{White, Black}
use Rattle.chess_board.specs.declared.men.Kind.{Kind}
use Rattle.chess_board.specs.declared.men.Kind.TheVariants.{Pawn, King}
use Rattle.chess_board.specs.declared.men.Wing.{Wing}
use Rattle.chess_board.specs.declared.men.Wing.TheVariants.{KingSide, QueenSide}
use Rattle.chess_board.specs.declared.men.Man.{Man}
use Rattle.chess_board.specs.Moves.{Move}
use Rattle.chess_board.specs.Squares.{rank_of, crossed}
use Rattle.chess_board.specs.Positions.{Setup, man_at, moved, cleared}
use Rattle.chess_board.specs.Men.{other_side, is_colour, is_of, man_of}
use Rattle.chess_board.specs.inside.KindTests.{is_king_of, is_rook_of, is_pawn_of}
use Rattle.chess_board.specs.Attacks.{attacks_as, attacks_from, is_attacked, is_king_attacked, is_in_check}
use Rattle.chess_board.specs.Soundness.{IsSound}
use Rattle.chess_board.specs.PseudoLegal.{goes, promotes, suits}
use Rattle.chess_board.specs.MakeMove.{becomes, men_after}
use Rattle.chess_board.specs.Castling.{king_home, rook_home, king_goal, rook}
use Rattle.chess_board.specs.EnPassant.{captured_pawn}
use Rattle.chess_board.proofs.Below.{any_at}
use Rattle.chess_board.proofs.Colours.{is_colour_same}

-- the man of a colour and a kind
abbrev pub a_man : Colour → Kind → Man
a_man colour kind = record { colour = colour; kind = kind }

-- A man of the side to move stands on the origin, and the rules allow it the move.
pub record Mover (p : Setup) (colour : Colour) (kind : Kind) (m : Move) : Type 0 where
  pub sound : IsSound p
  pub side : p.side ≡ colour
  pub there : man_at p.men m.origin ≡ man_of colour kind
  pub a_on : m.origin < 64
  pub b_on : m.target < 64
  pub suit : suits (a_man colour kind) m.target m.promotion ≡ true
  pub goes : goes p colour kind m.origin m.target ≡ true

-- A plain move captures no man of its own, and no king.
pub record IsPlain (p : Setup) (colour : Colour) (kind : Kind) (m : Move) : Type 0 where
  pub men : men_after p (a_man colour kind) m ≡ moved p.men m.origin m.target (becomes (a_man colour kind) m.promotion)
  pub not_own : is_of colour (man_at p.men m.target) ≡ false
  pub not_king : is_king_of (other_side colour) (man_at p.men m.target) ≡ false

-- A pawn captures en passant.
pub record IsPassing (p : Setup) (colour : Colour) (kind : Kind) (m : Move) : Type 0 where
  pub men : men_after p (a_man colour kind) m ≡ cleared (moved p.men m.origin m.target (a_man colour kind)) (captured_pawn m.origin m.target)
  pub pawn : kind ≡ Pawn
  pub unpromoted : m.promotion ≡ None
  pub empty : man_at p.men m.target ≡ None
  pub passed : is_pawn_of (other_side colour) (man_at p.men (captured_pawn m.origin m.target)) ≡ true
  pub not_origin : captured_pawn m.origin m.target ≢ m.origin
  pub not_target : captured_pawn m.origin m.target ≢ m.target
  pub low : 2 < rank_of (captured_pawn m.origin m.target)
  pub high : rank_of (captured_pawn m.origin m.target) < 5

-- A king castles on a wing.
pub record IsCastling (p : Setup) (colour : Colour) (kind : Kind) (m : Move) (wing : Wing) : Type 0 where
  pub men : men_after p (a_man colour kind) m ≡ moved (moved p.men m.origin m.target (a_man colour kind)) (rook_home colour wing)
      (crossed m.origin m.target) (rook colour)
  pub king : kind ≡ King
  pub unpromoted : m.promotion ≡ None
  pub origin : m.origin ≡ king_home colour
  pub target : m.target ≡ king_goal colour wing
  pub empty : man_at p.men m.target ≡ None
  pub crossed_empty : man_at p.men (crossed m.origin m.target) ≡ None
  pub rook_there : is_rook_of colour (man_at p.men (rook_home colour wing)) ≡ true

abbrev pub Shape : Setup → Colour → Kind → Move → Type 0
Shape p colour kind m = IsPlain p colour kind m ⊎ IsPassing p colour kind m
    ⊎ IsCastling p colour kind m KingSide ⊎ IsCastling p colour kind m QueenSide

pub other_twice : (a : Colour) → other_side (other_side a) ≡ a
other_twice White = refl
other_twice Black = refl

-- A man of the side to move attacks no enemy king, or the position were not sound.
pub attacks_no_king : (p : Setup) (colour : Colour) (kind : Kind) (m : Move) → Mover p colour kind m →
    attacks_as p.men colour kind m.origin m.target ≡ true → is_king_of (other_side colour) (man_at p.men m.target) ≡ false
attacks_no_king p colour kind m h attacks =
    let b = m.target in
    let foe = other_side colour in
    (elim (is_king_of foe (man_at p.men b)) as (λ x. is_king_of foe (man_at p.men b) ≡ x → x ≡ false) [
      | false ↦ λ e. refl
      | true ↦ λ e.
          let from : attacks_from p.men colour m.origin b ≡ true = rw h.there
          (and_from (is_colour colour colour) (attacks_as p.men colour kind m.origin b) (is_colour_same colour) attacks) in
          let hit : is_attacked p.men b colour ≡ true = any_at (λ x. attacks_from p.men colour x b) 64 m.origin h.a_on from in
          let hit' : is_attacked p.men b (other_side foe) ≡ true = rw (other_twice colour) hit in
          let check : is_in_check p.men foe ≡ true = any_at (λ x. is_king_attacked p.men foe x) 64 b h.b_on
          (and_from (is_king_of foe (man_at p.men b)) (is_attacked p.men b (other_side foe)) e hit') in
          let safe : is_in_check p.men foe ≡ false = rw h.side at h.sound.safe in
          cc
    ]) refl

-- A man that is no pawn on its last rank stays what it is.
pub stays_unpromoted : (man : Man) (b : ℕ) (o : Option Kind) → suits man b o ≡ true → promotes man b ≡ false → o ≡ None
stays_unpromoted man b None h e = refl
stays_unpromoted man b (Some k) h e = let t = rw e at h in cc

-- Where no man of its own stands, or none at all, the mover itself does not stand.
pub own_apart : (men : List (Option Man)) (colour : Colour) (kind : Kind) (a b : ℕ) → man_at men a ≡ man_of colour kind
    → is_of colour (man_at men b) ≡ false → b ≢ a
own_apart men colour k a b there taken same =
    let x = rw (same, there) at taken in
    let y = is_colour_same colour in cc

pub empty_apart : (men : List (Option Man)) (colour : Colour) (kind : Kind) (a b : ℕ)
    → man_at men a ≡ man_of colour kind → man_at men b ≡ None → b ≢ a
empty_apart men colour k a b there empty same = let x = rw (same, there) at empty in cc

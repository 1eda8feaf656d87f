-- Not for believing: squares to which a king steps so that no man mates afterwards.
use Rattle.std.specs.Prelude.{◌≡◌, ◌≢◌, ℕ, ◌<◌, Bool, true, false, ◌==◌, None}
use Rattle.square_sets.specs.Members.{has}
use Rattle.chess_board.specs.declared.men.Colour.{Colour}
use Rattle.chess_board.specs.declared.men.Kind.{Kind}
use Rattle.chess_board.specs.declared.men.Kind.TheVariants.{Pawn, King}
use Rattle.chess_board.specs.Castling.{king_home}
use Rattle.chess_board.specs.Men.{other_side, is_man, is_of, man_of}
use Rattle.chess_board.specs.Positions.{Setup, man_at}
use Rattle.chess_board.specs.Soundness.{IsSound}
use Rattle.chess_board.specs.Squares.{rank_of}
use Rattle.chess_moves.specs.declared.directions.Leap.TheVariants.{KingStep}
use Rattle.chess_moves.specs.declared.king_steps.KingSteps.{KingSteps}
use Rattle.chess_moves.specs.inside.Hits.{hits_as, place_hits}
use Rattle.chess_moves.specs.inside.Leaps.{leaps}
use Rattle.chess_moves.specs.inside.Shifts.{rank_before}

-- The men of a colour attack no square outside of the set, whatever else stands on the board.
abbrev pub HoldsLines : ℕ → Colour → Setup → Type 0
HoldsLines set by p = (t : ℕ) → t < 64 → has set t ≡ false → (taken : ℕ → Bool) (a : ℕ) → a < 64
    → place_hits taken by (man_at p.men a) a t ≡ false

-- None of them will promote or castle: no pawn stands before its last rank, nor the king at home.
pub record HasPlainMen (by : Colour) (p : Setup) : Type 0 where
  pub pawns : (o : ℕ) → o < 64 → is_man by Pawn (man_at p.men o) ≡ true → (rank_of o == rank_before by) ≡ false
  pub king : (o : ℕ) → o < 64 → is_man by King (man_at p.men o) ≡ true → (o == king_home by) ≡ false

-- Beside a colour's king, which stands on k, an empty square f.
pub record IsStep (p : Setup) (c : Colour) (k f : ℕ) : Type 0 where
  pub king_on_board : k < 64
  pub king : man_at p.men k ≡ man_of c King
  pub on_board : f < 64
  pub beside : leaps KingStep k f ≡ true
  pub free : man_at p.men f ≡ None
  pub sound : IsSound p

-- Each is a step, in line with no man of the other side, of whom none will promote or castle.
pub record AreStepsOf (steps : KingSteps) (p : Setup) : Type 0 where
  pub plain : HasPlainMen (other_side steps.colour) p
  pub lines : HoldsLines steps.in_line (other_side steps.colour) p
  pub each : (f : ℕ) → f < 64 → has steps.squares f ≡ true → IsStep p steps.colour steps.king f
  pub clear : (f : ℕ) → f < 64 → has steps.squares f ≡ true → has steps.in_line f ≡ false

-- From t a man of this kind leaves one of the squares unattacked, whatever stands on the board.
pub record Misses (squares : ℕ) (by : Colour) (asked : Kind) (t : ℕ) : Type 0 where
  pub missed : ℕ
  pub on_board : missed < 64
  pub there : has squares missed ≡ true
  pub misses : (taken : ℕ → Bool) → hits_as taken by asked t missed ≡ false

-- So does each man of this kind, wherever it goes; a king that steps.
abbrev pub AreMissedBy : ℕ → Colour → Setup → Kind → Type 0
AreMissedBy squares by p asked = (o t : ℕ) → o < 64 → t < 64 → is_man by asked (man_at p.men o) ≡ true
    → (asked ≡ King → leaps KingStep o t ≡ true) → Misses squares by asked t

-- f is a refuge of a colour's king: it steps there, and may stay or go on to the other squares. None of them is in line with a man of the
-- other side, and each of these men leaves one of them unattacked wherever it goes.
pub record IsRefuge (squares : ℕ) (p : Setup) (c : Colour) (f : ℕ) : Type 0 where
  pub from : ℕ
  pub step : IsStep p c from f
  pub plain : HasPlainMen (other_side c) p
  pub here : has squares f ≡ true
  pub lasting : ℕ  -- the other squares
  pub kept : (g : ℕ) → g < 64 → has lasting g ≡ true → has squares g ≡ true
  pub parts : (g : ℕ) → g < 64 → has squares g ≡ true → g ≢ f → has lasting g ≡ true
  pub near : (g : ℕ) → g < 64 → has lasting g ≡ true → leaps KingStep f g ≡ true
  pub free : (g : ℕ) → g < 64 → has lasting g ≡ true → from ≢ g → is_of c (man_at p.men g) ≡ false
  pub clear : (g : ℕ) → g < 64 → has squares g ≡ true → (taken : ℕ → Bool) (a : ℕ) → a < 64
      → place_hits taken (other_side c) (man_at p.men a) a g ≡ false
  pub missed : (asked : Kind) → AreMissedBy squares (other_side c) p asked

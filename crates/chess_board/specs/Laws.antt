-- Tests of attack and of legality with their squares and men named, what a legal move keeps, what four fields spell, and what
-- `==` answers.
use Rattle.std.specs.Prelude.{◌≡◌, ◌≢◌, ◌↔◌, ℕ, ◌<◌, ◌≤◌, Bool, true, false, List, [], All, Option, None}
use Rattle.chess_board.specs.Characters.{char}
use Rattle.chess_board.specs.Men.{man_of}
use Rattle.chess_board.specs.Positions.{Setup, man_at}
use Rattle.chess_board.specs.Attacks.{is_clear, is_between, attacks_as, is_attacked, is_in_check}
use Rattle.chess_board.specs.Soundness.{IsSound}
use Rattle.chess_board.specs.Fens.{Fields, SpellsSetup, fields_text}
use Rattle.chess_board.specs.Moves.{Move}
use Rattle.chess_board.specs.PseudoLegal.{is_pseudo_legal}
use Rattle.chess_board.specs.MakeMove.{after_setup}
use Rattle.chess_board.specs.Legality.{is_legal}
use Rattle.chess_board.specs.declared.men.Colour.{Colour}
use Rattle.chess_board.specs.declared.men.Kind.{Kind}
use Rattle.chess_board.specs.declared.men.Man.{Man}
use Rattle.chess_board.specs.contracts.positions.PositionPartialEq.TheImpl.{eq-value}

-- A square is attacked where a man of the colour stands somewhere and attacks it (FIDE Laws of Chess, article 3.1).
abbrev pub AttackedReads : Type 0
AttackedReads = (men : List (Option Man)) (square : ℕ) (colour : Colour) → (is_attacked men square colour ≡ true) ↔
    ((a : ℕ) × (a < 64) × (kind : Kind) × (man_at men a ≡ man_of colour kind) × (attacks_as men colour kind a square ≡ true))

-- The way is clear where no man stands strictly between (article 3.5).
abbrev pub ClearReads : Type 0
ClearReads = (men : List (Option Man)) (a b : ℕ) → (is_clear men a b ≡ true) ↔
    ((s : ℕ) → s < 64 → is_between a b s ≡ true → man_at men s ≡ None)

-- A move is legal where the rules allow it and the mover's king is not attacked afterwards (articles 3.9.2 and 3.10.1).
abbrev pub LegalReads : Type 0
LegalReads = (p : Setup) (m : Move) → (is_legal p m ≡ true) ↔
    ((is_pseudo_legal p m ≡ true) × (is_in_check (after_setup p m).men p.side ≡ false))

-- A sound position stays sound after a legal move.
abbrev pub SoundAfter : Type 0
SoundAfter = (p : Setup) (m : Move) → IsSound p → m.origin < 64 → m.target < 64 → is_legal p m ≡ true → IsSound (after_setup p m)

-- Four fields spell one position at most.
abbrev pub SpellsOne : Type 0
SpellsOne = (f : Fields) (p q : Setup) → SpellsSetup f p → SpellsSetup f q → p ≡ q

-- an ASCII byte that is neither a control nor a space
abbrev pub IsVisible : ℕ → Type 0
IsVisible b = (char " " < b) × (b ≤ char "~")

-- at least one byte, each of them visible
abbrev pub IsVisibleWord : List ℕ → Type 0
IsVisibleWord text = (text ≢ []) × All IsVisible text

-- The four fields that are printed for a sound position spell it, and each is one visible word.
pub record ArePrinted (p : Setup) : Type 0 where
  pub spelt : SpellsSetup (fields_text p) p
  pub placement : IsVisibleWord (fields_text p).placement
  pub side : IsVisibleWord (fields_text p).side
  pub castling : IsVisibleWord (fields_text p).castling
  pub target : IsVisibleWord (fields_text p).target

abbrev pub PrintedSpells : Type 0
PrintedSpells = (p : Setup) → IsSound p → ArePrinted p

-- what `==` answers for two positions
abbrev pub are_equal : Setup → Setup → Bool
are_equal = eq-value.it

-- It holds of two sound positions exactly where they are one.
abbrev pub EqualReads : Type 0
EqualReads = (p q : Setup) → IsSound p → IsSound q → (are_equal p q ≡ true) ↔ (p ≡ q)

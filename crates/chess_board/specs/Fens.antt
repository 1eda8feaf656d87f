-- FEN (PGN Specification, section 16.1): what a text spells, the one text that is printed, and the first fault of a text that
-- spells no sound position.
use Rattle.std.specs.Prelude.{◌≡◌, ◌≢◌, ℕ, List, [], ◌∷◌, ◌++◌, Option, length, decimal, slice_index_or, ◌==◌}
use Rattle.std.specs.List.{slice_split}
use Rattle.chess_board.specs.Characters.{char}
use Rattle.chess_board.specs.declared.men.Man.{Man}
use Rattle.chess_board.specs.declared.men.Colour.{Colour}
use Rattle.chess_board.specs.declared.faults.FenFault.{FenFault}
use Rattle.chess_board.specs.declared.faults.FenFault.TheVariants.{FieldCount, BadPlacement, BadSide, BadCastling, BadTarget, BadCounter}
use Rattle.chess_board.specs.Positions.{Setup}
use Rattle.chess_board.specs.Placement.{placement_text, SpellsPlacement}
use Rattle.chess_board.specs.Fields.{side_text, IsCastling, SpellsCastling, castling_text, SpellsTarget, target_text, IsCounter, SpellsCounter}
use Rattle.chess_board.specs.Faults.{IsFirst, IsUnsoundBy, fen_faults}

-- what a FEN says
pub record FenValue : Type 0 where
  pub position : Setup
  pub halfmove : ℕ
  pub fullmove : ℕ

-- the four fields that say a position
pub record Fields : Type 0 where
  pub placement : List ℕ
  pub side : List ℕ
  pub castling : List ℕ
  pub target : List ℕ

-- The four fields spell the position, which need not be sound.
pub record SpellsSetup (f : Fields) (p : Setup) : Type 0 where
  pub placement : SpellsPlacement f.placement p.men
  pub side : f.side ≡ side_text p.side
  pub castling : SpellsCastling f.castling p.rights
  pub target : SpellsTarget p.side f.target p.target

-- the parts of a text that is cut at every space
abbrev pub parts : List ℕ → List (List ℕ)
parts text = slice_split (λ b. b == char " ") text

abbrev pub part : List ℕ → ℕ → List ℕ
part text n = slice_index_or (parts text) n []

abbrev pub fields_of : List ℕ → Fields
fields_of text = record { placement = part text 0; side = part text 1; castling = part text 2; target = part text 3 }

-- A text spells a FEN by six fields with one space between each two.
pub record Spells (text : List ℕ) (f : FenValue) : Type 0 where
  pub six : length (parts text) ≡ 6
  pub position : SpellsSetup (fields_of text) f.position
  pub halfmove : SpellsCounter (part text 4) f.halfmove
  pub fullmove : SpellsCounter (part text 5) f.fullmove

-- the four fields that are printed for a position
abbrev pub fields_text : Setup → Fields
fields_text p = record { placement = placement_text p.men; side = side_text p.side; castling = castling_text p.rights; target = target_text p.target }

-- The one text that is printed for a position: its four fields.
unfoldable pub position_text : Setup → List ℕ
position_text p = placement_text p.men ++ char " " ∷ side_text p.side ++ char " " ∷ castling_text p.rights ++ char " " ∷ target_text p.target

-- The one text that is printed for a FEN.
unfoldable pub fen_text : FenValue → List ℕ
fen_text f = position_text f.position ++ char " " ∷ decimal f.halfmove ++ char " " ∷ decimal f.fullmove

-- What is wrong with four fields, fault by fault. The faults of a position ask which one the fields spell.
abbrev pub IsAmiss : Fields → FenFault → Type 0
IsAmiss f BadPlacement = (men : List (Option Man)) → ¬ (SpellsPlacement f.placement men)
IsAmiss f BadSide = (side : Colour) → f.side ≢ side_text side
IsAmiss f BadCastling = ¬ (IsCastling f.castling)
IsAmiss f BadTarget = (side : Colour) → f.side ≡ side_text side → (target : Option ℕ) → ¬ (SpellsTarget side f.target target)
IsAmiss f fault = (p : Setup) × SpellsSetup f p × IsUnsoundBy p fault

-- What is wrong with a text, fault by fault.
abbrev pub Applies : List ℕ → FenFault → Type 0
Applies text FieldCount = length (parts text) ≢ 6
Applies text BadCounter = ¬ (IsCounter (part text 4) × IsCounter (part text 5))
Applies text fault = IsAmiss (fields_of text) fault

-- The fault of a text is the first that applies.
unfoldable pub IsFault : List ℕ → FenFault → Type 0
IsFault text fault = IsFirst (Applies text) fen_faults fault

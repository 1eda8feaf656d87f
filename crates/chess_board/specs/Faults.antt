-- The faults of a FEN: their names as printed, their order, and those of a position that is spelt and not sound.
use Rattle.std.specs.Prelude.{◌≡◌, ◌⊎◌, ℕ, List, [], ◌∷◌, true, false, codes}
use Rattle.chess_board.specs.declared.faults.FenFault.{FenFault}
use Rattle.chess_board.specs.declared.faults.FenFault.TheVariants.{FieldCount, BadPlacement, BadSide, BadCastling, BadTarget}
use Rattle.chess_board.specs.declared.faults.FenFault.TheVariants.{BadCounter, BadKings, PawnOnEndRank, TooManyMen, RightWithoutMen}
use Rattle.chess_board.specs.declared.faults.FenFault.TheVariants.{TargetWithoutPawn, OpponentInCheck}
use Rattle.chess_board.specs.Positions.{Setup}
use Rattle.chess_board.specs.Soundness.{HasOneKingEach, HasAtMostSixteenEach, has_no_end_pawn, has_men_of_rights}
use Rattle.chess_board.specs.Soundness.{has_pawn_of_some_target, is_opponent_in_check}

abbrev pub fault_name : FenFault → List ℕ
fault_name FieldCount = codes "FieldCount"
fault_name BadPlacement = codes "BadPlacement"
fault_name BadSide = codes "BadSide"
fault_name BadCastling = codes "BadCastling"
fault_name BadTarget = codes "BadTarget"
fault_name BadCounter = codes "BadCounter"
fault_name BadKings = codes "BadKings"
fault_name PawnOnEndRank = codes "PawnOnEndRank"
fault_name TooManyMen = codes "TooManyMen"
fault_name RightWithoutMen = codes "RightWithoutMen"
fault_name TargetWithoutPawn = codes "TargetWithoutPawn"
fault_name OpponentInCheck = codes "OpponentInCheck"

-- The fault is the first in a list that applies.
abbrev pub IsFirst : (FenFault → Type 0) → List FenFault → FenFault → Type 0
IsFirst applies [] fault = ⊥
IsFirst applies (next ∷ later) fault = (applies next × (fault ≡ next)) ⊎ (¬ (applies next) × IsFirst applies later fault)

-- the faults of four fields that spell no position, in their order
abbrev pub spelling_faults : List FenFault
spelling_faults = BadPlacement ∷ BadSide ∷ BadCastling ∷ BadTarget ∷ []

-- the faults of a position that is spelt, in their order
abbrev pub position_faults : List FenFault
position_faults = BadKings ∷ PawnOnEndRank ∷ TooManyMen ∷ RightWithoutMen ∷ TargetWithoutPawn ∷ OpponentInCheck ∷ []

-- the faults of four fields, in their order
abbrev pub field_faults : List FenFault
field_faults = BadPlacement ∷ BadSide ∷ BadCastling ∷ BadTarget ∷ position_faults

-- the faults of a FEN, in their order
abbrev pub fen_faults : List FenFault
fen_faults = FieldCount ∷ BadPlacement ∷ BadSide ∷ BadCastling ∷ BadTarget ∷ BadCounter ∷ position_faults

-- What makes a position unsound, fault by fault.
abbrev pub IsUnsoundBy : Setup → FenFault → Type 0
IsUnsoundBy p BadKings = ¬ (HasOneKingEach p.men)
IsUnsoundBy p PawnOnEndRank = has_no_end_pawn p.men ≡ false
IsUnsoundBy p TooManyMen = ¬ (HasAtMostSixteenEach p.men)
IsUnsoundBy p RightWithoutMen = has_men_of_rights p.men p.rights ≡ false
IsUnsoundBy p TargetWithoutPawn = has_pawn_of_some_target p ≡ false
IsUnsoundBy p OpponentInCheck = is_opponent_in_check p ≡ true
IsUnsoundBy p _ = ⊥

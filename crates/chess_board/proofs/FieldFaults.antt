-- Which fault of four fields is their first, and that fields with a fault spell no sound position.
use Rattle.chess_board.specs.declared.faults.FenFault.{FenFault}
use Rattle.chess_board.specs.Positions.{Setup}
use Rattle.chess_board.specs.Soundness.{IsSound}
use Rattle.chess_board.specs.Faults.{IsFirst, IsUnsoundBy, spelling_faults, position_faults, field_faults}
use Rattle.chess_board.specs.Fens.{Fields, SpellsSetup, IsAmiss}
use Rattle.chess_board.proofs.FaultOrder.{first_in_front, first_behind, first_alike, none_alike, none_joined, none_first}
use Rattle.chess_board.proofs.FenFaults.{spelt_right, sound_right, to_amiss, from_amiss}

pub spelling_is_first : (f : Fields) (fault : FenFault) → IsFirst (IsAmiss f) spelling_faults fault → IsFirst (IsAmiss f) field_faults fault
spelling_is_first f fault h = first_in_front (IsAmiss f) spelling_faults position_faults fault h

pub unsound_is_first : (f : Fields) (p : Setup) (fault : FenFault) → SpellsSetup f p
    → IsFirst (IsUnsoundBy p) position_faults fault → IsFirst (IsAmiss f) field_faults fault
unsound_is_first f p fault spelt h =
    first_behind (IsAmiss f) spelling_faults position_faults fault (spelt_right f p spelt)
    (first_alike (IsUnsoundBy p) (IsAmiss f) position_faults fault (to_amiss f p spelt) (from_amiss f p spelt) h)

pub faulty_fields : (f : Fields) (p : Setup) (fault : FenFault) → IsFirst (IsAmiss f) field_faults fault → SpellsSetup f p → IsSound p → ⊥
faulty_fields f p fault h spelt sound =
    none_first (IsAmiss f) field_faults fault
    (none_joined (IsAmiss f) spelling_faults position_faults (spelt_right f p spelt)
    (none_alike (IsAmiss f) (IsUnsoundBy p) position_faults (from_amiss f p spelt) (sound_right p sound))) h

-- Four fields that spell a sound position have no fault.
use Rattle.std.proofs.Common.{◌≢◌, ℕ, List, [], ◌∷◌, sym, ◌∙◌, subst, inl, inr, true≢false}
use Rattle.chess_board.specs.declared.faults.FenFault.{FenFault}
use Rattle.chess_board.specs.declared.faults.FenFault.TheVariants.{FieldCount, BadPlacement, BadSide, BadCastling, BadTarget}
use Rattle.chess_board.specs.declared.faults.FenFault.TheVariants.{BadCounter, BadKings, PawnOnEndRank, TooManyMen, RightWithoutMen}
use Rattle.chess_board.specs.declared.faults.FenFault.TheVariants.{TargetWithoutPawn, OpponentInCheck}
use Rattle.chess_board.specs.Positions.{Setup}
use Rattle.chess_board.specs.Soundness.{IsSound}
use Rattle.chess_board.specs.Faults.{IsFirst, IsUnsoundBy, field_faults}
use Rattle.chess_board.specs.Fens.{Fields, SpellsSetup, IsAmiss}
use Rattle.chess_board.specs.Laws.{SpellsOne}
use Rattle.chess_notation.specs.declared.epd_faults.EpdFault.TheVariants.{Fen}
use Rattle.chess_notation.specs.RecordFields.{fourth_word, line_fields}
use Rattle.chess_notation.specs.EpdFaults.{IsAmissBy}

sound_right : (p : Setup) → IsSound p → (fault : FenFault) → IsUnsoundBy p fault → ⊥
sound_right p h FieldCount u = u
sound_right p h BadPlacement u = u
sound_right p h BadSide u = u
sound_right p h BadCastling u = u
sound_right p h BadTarget u = u
sound_right p h BadCounter u = u
sound_right p h BadKings u = u h.kings
sound_right p h PawnOnEndRank u = true≢false (sym h.pawns ∙ u)
sound_right p h TooManyMen u = u h.few
sound_right p h RightWithoutMen u = true≢false (sym h.rights ∙ u)
sound_right p h TargetWithoutPawn u = true≢false (sym h.target ∙ u)
sound_right p h OpponentInCheck u = true≢false (sym u ∙ h.safe)

-- A fault of the position that the fields spell is one of every position that they spell: there is one only.
position_right : SpellsOne → (f : Fields) (p : Setup) → SpellsSetup f p → IsSound p → (fault : FenFault)
    → (q : Setup) × SpellsSetup f q × IsUnsoundBy q fault → ⊥
position_right one f p spelt sound fault w = sound_right p sound fault (subst (λ (s : Setup). IsUnsoundBy s fault) (one f w.0 p w.1 spelt) w.2)

fields_right : SpellsOne → (f : Fields) (p : Setup) → SpellsSetup f p → IsSound p → (fault : FenFault) → IsAmiss f fault → ⊥
fields_right one f p h sound FieldCount u = u.2
fields_right one f p h sound BadPlacement u = u p.men h.placement
fields_right one f p h sound BadSide u = u p.side h.side
fields_right one f p h sound BadCastling u = u h.castling.0
fields_right one f p h sound BadTarget u = u p.side h.side p.target h.target
fields_right one f p h sound BadCounter u = u.2
fields_right one f p h sound BadKings u = position_right one f p h sound BadKings u
fields_right one f p h sound PawnOnEndRank u = position_right one f p h sound PawnOnEndRank u
fields_right one f p h sound TooManyMen u = position_right one f p h sound TooManyMen u
fields_right one f p h sound RightWithoutMen u = position_right one f p h sound RightWithoutMen u
fields_right one f p h sound TargetWithoutPawn u = position_right one f p h sound TargetWithoutPawn u
fields_right one f p h sound OpponentInCheck u = position_right one f p h sound OpponentInCheck u

none_first : (Applies : FenFault → Type 0) (faults : List FenFault) (fault : FenFault)
    → ((f : FenFault) → Applies f → ⊥) → IsFirst Applies faults fault → ⊥
none_first Applies [] fault none h = h
none_first Applies (next ∷ later) fault none (inl h) = none next h.0
none_first Applies (next ∷ later) fault none (inr h) = none_first Applies later fault none h.1

pub fields_clear : SpellsOne → (line : List ℕ) (p : Setup) → fourth_word line ≢ [] → SpellsSetup (line_fields line) p → IsSound p
    → (fault : FenFault) → IsAmissBy line (Fen fault) → ⊥
fields_clear one line p some spelt sound fault h = by_fault fault h where
  no_first : (fault : FenFault) → IsFirst (IsAmiss (line_fields line)) field_faults fault → ⊥
  no_first fault h = none_first (IsAmiss (line_fields line)) field_faults fault (fields_right one (line_fields line) p spelt sound) h

  by_fault : (fault : FenFault) → IsAmissBy line (Fen fault) → ⊥
  by_fault FieldCount h = some h
  by_fault BadPlacement h = no_first BadPlacement h.1
  by_fault BadSide h = no_first BadSide h.1
  by_fault BadCastling h = no_first BadCastling h.1
  by_fault BadTarget h = no_first BadTarget h.1
  by_fault BadCounter h = no_first BadCounter h.1
  by_fault BadKings h = no_first BadKings h.1
  by_fault PawnOnEndRank h = no_first PawnOnEndRank h.1
  by_fault TooManyMen h = no_first TooManyMen h.1
  by_fault RightWithoutMen h = no_first RightWithoutMen h.1
  by_fault TargetWithoutPawn h = no_first TargetWithoutPawn h.1
  by_fault OpponentInCheck h = no_first OpponentInCheck h.1

-- Which fault of a text is its first, and that a text with a fault spells no FEN of a sound position.
use Rattle.std.proofs.Common.{◌≡◌, ◌∙◌, List, [], ◌∷◌, length, slice_index_or, ap, sym, subst, inr, ℕ, true≢false}
use Rattle.chess_board.specs.declared.faults.FenFault.{FenFault}
use Rattle.chess_board.specs.declared.faults.FenFault.TheVariants.{FieldCount, BadPlacement, BadSide, BadCastling, BadTarget}
use Rattle.chess_board.specs.declared.faults.FenFault.TheVariants.{BadCounter, BadKings, PawnOnEndRank, TooManyMen, RightWithoutMen}
use Rattle.chess_board.specs.declared.faults.FenFault.TheVariants.{TargetWithoutPawn, OpponentInCheck}
use Rattle.chess_board.specs.Positions.{Setup}
use Rattle.chess_board.specs.Soundness.{IsSound}
use Rattle.chess_board.specs.Fields.{IsCounter}
use Rattle.chess_board.specs.Faults.{IsFirst, IsUnsoundBy, spelling_faults, position_faults, fen_faults}
use Rattle.chess_board.specs.Fens.{FenValue, Fields, SpellsSetup, Spells, IsAmiss, Applies, IsFault, parts, part, fields_of}
use Rattle.chess_board.proofs.FaultOrder.{NoneOf, first_in_front, first_behind, first_alike, none_first}
use Rattle.chess_board.proofs.Spelling.{fields_in, setup_once}

-- Fields that spell a position have no fault of spelling.
pub spelt_right : (f : Fields) (p : Setup) → SpellsSetup f p → NoneOf (IsAmiss f) spelling_faults
spelt_right f p h = (
  (λ none. none p.men h.placement),
  (
    (λ none. none p.side h.side),
    (
      (λ no. no h.castling.0),
      ((λ none. none p.side h.side p.target h.target), tt),
    ),
  ),
)

-- A sound position has no fault.
pub sound_right : (p : Setup) → IsSound p → NoneOf (IsUnsoundBy p) position_faults
sound_right p h = (
  (λ no. no h.kings),
  (
    (λ e. true≢false (sym h.pawns ∙ e)),
    (
      (λ no. no h.few),
      (
        (λ e. true≢false (sym h.rights ∙ e)),
        (
          (λ e. true≢false (sym h.target ∙ e)),
          ((λ e. true≢false (sym e ∙ h.safe)), tt),
        ),
      ),
    ),
  ),
)

-- What makes the position unsound is what is amiss with the fields that spell it.
pub to_amiss : (f : Fields) (p : Setup) → SpellsSetup f p → (fault : FenFault) → IsUnsoundBy p fault → IsAmiss f fault
to_amiss f p h FieldCount u = absurd u
to_amiss f p h BadPlacement u = absurd u
to_amiss f p h BadSide u = absurd u
to_amiss f p h BadCastling u = absurd u
to_amiss f p h BadTarget u = absurd u
to_amiss f p h BadCounter u = absurd u
to_amiss f p h BadKings u = (p, h, u)
to_amiss f p h PawnOnEndRank u = (p, h, u)
to_amiss f p h TooManyMen u = (p, h, u)
to_amiss f p h RightWithoutMen u = (p, h, u)
to_amiss f p h TargetWithoutPawn u = (p, h, u)
to_amiss f p h OpponentInCheck u = (p, h, u)

at_once : (f : Fields) (p : Setup) (fault : FenFault) → SpellsSetup f p → (q : Setup) × SpellsSetup f q × IsUnsoundBy q fault → IsUnsoundBy p fault
at_once f p fault h w = subst (λ (s : Setup). IsUnsoundBy s fault) (setup_once f w.0 p w.1 h) w.2

pub from_amiss : (f : Fields) (p : Setup) → SpellsSetup f p → (fault : FenFault) → IsAmiss f fault → IsUnsoundBy p fault
from_amiss f p h FieldCount u = absurd u.2
from_amiss f p h BadPlacement u = (spelt_right f p h).0 u
from_amiss f p h BadSide u = (spelt_right f p h).1.0 u
from_amiss f p h BadCastling u = (spelt_right f p h).1.1.0 u
from_amiss f p h BadTarget u = (spelt_right f p h).1.1.1.0 u
from_amiss f p h BadCounter u = absurd u.2
from_amiss f p h BadKings u = at_once f p BadKings h u
from_amiss f p h PawnOnEndRank u = at_once f p PawnOnEndRank h u
from_amiss f p h TooManyMen u = at_once f p TooManyMen h u
from_amiss f p h RightWithoutMen u = at_once f p RightWithoutMen h u
from_amiss f p h TargetWithoutPawn u = at_once f p TargetWithoutPawn h u
from_amiss f p h OpponentInCheck u = at_once f p OpponentInCheck h u

-- A text in six parts.
pub fault_of_spelling : (text a b c d e g : List ℕ) (fault : FenFault) → parts text ≡ a ∷ b ∷ c ∷ d ∷ e ∷ g ∷ []
    → IsFirst (IsAmiss (record { placement = a; side = b; castling = c; target = d })) spelling_faults fault → IsFault text fault
unfolding IsFault
fault_of_spelling text a b c d e g fault six h =
    let here : IsFirst (IsAmiss (fields_of text)) spelling_faults fault =
    subst (λ ps. IsFirst (IsAmiss (fields_in ps)) spelling_faults fault) (sym six) h in
    inr ((λ no. no (ap length six)), first_in_front (Applies text) spelling_faults (BadCounter ∷ position_faults) fault here)

spelt_here : (text a b c d e g : List ℕ) (p : Setup) → parts text ≡ a ∷ b ∷ c ∷ d ∷ e ∷ g ∷ []
    → SpellsSetup (record { placement = a; side = b; castling = c; target = d }) p → SpellsSetup (fields_of text) p
spelt_here text a b c d e g p six h = subst (λ ps. SpellsSetup (fields_in ps) p) (sym six) h

pub fault_of_position : (text a b c d e g : List ℕ) (p : Setup) (fault : FenFault) → parts text ≡ a ∷ b ∷ c ∷ d ∷ e ∷ g ∷ []
    → SpellsSetup (record { placement = a; side = b; castling = c; target = d }) p → IsCounter e → IsCounter g
    → IsFirst (IsUnsoundBy p) position_faults fault → IsFault text fault
unfolding IsFault
fault_of_position text a b c d e g p fault six spelt half full h =
    let here = spelt_here text a b c d e g p six spelt in
    let counters : IsCounter (part text 4) × IsCounter (part text 5) =
    subst (λ ps. IsCounter (slice_index_or ps 4 []) × IsCounter (slice_index_or ps 5 [])) (sym six) (half, full) in
    let first : IsFirst (IsAmiss (fields_of text)) position_faults fault =
    first_alike (IsUnsoundBy p) (IsAmiss (fields_of text)) position_faults fault (to_amiss (fields_of text) p here)
    (from_amiss (fields_of text) p here) h in
    inr (
      (λ no. no (ap length six)),
      first_behind (Applies text) spelling_faults (BadCounter ∷ position_faults) fault
          (spelt_right (fields_of text) p here) (inr ((λ no. no counters), first)),
    )

-- A text with a fault spells no FEN of a sound position.
pub faulty : (text : List ℕ) (fault : FenFault) (f : FenValue) → IsFault text fault → Spells text f → IsSound f.position → ⊥
unfolding IsFault
faulty text fault f h spelt sound =
    let right = spelt_right (fields_of text) f.position spelt.position in
    let good = sound_right f.position sound in
    let unsound = from_amiss (fields_of text) f.position spelt.position in
    let none : NoneOf (Applies text) fen_faults = (
      (λ no. no spelt.six),
      (
        right.0,
        (
          right.1.0,
          (
            right.1.1.0,
            (
              right.1.1.1.0,
              (
                (λ no. no (spelt.halfmove.0, spelt.fullmove.0)),
                (
                  (λ w. good.0 (unsound BadKings w)),
                  (
                    (λ w. good.1.0 (unsound PawnOnEndRank w)),
                    (
                      (λ w. good.1.1.0 (unsound TooManyMen w)),
                      (
                        (λ w. good.1.1.1.0 (unsound RightWithoutMen w)),
                        (
                          (λ w. good.1.1.1.1.0 (unsound TargetWithoutPawn w)),
                          ((λ w. good.1.1.1.1.1.0 (unsound OpponentInCheck w)), tt),
                        ),
                      ),
                    ),
                  ),
                ),
              ),
            ),
          ),
        ),
      ),
    ) in
    none_first (Applies text) fen_faults fault none h

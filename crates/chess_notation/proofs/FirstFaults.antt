-- The first fault of the fields of a line is a fault of the line.
use Rattle.std.proofs.Common.{◌≡◌, ◌≢◌, ℕ, ◌==◌, List, [], ◌∷◌, Bool, true, false, length, refl, sym, ◌∙◌, ap, inl, inr, true≢false}
use Rattle.std.specs.List.{list_all}
use mathlib.Core.Bool.{not}
use Rattle.std.proofs.lemmas.Bool.{and_parts}
use Rattle.chess_board.specs.declared.faults.FenFault.{FenFault}
use Rattle.chess_board.specs.declared.faults.FenFault.TheVariants.{FieldCount, BadPlacement, BadSide, BadCastling, BadTarget}
use Rattle.chess_board.specs.declared.faults.FenFault.TheVariants.{BadCounter, BadKings, PawnOnEndRank, TooManyMen, RightWithoutMen}
use Rattle.chess_board.specs.declared.faults.FenFault.TheVariants.{TargetWithoutPawn, OpponentInCheck}
use Rattle.chess_board.specs.Faults.{IsFirst, field_faults}
use Rattle.chess_board.specs.Fens.{Fields, IsAmiss}
use Rattle.chess_notation.specs.declared.epd_faults.EpdFault.TheVariants.{Fen}
use Rattle.chess_notation.specs.RecordFields.{fourth_word, line_fields}
use Rattle.chess_notation.specs.EpdFaults.{IsAmissBy}

abbrev is_count : FenFault → Bool
is_count FieldCount = true
is_count _ = false

no_count : (A : FenFault → Type 0) (faults : List FenFault) → list_all (λ f. not (is_count f)) faults ≡ true → IsFirst A faults FieldCount → ⊥
no_count A [] others h = h
no_count A (next ∷ later) others (inl here) =
    let other : not (is_count next) ≡ true = (and_parts (not (is_count next)) (list_all (λ f. not (is_count f)) later) others).0 in
    let count : is_count next ≡ true = sym (ap is_count here.1) in
    true≢false (sym other ∙ ap not count)
no_count A (next ∷ later) others (inr behind) =
    no_count A later (and_parts (not (is_count next)) (list_all (λ f. not (is_count f)) later) others).1 behind.1

-- The fields' first fault is a fault of the line.
pub fields_amiss : (line : List ℕ) (fault : FenFault) → fourth_word line ≢ []
    → IsFirst (IsAmiss (line_fields line)) field_faults fault → IsAmissBy line (Fen fault)
fields_amiss line FieldCount some h = absurd (no_count (IsAmiss (line_fields line)) field_faults refl h)
fields_amiss line BadPlacement some h = (some, h)
fields_amiss line BadSide some h = (some, h)
fields_amiss line BadCastling some h = (some, h)
fields_amiss line BadTarget some h = (some, h)
fields_amiss line BadCounter some h = (some, h)
fields_amiss line BadKings some h = (some, h)
fields_amiss line PawnOnEndRank some h = (some, h)
fields_amiss line TooManyMen some h = (some, h)
fields_amiss line RightWithoutMen some h = (some, h)
fields_amiss line TargetWithoutPawn some h = (some, h)
fields_amiss line OpponentInCheck some h = (some, h)

-- The fourth word is there where the field that stands for it has bytes.
pub fourth_there : (line placement side castling target : List ℕ)
    → line_fields line ≡ record { placement = placement; side = side; castling = castling; target = target }
    → (length target == 0) ≡ false → fourth_word line ≢ []
unfolding line_fields
fourth_there line placement side castling target is some none =
    let empty : target ≡ [] = sym (ap (λ (f : Fields). f.target) is) ∙ none in
    true≢false (sym (ap (λ t. length t == 0) empty) ∙ some)

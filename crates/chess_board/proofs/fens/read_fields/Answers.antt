use Rattle.std.proofs.Common.{◌≡◌, ◌∙◌, Ok, Err, Result, sym, subst, ap, refl}
use Rattle.std.specs.Prelude.{IfOk, OnOk, IfErr}
use Rattle.std.proofs.lemmas.Result.{err_from_is_err_and}
use Rattle.chess_board.specs.declared.faults.FenFault.{FenFault}
use Rattle.chess_board.specs.Positions.{Setup}
use Rattle.chess_board.specs.Faults.{IsFirst, IsUnsoundBy, position_faults, field_faults}
use Rattle.chess_board.specs.Fens.{Fields, SpellsSetup, IsAmiss}
use Rattle.chess_board.specs.Soundness.{IsSound}
use Rattle.chess_board.proofs.FieldFaults.{spelling_is_first, unsound_is_first, faulty_fields}
use Rattle.chess_board.proofs.Spelling.{setup_once}
use Rattle.chess_board.proofs.fens.read_fields.Goals as goal

abbrev Exact : Fields → Result Setup FenFault → Type 0
Exact f r = (p : Setup) → (r ≡ Ok p → SpellsSetup f p × IsSound p) × (SpellsSetup f p × IsSound p → r ≡ Ok p)

-- Fields with a fault are refused and spell no sound position.
exact_err : (f : Fields) (r : Result Setup FenFault) (fault : FenFault) → r ≡ Err fault → IsFirst (IsAmiss f) field_faults fault → Exact f r
exact_err f r fault e h p = ((λ ok. let x : Err fault ≡ Ok p = sym e ∙ ok in cc), (λ w. absurd (faulty_fields f p fault h w.0 w.1)))

-- What `sound_position` answers for the position that the fields spell.
exact_setup : (f : Fields) (s : Setup) (r : Result Setup FenFault) → SpellsSetup f s → IfOk r (λ p. p ≡ s) → OnOk r (IsSound s)
    → IfErr r (λ fault. IsFirst (IsUnsoundBy s) position_faults fault) → Exact f r
exact_setup f s (Ok g) spelt same sound refused p = (
  (λ ok. let here : s ≡ p = sym same ∙ cc in (subst (SpellsSetup f) here spelt, subst IsSound here sound)),
  (λ w. ap Ok (same ∙ setup_once f s p spelt w.0)),
)
exact_setup f s (Err fault) spelt same sound refused p = exact_err f (Err fault) fault refl (unsound_is_first f s fault spelt refused) p

refused_setup : (f : Fields) (s : Setup) (r : Result Setup FenFault) → SpellsSetup f s → IfErr r
    (λ fault. IsFirst (IsUnsoundBy s) position_faults fault) → IfErr r (λ fault. IsFirst (IsAmiss f) field_faults fault)
refused_setup f s (Ok g) spelt refused = refused
refused_setup f s (Err fault) spelt refused = unsound_is_first f s fault spelt refused

pub returns-in_err-setup-clause-exact : goal.returns-in_err-setup-clause-exact
returns-in_err-setup-clause-exact c =
    let e = err_from_is_err_and c.from_residual.result c.from_residual.ensures.1 in
    exact_err _ c.from_residual.result c.in_err-setup.field-0.0 (e.1 ∙ ap Err e.2) (spelling_is_first _ _ c.in_err-setup.ensures.refused)

pub returns-in_err-setup-clause-refused : goal.returns-in_err-setup-clause-refused
returns-in_err-setup-clause-refused c =
    let e = err_from_is_err_and c.from_residual.result c.from_residual.ensures.1 in
    rw (e.1, e.2) (spelling_is_first _ _ c.in_err-setup.ensures.refused)

pub returns-clause-exact : goal.returns-clause-exact
returns-clause-exact c = exact_setup _ c.in_ok-setup.setup c.sound_position.result c.in_ok-setup.ensures.read
    c.sound_position.ensures.position c.sound_position.ensures.sound c.sound_position.ensures.refused

pub returns-clause-refused : goal.returns-clause-refused
returns-clause-refused c = refused_setup _ c.in_ok-setup.setup c.sound_position.result c.in_ok-setup.ensures.read c.sound_position.ensures.refused

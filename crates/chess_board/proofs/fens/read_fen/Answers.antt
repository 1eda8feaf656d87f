use Rattle.std.proofs.Common.{◌≡◌, ◌∙◌, ℕ, List, Ok, Err, Result, sym, subst, ap}
use Rattle.std.proofs.lemmas.Result.{err_from_is_err_and}
use Rattle.chess_board.specs.declared.faults.FenFault.{FenFault}
use Rattle.chess_board.specs.Fens.{FenValue, IsFault, Spells}
use Rattle.chess_board.specs.Soundness.{IsSound}
use Rattle.chess_board.proofs.FenFaults.{fault_of_spelling, fault_of_position, faulty}
use Rattle.chess_board.proofs.Spelling.{spells_of, spelt_once}
use Rattle.chess_board.proofs.fens.read_fen.Goals as goal

abbrev Exact : List ℕ → Result FenValue FenFault → Type 0
Exact text r = (f : FenValue) → (r ≡ Ok f → Spells text f × IsSound f.position) × (Spells text f × IsSound f.position → r ≡ Ok f)

-- A text with a fault is refused and spells no sound position.
exact_err : (text : List ℕ) (r : Result FenValue FenFault) (fault : FenFault) → r ≡ Err fault → IsFault text fault → Exact text r
exact_err text r fault e h f = ((λ ok. let x : Err fault ≡ Ok f = sym e ∙ ok in cc), (λ w. absurd (faulty text fault f h w.0 w.1)))

exact_ok : (text : List ℕ) (g : FenValue) → Spells text g → IsSound g.position → Exact text (Ok g)
exact_ok text g spelt sound f = (
  (λ ok. let same : g ≡ f = cc in (subst (λ v. Spells text v) same spelt, subst (λ v. IsSound v.position) same sound)),
  (λ w. ap Ok (spelt_once text g f spelt w.0)),
)

pub returns-in_err-setup-clause-refused : goal.returns-in_err-setup-clause-refused
returns-in_err-setup-clause-refused c =
    let p = err_from_is_err_and c.from_residual.result c.from_residual.ensures.1 in
    rw (p.1, p.2) (fault_of_spelling c.args.text.now _ _ _ _ _ _ _ c.in-Some.ensures.fields c.in_err-setup.ensures.refused)

pub returns-in_err-setup-clause-exact : goal.returns-in_err-setup-clause-exact
returns-in_err-setup-clause-exact c =
    let p = err_from_is_err_and c.from_residual.result c.from_residual.ensures.1 in
    exact_err c.args.text.now c.from_residual.result c.in_err-setup.field-0.0 (p.1 ∙ ap Err p.2)
    (fault_of_spelling c.args.text.now _ _ _ _ _ _ _ c.in-Some.ensures.fields c.in_err-setup.ensures.refused)

pub returns-in_err-position-clause-exact : goal.returns-in_err-position-clause-exact
returns-in_err-position-clause-exact c =
    let p = err_from_is_err_and c.from_residual-in_err-position.result c.from_residual-in_err-position.ensures.1 in
    let half = c.in-Some-counter_of_text.ensures.read in
    let full = c.in-Some-counter_of_text-2.ensures.read in
    exact_err c.args.text.now c.from_residual-in_err-position.result c.in_err-position.field-0.0 (p.1 ∙ ap Err p.2)
    (fault_of_position c.args.text.now _ _ _ _ _ _ _ _ c.in-Some.ensures.fields c.in_ok-setup.ensures.read half.0
    full.0 c.in_err-position.ensures.refused)

pub returns-in_err-position-clause-refused : goal.returns-in_err-position-clause-refused
returns-in_err-position-clause-refused c =
    let p = err_from_is_err_and c.from_residual-in_err-position.result c.from_residual-in_err-position.ensures.1 in
    let half = c.in-Some-counter_of_text.ensures.read in
    let full = c.in-Some-counter_of_text-2.ensures.read in
    rw (p.1, p.2) (fault_of_position c.args.text.now _ _ _ _ _ _ _ _ c.in-Some.ensures.fields c.in_ok-setup.ensures.read half.0
    full.0 c.in_err-position.ensures.refused)

pub returns-clause-exact : goal.returns-clause-exact
returns-clause-exact c =
    let half = c.in-Some-counter_of_text.ensures.read in
    let full = c.in-Some-counter_of_text-2.ensures.read in
    exact_ok c.args.text.now _
    (spells_of c.args.text.now _ _ _ _ _ _ _ c.in-Some.ensures.fields (rw c.in_ok-position.ensures.position c.in_ok-setup.ensures.read) half full)
    (rw c.in_ok-position.ensures.position c.in_ok-position.ensures.sound)

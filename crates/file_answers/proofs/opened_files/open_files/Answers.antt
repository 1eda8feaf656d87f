use Rattle.std.proofs.Common.{◌≡◌, ◌∙◌, Bor, List, ℕ, ap, inl, length, map, refl, subst, take}
use Rattle.std.proofs.lemmas.List.{length-map, take_all}
use Rattle.std.proofs.lemmas.Result.{err_from_is_err_and}
use Rattle.file_answers.specs.OpenedFiles.{AreOpened}
use Rattle.file_answers.proofs.HeldFiles.{refused_there}
use Rattle.file_answers.proofs.OpenedFiles.{opened_each, opened_next}
use Rattle.file_answers.proofs.opened_files.open_files.Goals as goal

pub returns-in_err-file-clause-refused : goal.returns-in_err-file-clause-refused
returns-in_err-file-clause-refused g c =
    let (other, is, same) = err_from_is_err_and c.from_residual.result c.from_residual.ensures.1 in
    rw (is, same) (refused_there (g.S.Source.refuses c.args.source.now) c.args.names.now c.loop-name.name-index _
    c.in_err-file.field-0.0 c.loop-name-test.true c.in_err-file.ensures.refused)

pub loop-name-preserved : goal.loop-name-preserved
loop-name-preserved g c =
    rw c.in-Ok.ensures.items (opened_next g.S.File.Input.left g.S.File.Input.breaks (g.S.Source.holds c.args.source.now)
    (g.S.Source.refuses c.args.source.now) c.args.names.now c.loop-name.name-index _ c.loop-name.files.items c.in_ok-file.file
    c.loop-name-test.true c.loop-name.invariant c.in_ok-file.ensures.bytes c.in_ok-file.ensures.breaks)

pub returns-clause-count : goal.returns-clause-count
returns-clause-count g c =
    let all : take c.loop-name.name-index c.args.names.now ≡ c.args.names.now =
    take_all c.loop-name.name-index c.args.names.now c.loop-name-test.false in
    opened_each _ _ _ _ _ _ c.loop-name.invariant ∙ length-map (take c.loop-name.name-index c.args.names.now) (λ s. s.now) ∙ ap length all

pub returns-clause-opened : goal.returns-clause-opened
returns-clause-opened g c =
    subst (λ (names : List (Bor (List ℕ))). AreOpened g.S.File.Input.left g.S.File.Input.breaks (g.S.Source.holds c.args.source.now)
    (g.S.Source.refuses c.args.source.now) (map (λ s. s.now) names) c.loop-name.files.items)
    (take_all c.loop-name.name-index c.args.names.now c.loop-name-test.false) c.loop-name.invariant

pub returns-in_default-clause-refused : goal.returns-in_default-clause-refused
returns-in_default-clause-refused g c = inl refl

use Rattle.std.proofs.Common.{◌≡◌, ◌∙◌, ◌∷◌, [], Bor, List, ℕ, ap, inl, length, map, refl, subst, sym, take}
use Rattle.std.proofs.lemmas.List.{length-map, map-append, take_all}
use Rattle.std.proofs.lemmas.Result.{err_from_is_err_and}
use Rattle.file_answers.specs.Sources.{Holds}
use Rattle.file_answers.proofs.HeldFiles.{holds_each, holds_next, refused_there}
use Rattle.file_answers.proofs.sources.read_files.Goals as goal

pub returns-in_err-bytes-clause-refused : goal.returns-in_err-bytes-clause-refused
returns-in_err-bytes-clause-refused g c =
    let (other, is, same) = err_from_is_err_and c.from_residual.result c.from_residual.ensures.1 in
    rw (is, same) (refused_there (g.S.Source.refuses c.args.source.now) c.args.names.now c.loop-name.name-index _
    c.in_err-bytes.field-0.0 c.loop-name-test.true c.in_err-bytes.ensures.refused)

pub loop-name-preserved : goal.loop-name-preserved
loop-name-preserved g c =
    let next = holds_next (g.S.Source.holds c.args.source.now) c.args.names.now c.loop-name.name-index _
    (map (λ bytes. bytes.items) c.loop-name.files.items) c.in_ok-bytes.bytes.items c.loop-name-test.true
    c.loop-name.invariant c.in_ok-bytes.ensures.bytes in
    rw (c.in-Ok.ensures.items, map-append (λ bytes. bytes.items) c.loop-name.files.items (c.in_ok-bytes.bytes ∷ [])) next

pub returns-clause-count : goal.returns-clause-count
returns-clause-count g c =
    let all : take c.loop-name.name-index c.args.names.now ≡ c.args.names.now =
    take_all c.loop-name.name-index c.args.names.now c.loop-name-test.false in
    sym (length-map c.loop-name.files.items (λ bytes. bytes.items)) ∙ holds_each _ _ _ c.loop-name.invariant
    ∙ length-map (take c.loop-name.name-index c.args.names.now) (λ s. s.now) ∙ ap length all

pub returns-clause-bytes : goal.returns-clause-bytes
returns-clause-bytes g c =
    subst (λ (names : List (Bor (List ℕ))). Holds (g.S.Source.holds c.args.source.now) (map (λ s. s.now) names)
    (map (λ bytes. bytes.items) c.loop-name.files.items))
    (take_all c.loop-name.name-index c.args.names.now c.loop-name-test.false) c.loop-name.invariant

pub returns-in_default-clause-refused : goal.returns-in_default-clause-refused
returns-in_default-clause-refused g c = inl refl

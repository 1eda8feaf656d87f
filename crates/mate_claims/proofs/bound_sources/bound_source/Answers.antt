use Rattle.std.proofs.Common.{◌≡◌, ap, sym, ◌∙◌, subst}
use Rattle.chess_notation.specs.Claims.{length_claimed}
use Rattle.chess_notation.specs.Records.{Reads}
use Rattle.mate_claims.specs.BoundSources.{ReadsClaimed}
use Rattle.mate_claims.proofs.BoundSources.{said_again, said_by_line}
use Rattle.mate_claims.proofs.bound_sources.bound_source.Goals as goal

pub returns-then-get : goal.returns-then-get
returns-then-get c =
    said_by_line c.args.line.now c.args.default c.args.record.now c.requires.reads
    (λ same. c.if-get.true (c.get.ensures.moves ∙ ap (λ x. x.bound) c.record.view_is ∙ same ∙ sym c.get-2.ensures.moves))

pub returns-then-get-2 : goal.returns-then-get-2
returns-then-get-2 c =
    let line = c.args.line.now in
    let again = c.in-Ok.again in
    let more : ReadsClaimed line c.another.result again =
    subst (λ d. Reads line d again) (c.bound_claimed-taken.ensures ∙ ap (λ words. length_claimed words c.another.result) c.requires.words)
    c.in-Ok.ensures.reads in
    let bound : again.bound ≡ c.args.default =
    sym (ap (λ x. x.bound) c.again.view_is) ∙ sym c.get-3.ensures.moves ∙ c.if-get-2.true ∙ c.get-4.ensures.moves in
    said_again c.says_one.ensures line c.args.default c.another.result c.args.record.now again c.requires.reads more bound c.another.ensures

use Rattle.std.proofs.Common.{◌≡◌, ◌==◌, ◌∙◌, [], true, arith, rules, ap, subst, sym}
use Rattle.std.proofs.lemmas.Grind.{common_steps}
use Rattle.chess_notation.specs.Words.{words_in}
use Rattle.chess_notation.specs.AvoidMoves.{named}
use Rattle.chess_notation.specs.Claims.{claims_fault, length_claimed}
use Rattle.chess_notation.specs.Records.{problem_of}
use Rattle.mate_claims.specs.Said.{claims_refusal}
use Rattle.mate_claims.proofs.ListedKeys.{keys_named, names_none, none_refused, nothing_refused}
use Rattle.mate_claims.proofs.said.moves_listed.Goals as goal

pub returns-then-is_empty-clause-named : goal.returns-then-is_empty-clause-named
returns-then-is_empty-clause-named c =
    let none : c.args.words.now ≡ [] = grind (arith, common_steps) in
    ap (λ t. named c.args.record.now.position (words_in t)) none ∙ (names_none c.args.record.now.position).named_is

pub returns-then-is_empty-clause-clear : goal.returns-then-is_empty-clause-clear
returns-then-is_empty-clause-clear c =
    let none : c.args.words.now ≡ [] = grind (arith, common_steps) in
    let r = c.args.record.now in
    ap (λ t. claims_refusal r.position r.bound (words_in t)) none ∙ nothing_refused r.position r.bound

pub returns-then-agrees-clause-named : goal.returns-then-agrees-clause-named
returns-then-agrees-clause-named c =
    let r = c.args.record.now in
    let same : c.args.words.now ≡ c.args.found.now.keys.now = search rules in
    let found = keys_named c.legal_listed.ensures c.names_one.ensures (problem_of r) c.args.found.now.outcome.now c.requires.truth
    c.requires.playable in
    ap (λ t. named r.position (words_in t)) (same ∙ c.requires.keys) ∙ found.named_is ∙ sym c.keys_found.ensures

pub returns-then-agrees-clause-clear : goal.returns-then-agrees-clause-clear
returns-then-agrees-clause-clear c =
    let r = c.args.record.now in
    let same : c.args.words.now ≡ c.args.found.now.keys.now = search rules in
    let found = keys_named c.legal_listed.ensures c.names_one.ensures (problem_of r) c.args.found.now.outcome.now c.requires.truth
    c.requires.playable in
    none_refused r.position r.bound (words_in c.args.words.now) (ap (λ t. claims_fault r.position (words_in t)) (same ∙ c.requires.keys) ∙ found.clear)
    (subst (λ b. (length_claimed (words_in c.args.words.now) b == b) ≡ true) (ap (λ x. x.bound) c.record.view_is)
    (sym c.agrees.ensures ∙ c.if-agrees.true))

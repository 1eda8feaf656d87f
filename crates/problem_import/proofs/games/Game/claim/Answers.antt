use Rattle.std.proofs.Common.{ap, refl, ◌∙◌, ◌∷◌, [], ◌++◌, append_assoc, drop, subst, ◌≢◌}
use Rattle.chess_notation.specs.RecordFields.{fourth_word}
use Rattle.problem_import.proofs.FieldTexts.{fields_on, word_longer}
use Rattle.problem_import.proofs.TagFens.{begun}
use Rattle.problem_import.proofs.games.Game.claim.Goals as goal

pub returns-clause-fen : goal.returns-clause-fen
returns-clause-fen c =
    let old = c.args.self.now.fen.items in
    let opcode = c.claim_opcode.result.now in
    let key = c.args.key.now in
    let one = c.extend_from_slice.new.self.items in (
      refl,
      fields_on old _ (subst (λ t. fourth_word t ≢ []) c.as_slice.ensures.value (c.is_position.ensures c.if-not-is_position.false))
          (word_longer old one _ (drop 1 opcode) (key ++ 59 ∷ [])
          (c.in_ok-extend_from_slice.ensures.items ∙ ap (λ t. old ++ t) (c.as_bytes.ensures.value ∙ begun 32 opcode c.claim_opcode.ensures))
          (c.in_ok-push_byte.ensures ∙ ap (λ t. t ++ 59 ∷ []) c.in_ok-extend_from_slice-2.ensures.items ∙ append_assoc one key (59 ∷ []))),
    )

use Rattle.std.proofs.Common.{◌≡◌, true, false, ℕ, List}
use Rattle.arrayvec.specs.declared.array_string.ArrayString.{ArrayString}
use Rattle.chess_notation.specs.Opcodes.{comes_before}
use Rattle.chess_notation.proofs.TextPlaces.{behind_one_more, placed_before, get_or-seen, length-seen}
use Rattle.chess_notation.proofs.answers.text_place.Goals as goal

pub returns-then-comes_before-clause-place : goal.returns-then-comes_before-clause-place
returns-then-comes_before-clause-place c =
    let f : ArrayString 8 → List ℕ = λ t. t.bytes in
    let other = c.index-texts-index.result in
    let before : comes_before c.args.text.now other.bytes ≡ true =
    cc (c.comes_before.ensures, c.if-comes_before.true, c.as_bytes.ensures.value, c.as_str.ensures.value) in
    placed_before _ _ other.bytes _ (length-seen f c.args.texts.now _ c.loop-index-test.true)
    (get_or-seen f _ _ other c.loop-index-test.true c.index-texts-index.is) before c.loop-index.invariant

pub loop-index-preserved : goal.loop-index-preserved
loop-index-preserved c =
    let f : ArrayString 8 → List ℕ = λ t. t.bytes in
    let other = c.index-texts-index.result in
    let after : comes_before c.args.text.now other.bytes ≡ false =
    cc (c.comes_before.ensures, c.if-comes_before.false, c.as_bytes.ensures.value, c.as_str.ensures.value) in
    behind_one_more _ _ other.bytes _ (length-seen f c.args.texts.now _ c.loop-index-test.true)
    (get_or-seen f _ _ other c.loop-index-test.true c.index-texts-index.is) after c.loop-index.invariant

use Rattle.std.proofs.Common.{◌≡◌, ◌∙◌, ap, sym, true, false, arith}
use Rattle.chess_notation.specs.Operations.{Entry}
use Rattle.chess_notation.specs.Opcodes.{comes_before}
use Rattle.chess_notation.proofs.Merges.{merged_on, merged_before, merged_last}
use Rattle.chess_notation.proofs.answers.push_until.Goals as goal

pub returns-then-comes_before : goal.returns-then-comes_before
returns-then-comes_before c = λ own owns same below.
    let next = c.index-operations-index.result in
    let its : c.as_bytes.result.now ≡ next.opcode =
    c.as_bytes.ensures.value ∙ c.as_str.ensures.value ∙ ap (λ (e : Entry). e.opcode) c.operation.view_is in
    let before : comes_before c.args.opcode.now next.opcode ≡ true =
    ap (comes_before c.args.opcode.now) (sym its) ∙ sym c.comes_before.ensures ∙ c.if-comes_before.true in
    merged_before _ _ c.args.opcode.now own owns c.args.operations.now _ c.loop-index.index next c.loop-index-test.true
    c.index-operations-index.is same below before
    c.split_at.ensures.back (c.loop-index.invariant own owns same below)

pub loop-index-preserved : goal.loop-index-preserved
loop-index-preserved c = λ own owns same below.
    let next = c.index-operations-index.result in
    let its : c.as_bytes.result.now ≡ next.opcode =
    c.as_bytes.ensures.value ∙ c.as_str.ensures.value ∙ ap (λ (e : Entry). e.opcode) c.operation.view_is in
    let after : comes_before c.args.opcode.now next.opcode ≡ false =
    ap (comes_before c.args.opcode.now) (sym its) ∙ sym c.comes_before.ensures ∙ c.if-comes_before.false in
    merged_on _ _ _ c.args.opcode.now own owns c.args.operations.now c.loop-index.index next c.loop-index-test.true
    c.index-operations-index.is same below after
    c.in_ok-push_operation.ensures (c.loop-index.invariant own owns same below)

pub returns : goal.returns
returns c = λ own owns same below.
    merged_last _ _ c.args.opcode.now own owns c.args.operations.now c.loop-index.index (omega arith) same below
    (c.loop-index.invariant own owns same below)

use Rattle.std.proofs.Common.{◌+◌, ◌-◌, ◌≡◌, ◌≤◌, ℕ, List, Option, arith, drop, length, subst, sym, take}
use Rattle.std.proofs.lemmas.List.{length-drop, take_rest}
use Rattle.std.proofs.Math.Seq.{take-add}
use Rattle.std.proofs.KnownBytes.{Appends-kept, Appends-nil, Appends-trans}
use Rattle.std.specs.Io.KnownBytes.{Appends}
use Rattle.byte_streams.proofs.writing.put_counted.Goals as goal

pub loop-init : goal.loop-init
loop-init g c = (omega arith, Appends-nil _)

pub slice_bounds-write_some-start : goal.slice_bounds-write_some-start
slice_bounds-write_some-start g c = c.loop.invariant.0

pub returns-then-written-text-clause-first : goal.returns-then-written-text-clause-first
returns-then-written-text-clause-first g c = Appends-kept _ _ _ _ c.loop.invariant.1 c.flush.ensures.kept

pub returns-in_err-count-clause-few : goal.returns-in_err-count-clause-few
returns-in_err-count-clause-few g c = c.loop.invariant.0

pub returns-in_err-count-clause-first : goal.returns-in_err-count-clause-first
returns-in_err-count-clause-first g c = Appends-kept _ _ _ _ c.loop.invariant.1 c.in_err-count.ensures.kept

pub returns-clause-few : goal.returns-clause-few
returns-clause-few g c = c.loop.invariant.0

pub returns-clause-first : goal.returns-clause-first
returns-clause-first g c = c.loop.invariant.1

-- one write more goes on what was written
grows : (old now new : Option (List ℕ)) (text : List ℕ) (written count : ℕ) → written ≤ length text → Appends old now (take written text)
    → (count ≤ length (take (length text - written) (drop written text)))
    × Appends now new (take count (take (length text - written) (drop written text)))
    → (written + count ≤ length text) × Appends old new (take (written + count) text)
grows old now new text written count few first (some, more) =
    let rest : take (length text - written) (drop written text) ≡ drop written text = take_rest text written in
    let left : count ≤ length (drop written text) = subst (λ l. count ≤ length l) rest some in (
      omega (arith, few, left, length-drop written text),
      subst (λ l. Appends old new l) (sym (take-add written count text))
          (Appends-trans old now new (take written text) (take count (drop written text)) first (subst (λ l. Appends now new (take count l)) rest more)),
    )

pub loop-preserved : goal.loop-preserved
loop-preserved g c =
    grows _ _ _ c.args.text.now c.loop.written c.in_ok-count.count c.loop.invariant.0 c.loop.invariant.1 c.in_ok-count.ensures.ok

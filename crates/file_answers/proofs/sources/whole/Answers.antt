use Rattle.std.proofs.Common.{◌≡◌, ◌∙◌, ◌++◌, List, [], ℕ, Option, None, Some, rules, length, take, append-nil, ap, sym, subst}
use Rattle.std.proofs.KnownBytes.{Consumes-nil, Consumes-trans}
use Rattle.std.proofs.Math.Seq.{take-append_seam}
use Rattle.std.proofs.lemmas.Result.{err_from_is_err_and}
use Rattle.std.specs.Io.KnownBytes.{Consumes, IsAtEnd}
use Rattle.byte_streams.specs.Inputs.{MayBe}
use Rattle.file_answers.proofs.sources.whole.Goals as goal

seam : (n : ℕ) (xs ys : List ℕ) → length xs ≡ n → take n (xs ++ ys) ≡ xs
seam n xs ys is = ap (λ m. take m (xs ++ ys)) (sym is) ∙ take-append_seam xs ys

-- At the end nothing is left of what is known.
read_whole : (known left end : Option (List ℕ)) (last bytes : List ℕ) (count : ℕ) → Consumes known left bytes
    → Consumes left end (take count last) → IsAtEnd end → count ≡ 0 → MayBe known bytes
read_whole None left end last bytes count read more at_end none = tt
read_whole (Some x) None end last bytes count read more at_end none = absurd read
read_whole (Some x) (Some y) None last bytes count read more at_end none = absurd more
read_whole (Some x) (Some y) (Some z) last bytes count read more at_end none =
    let nothing : y ≡ [] = more ∙ ap (λ n. take n last ++ z) none ∙ at_end in
    sym (read ∙ ap (λ l. bytes ++ l) nothing ∙ append-nil bytes)

pub loop-init : goal.loop-init
loop-init g c = record {
  read = subst (Consumes _ _) (sym c.new-bytes.ensures.items) (Consumes-nil (g.I.Input.left c.args.file));
  room = search rules;
  steady = λ may. may;
}

pub returns-in_err-count-clause-refused : goal.returns-in_err-count-clause-refused
returns-in_err-count-clause-refused g c =
    let (other, is, same) = err_from_is_err_and c.from_residual-in_err-count.result c.from_residual-in_err-count.ensures.1 in
    rw (is, same) (λ unreadable. c.loop.invariant.steady (c.in_err-count.ensures.unreadable unreadable))

pub returns-then-count-eq0-clause-bytes : goal.returns-then-count-eq0-clause-bytes
returns-then-count-eq0-clause-bytes g c =
    read_whole _ _ _ _ c.loop.bytes.items c.in_ok-count.count c.loop.invariant.read c.in_ok-count.ensures.bytes
    (c.in_ok-count.ensures.end c.if-count-eq0.true (search rules)) c.if-count-eq0.true

pub loop-preserved : goal.loop-preserved
loop-preserved g c = record {
  read = subst (Consumes _ _) (sym (c.in_ok-extend_from_slice.ensures.items ∙ ap (λ l. c.loop.bytes.items
      ++ take c.in_ok-count.count l) (c.as_slice.ensures.value ∙ seam c.loop.room.len c.read.new.room _ (search rules))))
      (Consumes-trans _ _ _ c.loop.bytes.items _ c.loop.invariant.read c.in_ok-count.ensures.bytes);
  room = search rules;
  steady = λ may. c.loop.invariant.steady (c.read.ensures.steady may);
}

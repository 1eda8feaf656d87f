use Rattle.std.proofs.Common.{◌≡◌, ◌<◌, ◌+◌, ◌++◌, ◌∷◌, ℕ, List, IsTrue, length, get_or, drop, drop-cons, add-one, append-nil, string_bytes, sym, ap, ◌∙◌, arith}
use Rattle.std.specs.List.{list_all}
use Rattle.std.proofs.lemmas.Bool.{and_parts}
use Rattle.std.proofs.lemmas.Bool.Decides.{nat_tests}
use Rattle.std.proofs.lemmas.List.{drop_all}
use Rattle.chess_notation.specs.Operations.{is_printable}
use Rattle.chess_notation.specs.Quoting.{squeezed_from}
use Rattle.chess_notation.proofs.operations.operands_behind.Goals as goal

drop_next : (bytes : List ℕ) (i : ℕ) → i < length bytes → drop i bytes ≡ get_or bytes i 0 ∷ drop (i + 1) bytes
drop_next bytes i on = rw (add-one i) (drop-cons bytes i 0 on)

all_printable : (bytes : List ℕ) (i : ℕ) → i < length bytes → IsTrue (list_all is_printable (drop i bytes))
    → IsTrue (is_printable (get_or bytes i 0)) × IsTrue (list_all is_printable (drop (i + 1) bytes))
all_printable bytes i on all =
    and_parts (is_printable (get_or bytes i 0)) (list_all is_printable (drop (i + 1) bytes)) (rw (drop_next bytes i on) at all)

below_128 : (byte : ℕ) → IsTrue (is_printable byte) → byte < 128
below_128 byte h = grind (arith, nat_tests)

pub push_byte-requires : goal.push_byte-requires
push_byte-requires c = below_128 _ (all_printable c.args.text.now c.loop-byte.byte-index c.loop-byte-test.true c.loop-byte.invariant.printable).0

pub loop-byte-preserved : goal.loop-byte-preserved
loop-byte-preserved c = record {
  bytes = sym (c.in_ok-mode.ensures (drop (c.loop-byte.byte-index + 1) c.args.text.now))
      ∙ ap (λ rest. string_bytes c.loop-byte.operands ++ squeezed_from c.loop-byte.mode rest)
      (sym (drop_next c.args.text.now c.loop-byte.byte-index c.loop-byte-test.true)) ∙ c.loop-byte.invariant.bytes;
  printable = (all_printable c.args.text.now c.loop-byte.byte-index c.loop-byte-test.true c.loop-byte.invariant.printable).1;
}

pub returns : goal.returns
returns c = sym (append-nil (string_bytes c.loop-byte.operands))
    ∙ ap (λ rest. string_bytes c.loop-byte.operands ++ squeezed_from c.loop-byte.mode rest)
    (sym (drop_all c.loop-byte.byte-index c.args.text.now c.loop-byte-test.false)) ∙ c.loop-byte.invariant.bytes

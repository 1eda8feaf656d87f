-- How many entries pass a test.
use Rattle.std.proofs.Common.{◌≡◌, ℕ, zero, suc, ◌^◌, ◌<◌, ◌≤◌, ◌==◌, List, [], ◌∷◌, length, map, get_or}
use Rattle.std.proofs.Common.{Bool, true, false, cond, ap, refl, sym, ◌∙◌, arith, count_by}
use Rattle.std.specs.Int.{bit_at}
use Rattle.std.specs.Int.RustNames.{count_ones}
use Rattle.std.proofs.lemmas.Bool.Decides.{nat_tests}
use Rattle.std.proofs.lemmas.Nat.Bits.{same_from_bits_below, bit_at-lt}
use Rattle.std.proofs.lemmas.Simd.{bit_mask_l, ones-mask_l, mask_l-lt}
use Rattle.std.proofs.lemmas.List.{length-map}
use Rattle.std.proofs.Math.Nat.{pow-le-pow_right}
use lib.Lanes.{mask_l}
use Rattle.mate_desk.specs.Content.{EntryValue, waits}
use Rattle.mate_desk.specs.inside.Keeping.{waits_at, Marks}

waits_listed : (es : List EntryValue) (p : ℕ) → waits_at es p ≡ get_or (map waits es) p false
waits_listed [] zero = refl
waits_listed [] (suc p) = refl
waits_listed (e ∷ es) zero = refl
waits_listed (e ∷ es) (suc p) = waits_listed es p

bit_is : (b : Bool) (n : ℕ) → n < 2 → (n == 1) ≡ b → n ≡ cond b 1 0
bit_is true n h e = grind (arith, nat_tests, e)
bit_is false n h e = let other : (n == 1) ≡ false = e in grind (arith, nat_tests, h, other)

-- The word of the places that wait is the one in which each bit says whether its entry does.
word_is : (word : ℕ) (es : List EntryValue) → word < 2 ^ 64 → length es ≤ 64 → Marks word es → word ≡ mask_l (map waits es)
word_is word es fits few m =
    let short : length (map waits es) ≤ 64 = omega (arith, few, length-map es waits) in
    let high : 2 ^ length (map waits es) ≤ 2 ^ 64 = pow-le-pow_right {n = 2} (omega arith) {i = length (map waits es)} {j = 64} short in
    same_from_bits_below 64 word (mask_l (map waits es)) fits (omega (arith, mask_l-lt (map waits es), high))
    (λ i h. bit_is (get_or (map waits es) i false) (bit_at word i) (bit_at-lt word i) (m i h ∙ waits_listed es i) ∙ sym (bit_mask_l (map waits es) i))

-- So many bits are set as entries wait.
pub ones_waiting : (word : ℕ) (es : List EntryValue) → word < 2 ^ 64 → length es ≤ 64 → Marks word es → count_ones word ≡ count_by waits es
ones_waiting word es fits few m = ap count_ones (word_is word es fits few m) ∙ ones-mask_l waits es

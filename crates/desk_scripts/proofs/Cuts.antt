-- The first byte of a kind, and numbers of few digits.
use Rattle.std.proofs.Common.{◌≡◌, ℕ, ◌+◌, ◌<◌, ◌≤◌, ◌^◌, ◌==◌, ◌++◌, List, [], ◌∷◌, true, Option, Some}
use Rattle.std.proofs.Common.{cond, length, take, drop, get_or, sym, ap, ◌∙◌, option_map, arith}
use Rattle.std.proofs.Math.Nat.{pow-le-pow_right}
use Rattle.std.proofs.lemmas.List.{drop_more, append-nil}
use Rattle.desk_scripts.specs.inside.ScriptReading.{cut_at, with_byte}

-- what is cut off, with these bytes before it
abbrev pub behind_front : List ℕ → Option (List ℕ × List ℕ) → Option (List ℕ × List ℕ)
behind_front front cut = option_map (λ cut. (front ++ cut.0, cut.1)) cut

pub cut_here : (byte : ℕ) (text front back : List ℕ) (i d : ℕ) → i < length text → (get_or text i d == byte) ≡ true
    → behind_front (take i text) (cut_at byte (drop i text)) ≡ cut_at byte text → front ≡ take i text → back ≡ drop (i + 1) text
    → Some (front, back) ≡ cut_at byte text
cut_here byte text front back i d within is_byte so_far front_is back_is =
    let rest = drop (i + 1) text in
    let b = get_or text i d in
    let at : behind_front (take i text) (cut_at byte (b ∷ rest)) ≡ Some (take i text ++ [], rest) =
    ap (λ t. behind_front (take i text) (cond t (Some ([], rest)) (option_map (with_byte b) (cut_at byte rest)))) is_byte in
    rw (front_is, back_is) (ap (λ t. Some (t, rest)) (sym (append-nil (take i text))) ∙ sym at
    ∙ ap (λ t. behind_front (take i text) (cut_at byte t)) (sym (drop_more text i d within)) ∙ so_far)

-- so many digits spell a small number
pub below_nine : (value i count : ℕ) → value < 10 ^ i → i < count → count ≤ 9 → value < 100000000
below_nine value i count small within few =
    let most : 10 ^ i ≤ 10 ^ 8 = pow-le-pow_right {n = 10} (omega arith) {i = i} {j = 8} (omega arith) in
    omega (arith, most)

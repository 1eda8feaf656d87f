-- What is kept of a line tells what the line is answered.
use Rattle.std.proofs.Common.{◌≡◌, ◌++◌, ◌+◌, ◌-◌, ◌==◌, ◌&&◌, ◌||◌, ◌<◌, ◌≤◌, ℕ, zero, suc, Bool, true, false, List, [], ◌∷◌}
use Rattle.std.proofs.Common.{◌⊎◌, inl, inr, refl, sym, ap, ◌∙◌, subst, arith, length, take, get_or, cond, min, ne_eqb, ◌≢◌}
use Rattle.std.proofs.Math.Bool.{and-true, or_comm}
use Rattle.std.proofs.lemmas.Bool.{cases_lt}
use Rattle.std.proofs.lemmas.List.{length-take, take_all, take_min}
use Rattle.chess_notation.specs.Records.{max_line}
use Rattle.chess_notation.specs.Words.{after_spaces, is_blank, is_empty_text}
use Rattle.text_lines.specs.Lines.{without_cr}
use Rattle.text_lines.specs.inside.InputLines.{IsKept, last_or, spaces_before, most_kept}
use Rattle.text_lines.specs.declared.input_lines.Kept.{Kept}

and_assoc : (a b c : Bool) → (a && (b && c)) ≡ ((a && b) && c)
and_assoc true b c = refl
and_assoc false b c = refl

cond_ap : (b : Bool) (x : ℕ) (ys zs : List ℕ) → cond b (x ∷ ys) (x ∷ zs) ≡ x ∷ cond b ys zs
cond_ap true x ys zs = refl
cond_ap false x ys zs = refl

cr_last : (b c : ℕ) (cs : List ℕ) → without_cr (b ∷ c ∷ cs) ≡ b ∷ without_cr (c ∷ cs)
cr_last b c cs =
    let n = length cs in
    let more : suc (suc n) - 1 ≡ suc n = omega arith in
    let less : suc n - 1 ≡ n = omega arith in
    rw (more, less) (cond_ap (get_or (c ∷ cs) n 0 == 13) b (take n (c ∷ cs)) (c ∷ cs))

blank_by : (is : Bool) (b : ℕ) (bs : List ℕ) → is_empty_text (cond is (after_spaces bs) (b ∷ bs)) ≡ (is && is_blank bs)
blank_by true b bs = refl
blank_by false b bs = refl

blank_cons : (b : ℕ) (bs : List ℕ) → is_blank (b ∷ bs) ≡ ((b == 32) && is_blank bs)
blank_cons b bs = blank_by (b == 32) b bs

blank_one_by : (space cr : Bool) (b : ℕ) → is_blank (cond cr [] (b ∷ [])) ≡ (cr || (b == 32))
blank_one_by space true b = refl
blank_one_by space false b = blank_cons b [] ∙ and-true (b == 32)

blank_one : (b : ℕ) → is_blank (without_cr (b ∷ [])) ≡ ((b == 32) || (b == 13))
blank_one b = blank_one_by (b == 32) (b == 13) b ∙ or_comm (b == 13) (b == 32)

blank_more : (spaces : Bool) (b : ℕ) (line : List ℕ)
    → (spaces && is_blank (without_cr (b ∷ line))) ≡ (spaces_before spaces b line && ((last_or b line == 32) || (last_or b line == 13)))
blank_more spaces b [] = ap (λ t. spaces && t) (blank_one b)
blank_more spaces b (c ∷ cs) =
    ap (λ t. spaces && is_blank t) (cr_last b c cs) ∙ ap (λ t. spaces && t) (blank_cons b (without_cr (c ∷ cs)))
    ∙ and_assoc spaces (b == 32) (is_blank (without_cr (c ∷ cs))) ∙ blank_more (spaces && b == 32) c cs

space_first : (line : List ℕ) → is_blank (without_cr (32 ∷ line)) ≡ is_blank (without_cr line)
space_first [] = refl
space_first (c ∷ cs) = ap is_blank (cr_last 32 c cs) ∙ blank_cons 32 (without_cr (c ∷ cs))

pub kept_blank : (kept : Kept) (line : List ℕ) → IsKept kept line
    → (kept.spaces && ((kept.last == 32) || (kept.last == 13))) ≡ is_blank (without_cr line)
kept_blank kept line is = rw (is.spaces, is.last) (sym (blank_more true 32 line) ∙ space_first line)

-- the test in its three arms
pub blank_space : (kept : Kept) (line : List ℕ) → IsKept kept line → kept.spaces ≡ true → kept.last ≡ 32
    → (kept.last == 32) ≡ is_blank (without_cr line)
blank_space kept line is spaces last = rw (← kept_blank kept line is, spaces, last) refl

pub blank_cr : (kept : Kept) (line : List ℕ) → IsKept kept line → kept.spaces ≡ true → kept.last ≢ 32 → (kept.last == 13) ≡ is_blank (without_cr line)
blank_cr kept line is spaces other = rw (← kept_blank kept line is, spaces, ne_eqb kept.last 32 other) refl

pub blank_not : (kept : Kept) (line : List ℕ) → IsKept kept line → kept.spaces ≡ false → kept.spaces ≡ is_blank (without_cr line)
blank_not kept line is words = rw (← kept_blank kept line is, words) refl

-- ---- a piece more

spaces_append : (s : Bool) (b : ℕ) (xs ys : List ℕ) → spaces_before s b (xs ++ ys) ≡ spaces_before (spaces_before s b xs) (last_or b xs) ys
spaces_append s b [] ys = refl
spaces_append s b (x ∷ xs) ys = spaces_append (s && b == 32) x xs ys

last_append : (b : ℕ) (xs ys : List ℕ) → last_or b (xs ++ ys) ≡ last_or (last_or b xs) ys
last_append b [] ys = refl
last_append b (x ∷ xs) ys = last_append x xs ys

take_joined : (n : ℕ) (xs ys : List ℕ) → take n (xs ++ ys) ≡ take n xs ++ take (n - length (take n xs)) ys
take_joined zero xs ys = refl
take_joined (suc n) [] ys = let same : suc n ≡ suc n - 0 = omega arith in ap (λ m. take m ys) same
take_joined (suc n) (x ∷ xs) ys =
    let fewer : n - length (take n xs) ≡ suc n - suc (length (take n xs)) = omega arith in
    ap (λ l. x ∷ l) (take_joined n xs ys ∙ ap (λ m. take n xs ++ take m ys) fewer)

pub kept_more : (old new : Kept) (before piece first : List ℕ) (room : ℕ) → first ≡ take room piece
    → room ≡ min (most_kept - length old.bytes.items) (length piece)
    → new.bytes.items ≡ old.bytes.items ++ first → new.spaces ≡ spaces_before old.spaces old.last piece → new.last ≡ last_or old.last piece
    → IsKept old before → IsKept new (before ++ piece)
kept_more old new before piece first room is fits added spaces last kept = record {
  bytes = added ∙ rw (is, fits, kept.bytes) (ap (λ l. take most_kept before ++ l)
      (take_min (most_kept - length (take most_kept before)) piece) ∙ sym (take_joined most_kept before piece));
  spaces = spaces ∙ rw (kept.spaces, kept.last) (sym (spaces_append true 32 before piece));
  last = last ∙ rw (kept.last) (sym (last_append 32 before piece));
}

-- ---- what the line is answered

-- a line without its CR is at most one byte shorter
longer_by : (cr : Bool) (line : List ℕ) → length line ≤ length (cond cr (take (length line - 1) line) line) + 1
longer_by true line = omega (arith, length-take (length line - 1) line)
longer_by false line = omega arith

longer : (line : List ℕ) → length line ≤ length (without_cr line) + 1
longer line = longer_by (get_or line (length line - 1) 0 == 13) line

kept_whole : (kept : Kept) (line : List ℕ) → IsKept kept line → length line ≤ most_kept → kept.bytes.items ≡ line
kept_whole kept line is few = is.bytes ∙ take_all most_kept line few

-- What is kept of a line is all of it where it is short without its CR.
pub kept_short : (kept : Kept) (line : List ℕ) → IsKept kept line → length (without_cr kept.bytes.items) ≤ max_line → kept.bytes.items ≡ line
kept_short kept line is short =
    kept_whole kept line is (within (length line) (omega (arith, ap length is.bytes, length-take most_kept line, longer kept.bytes.items, short)))
  where
    within : (n : ℕ) → min most_kept n < most_kept → n ≤ most_kept
    within n less = omega (arith, less)

-- Where it isn't, the line is too long.
pub kept_long : (kept : Kept) (line : List ℕ) → IsKept kept line
    → max_line < length (without_cr kept.bytes.items) → max_line < length (without_cr line)
kept_long kept line is long = pick (cases_lt most_kept (length line))
  where
    pick : (most_kept < length line) ⊎ (length line ≤ most_kept) → max_line < length (without_cr line)
    pick (inl more) = omega (arith, longer line, more)
    pick (inr few) = subst (λ l. max_line < length (without_cr l)) (kept_whole kept line is few) long

pub kept_filled : (kept : Kept) (line : List ℕ) → IsKept kept line
    → length (without_cr kept.bytes.items) ≤ max_line → is_blank (without_cr line) ≡ false
    → is_blank (without_cr kept.bytes.items) ≡ false
kept_filled kept line is short filled = ap (λ l. is_blank (without_cr l)) (kept_short kept line is short) ∙ filled

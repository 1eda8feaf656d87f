use Rattle.std.proofs.Common.{◌≡◌, ◌∙◌, ◌++◌, ℕ, List, [], ◌∷◌, ap, refl, codes, append_assoc, decimal, string_bytes}
use Rattle.std.proofs.lemmas.Slice.{pushed}
use Rattle.chess_notation.proofs.answers.push_comment.Goals as goal

-- the number between what stands before and behind it
regrouped : (old opcode front number back : List ℕ)
    → ((((old ++ opcode) ++ front) ++ number) ++ back) ++ 34 ∷ 59 ∷ [] ≡ old
    ++ (opcode ++ (((front ++ (number ++ (back ++ 34 ∷ []))) ++ []) ++ 59 ∷ []))
regrouped old opcode front number back = simp append_assoc

pub returns : goal.returns
returns c =
    let opcode = codes " c0 \"" in
    let front = c.args.front.now in
    let back = c.args.back.now in
    let number : c.as_str.result.now ≡ decimal c.args.number = c.as_str.ensures.value ∙ c.in_ok-to_string.ensures.ok in
    let one = pushed opcode refl c.in_ok-push_str.was c.push_str.ensures.bytes in
    let two = pushed front one c.in_ok-push_str-2.was c.push_str-2.ensures.bytes in
    let three = pushed c.as_str.result.now two c.in_ok-push_str-3.was c.push_str-3.ensures.bytes in
    let four = pushed back three c.in_ok-push_str-4.was c.push_str-4.ensures.bytes in
    let five = pushed (codes "\";") four c.in_ok-push_str-5.was c.push_str-5.ensures.bytes in
    five ∙ regrouped (string_bytes c.args.text.now) opcode front c.as_str.result.now back
    ∙ ap (λ (n : List ℕ). string_bytes c.args.text.now ++ (opcode ++ (((front ++ (n ++ (back ++ 34 ∷ []))) ++ []) ++ 59 ∷ []))) number

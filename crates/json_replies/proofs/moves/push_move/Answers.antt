use Rattle.std.proofs.Common.{◌≡◌, ◌∙◌, ◌++◌, ℕ, List, append_assoc}
use Rattle.json_replies.specs.Strings.{string}
use Rattle.json_replies.proofs.moves.push_move.Goals as goal

five_parts : (t0 t1 t2 t3 t4 t5 a x x' b y y' e : List ℕ) → t1 ≡ t0 ++ a → t2 ≡ t1 ++ string x → t3 ≡ t2 ++ b → t4 ≡ t3 ++ string y
    → t5 ≡ t4 ++ e → x ≡ x' → y ≡ y' → t5 ≡ t0 ++ (a ++ (string x' ++ (b ++ (string y' ++ e))))
five_parts t0 t1 t2 t3 t4 t5 a x x' b y y' e one two three four five first second =
    rw (five, four, three, two, one, first, second) (simp append_assoc)

pub returns : goal.returns
returns c = five_parts _ _ _ _ _ _ _ _ _ _ _ _ _ c.in_ok-extend_from_slice.ensures.items c.in_ok-push_string.ensures
    c.in_ok-extend_from_slice-2.ensures.items c.in_ok-push_string-2.ensures c.in_ok-extend_from_slice-3.ensures.items
    (c.as_bytes.ensures.value ∙ c.as_str.ensures.value ∙ c.san.ensures)
    (c.as_bytes-2.ensures.value ∙ c.as_str-2.ensures.value ∙ c.text.ensures)

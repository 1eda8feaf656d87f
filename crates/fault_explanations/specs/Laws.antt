-- What a refusal is meant to say.
use Rattle.std.specs.Prelude.{◌≡◌, ◌∷◌, Bool, List, ℕ, false, true, flat_map}
use Rattle.std.specs.List.{list_any}
use Rattle.std.specs.Str.{str_eq_ignore_ascii_case}
use Rattle.fault_explanations.specs.Explained.{Explains, known_codes, words_of}

-- The word is one of the codes that there are, in any case.
abbrev pub is_code : List ℕ → Bool
is_code word = list_any (λ codes. list_any (λ code. str_eq_ignore_ascii_case code word) codes) known_codes

-- Where replies are refused, none of their words is a code.
abbrev pub NoCodeRefused : Type 0
NoCodeRefused = (reply : List ℕ) (replies : List (List ℕ)) (text : List ℕ) → Explains (reply ∷ replies) true text
    → list_any is_code (flat_map words_of (reply ∷ replies)) ≡ false

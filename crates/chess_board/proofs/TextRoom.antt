-- How long a text is after a byte more, and a field behind a space.
use Rattle.std.proofs.Common.{◌≡◌, ◌∙◌, ℕ, ◌+◌, ◌<◌, List, [], ◌∷◌, ◌++◌, length, ap, append_assoc}
use Rattle.std.proofs.lemmas.List.{length_push}
use Rattle.std.proofs.lemmas.Str.{encode_ascii}
use Rattle.std.proofs.Math.Utf8.{encode}
use Rattle.arrayvec.specs.ArrayString.{ArrayString, array_string_len}
use Rattle.chess_board.specs.Characters.{char}

pub length-encode_ascii : (c : ℕ) → c < 128 → length (encode c) ≡ 1
length-encode_ascii c ascii = ap length (encode_ascii c ascii)

pub len_none : (text : ArrayString) → text.bytes ≡ [] → array_string_len text ≡ 0
len_none text none = ap length none

pub len_more : (text more : ArrayString) (c : ℕ) → more.bytes ≡ text.bytes ++ c ∷ [] → array_string_len more ≡ array_string_len text + 1
len_more text more c pushed = ap length pushed ∙ length_push text.bytes c

pub field_more : (text text' spaced more field field' : List ℕ) → text ≡ text' → field ≡ field' → spaced ≡ text ++ char " " ∷ []
    → more ≡ spaced ++ field → more ≡ text' ++ char " " ∷ field'
field_more text text' spaced more field field' same same_field space written =
    written ∙ ap (λ t. t ++ field) (space ∙ ap (λ t. t ++ char " " ∷ []) same) ∙ append_assoc text' (char " " ∷ []) field
    ∙ ap (λ f. text' ++ char " " ∷ f) same_field

pub bytes_more : (text more most : List ℕ) (a b a' b' : ℕ) → a ≡ a' → b ≡ b' → more ≡ text ++ a ∷ []
    → most ≡ more ++ b ∷ [] → most ≡ text ++ a' ∷ b' ∷ []
bytes_more text more most a b a' b' first second one two =
    two ∙ ap (λ t. t ++ b ∷ []) one ∙ append_assoc text (a ∷ []) (b ∷ [])
    ∙ ap (λ x. text ++ x ∷ b ∷ []) first ∙ ap (λ x. text ++ a' ∷ x ∷ []) second

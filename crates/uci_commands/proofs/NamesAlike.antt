-- Two texts that are one in small letters.
use Rattle.std.proofs.Common.{◌≡◌, ◌↔◌, ℕ, Bool, List, IsTrue, rules}
use Rattle.std.specs.Str.{str_eq_ignore_ascii_case, str_to_ascii_lowercase}
use Rattle.std.proofs.lemmas.Slice.Eq.{bytes_eq-Decides}

pub named_alike : (a b : List ℕ) (r : Bool) → IsTrue r ↔ (str_to_ascii_lowercase a ≡ str_to_ascii_lowercase b) → r ≡ str_eq_ignore_ascii_case a b
named_alike a b r test = search (rules, bytes_eq-Decides)

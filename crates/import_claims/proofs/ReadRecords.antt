-- A record has a word, so it isn't blank.
use Rattle.std.proofs.Common.{◌≡◌, ◌≢◌, ℕ, zero, suc, ◌==◌, List, [], ◌∷◌, ◌++◌, false, refl, ap, ◌∙◌, replicate}
use Rattle.std.proofs.lemmas.Bool.Decides.{nat_tests}
use Rattle.std.proofs.Common.{arith}
use Rattle.chess_notation.specs.Records.{IsWord}
use Rattle.chess_notation.specs.Words.{is_blank}
use Rattle.problem_import.specs.Imports.{IsRecord}

solid_byte : (b : ℕ) (bs : List ℕ) → b ≢ 32 → is_blank (b ∷ bs) ≡ false
solid_byte b bs other = let no : (b == 32) ≡ false = grind (arith, nat_tests) in rw no refl

word_solid : (n : ℕ) (word rest : List ℕ) → IsWord word → is_blank (replicate n 32 ++ (word ++ rest)) ≡ false
word_solid zero [] rest is = absurd (is.0 refl)
word_solid zero (b ∷ bs) rest is = solid_byte b (bs ++ rest) is.1.0
word_solid (suc n) word rest is = word_solid n word rest is

pub record_filled : (line : List ℕ) → IsRecord line → is_blank line ≡ false
record_filled line (r, reads) =
    let (n, rest, is, word, apart, more) = reads.words in ap is_blank is ∙ word_solid n reads.fields.placement rest word

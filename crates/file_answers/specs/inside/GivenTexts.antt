-- Not for believing: what is left of a text that is given, or of a file. No contract of a public call rests on it.
use Rattle.std.specs.Prelude.{ℕ, List, Option, Some, drop}
use Rattle.file_answers.specs.declared.given_texts.Given.{Given}
use Rattle.file_answers.specs.declared.given_texts.Given.TheVariants.{Text, File}

abbrev pub left_in : {I : Type 0} → (I → Option (List ℕ)) → Given I → Option (List ℕ)
left_in left (Text text) = Some (drop text.at text.bytes.items)
left_in left (File file) = left file

abbrev pub breaks_in : {I : Type 0} → (I → Type 0) → Given I → Type 0
breaks_in breaks (Text text) = ⊥
breaks_in breaks (File file) = breaks file

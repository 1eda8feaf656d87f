-- Not for believing: what is left of a file, or of standard input, of which nothing is known. No contract of a public call rests on it.
use Rattle.std.specs.Prelude.{ℕ, List, Option, None}
use Rattle.file_answers.specs.declared.files.Stream.{Stream}
use Rattle.file_answers.specs.declared.files.Stream.TheVariants.{File, StandardInput}

abbrev pub left_of : {F : Type 0} → (F → Option (List ℕ)) → Stream F → Option (List ℕ)
left_of left (File file) = left file
left_of left (StandardInput stdin) = None

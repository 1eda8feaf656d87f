-- What `serve` shows.
use Rattle.std.specs.Prelude.{◌≡◌, ◌⊎◌, ◌<◌, ◌≤◌, ℕ, Bool, List, Option, length}
use Rattle.clap.specs.Words.{Text}
use Rattle.file_solving.specs.Solved.{Solves}

-- how many files may be open at once
abbrev pub max_files : ℕ
max_files = 16

-- So many files may be.
abbrev pub AreFewFiles : List Text → Type 0
AreFewFiles names = (1 ≤ length names) × (length names ≤ max_files)

abbrev pub AreTooManyFiles : List Text → Type 0
AreTooManyFiles names = (length names ≡ 0) ⊎ (max_files < length names)

-- What `solve` shows of the same files, where they may be open at once.
pub record Serves (holds : Text → Option (List ℕ)) (bound : ℕ) (names : List Text) (refused : Bool) (gained : List ℕ) : Type 0 where
  pub few : AreFewFiles names
  pub solves : Solves holds bound 1 names refused gained

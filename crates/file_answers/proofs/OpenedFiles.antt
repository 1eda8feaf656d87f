-- Files that were opened, one after the other.
use Rattle.std.proofs.Common.{◌≡◌, ◌+◌, ◌++◌, ◌<◌, Bor, ℕ, suc, List, [], ◌∷◌, Option, ap, refl, subst}
use Rattle.std.proofs.Common.{map, take, drop, length, slice_index_or}
use Rattle.file_answers.specs.OpenedFiles.{AreOpened}
use Rattle.file_answers.specs.Sources.{HasAll}
use Rattle.file_answers.proofs.HeldFiles.{names_left, names_next}

module _ {F : Type 0} (left : F → Option (List ℕ)) (breaks : F → Type 0) (holds : List ℕ → Option (List ℕ)) (refuses : List ℕ → Type 0) where
  opened_more : (names : List (List ℕ)) (files : List F) (name : List ℕ) (file : F) → AreOpened left breaks holds refuses names files
      → HasAll (holds name) (left file) → (breaks file → refuses name)
      → AreOpened left breaks holds refuses (names ++ name ∷ []) (files ++ file ∷ [])
  opened_more [] [] name file so_far has may = (has, may, tt)
  opened_more [] (x ∷ xs) name file so_far has may = absurd so_far
  opened_more (n ∷ ns) [] name file so_far has may = absurd so_far
  opened_more (n ∷ ns) (x ∷ xs) name file (first, breaks_off, rest) has may = (first, breaks_off, opened_more ns xs name file rest has may)

  -- There are as many files as names.
  pub opened_each : (names : List (List ℕ)) (files : List F) → AreOpened left breaks holds refuses names files → length files ≡ length names
  opened_each [] [] opened = refl
  opened_each [] (x ∷ xs) opened = absurd opened
  opened_each (n ∷ ns) [] opened = absurd opened
  opened_each (n ∷ ns) (x ∷ xs) (first, breaks_off, rest) = ap suc (opened_each ns xs rest)

  -- The file of one name more of those that are taken is opened.
  pub opened_next : (names : List (Bor (List ℕ))) (i : ℕ) (d : Bor (List ℕ)) (files : List F) (file : F) → i < length names
      → AreOpened left breaks holds refuses (map (λ s. s.now) (take i names)) files
      → HasAll (holds (slice_index_or names i d).now) (left file) → (breaks file → refuses (slice_index_or names i d).now)
      → AreOpened left breaks holds refuses (map (λ s. s.now) (take (i + 1) names)) (files ++ file ∷ [])
  opened_next names i d files file within so_far has may =
      rw (names_next names i d within)
      (opened_more (map (λ s. s.now) (take i names)) files (slice_index_or names i d).now file so_far has may)

  -- The first of the files that are left is that of this index.
  pub opened_there : (names : List (Bor (List ℕ))) (i : ℕ) (d : Bor (List ℕ)) (files : List F) (file : F) (rest : List F) → i < length names
      → AreOpened left breaks holds refuses (map (λ s. s.now) (drop i names)) files → files ≡ file ∷ rest
      → HasAll (holds (slice_index_or names i d).now) (left file) × (breaks file → refuses (slice_index_or names i d).now)
      × AreOpened left breaks holds refuses (map (λ s. s.now) (drop (i + 1) names)) rest
  opened_there names i d files file rest within opened is =
      subst (λ ns. AreOpened left breaks holds refuses ns (file ∷ rest)) (names_left names i d within)
      (subst (AreOpened left breaks holds refuses (map (λ s. s.now) (drop i names))) is opened)

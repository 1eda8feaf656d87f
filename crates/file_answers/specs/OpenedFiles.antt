-- What is known of files that were opened.
use Rattle.std.specs.Prelude.{ℕ, List, [], ◌∷◌, Option, ⊤}
use Rattle.file_answers.specs.Sources.{HasAll}

-- Each file is one that was opened by its name: all is left of it that the name holds, where that is known, and it may break off only where
-- the name may be refused.
abbrev pub AreOpened : {F : Type 0} → (F → Option (List ℕ)) → (F → Type 0) → (List ℕ → Option (List ℕ)) → (List ℕ → Type 0) → List (List ℕ)
    → List F → Type 0
AreOpened left breaks holds refuses [] [] = ⊤
AreOpened left breaks holds refuses (name ∷ names) (file ∷ files) =
    HasAll (holds name) (left file) × (breaks file → refuses name) × AreOpened left breaks holds refuses names files
AreOpened left breaks holds refuses _ _ = ⊥

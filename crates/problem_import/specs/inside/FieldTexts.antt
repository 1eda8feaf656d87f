-- Not for believing: texts that begin with four fields. No contract of a public call rests on it.
use Rattle.std.specs.Prelude.{◌≡◌, ℕ, List, ◌∷◌, ◌++◌}
use Rattle.chess_board.specs.Characters.{char}
use Rattle.chess_board.specs.Fens.{Fields}
use Rattle.chess_notation.specs.Records.{IsApart}

-- nothing, or what stands from a space on, behind a text
unfoldable pub GoesOn : (old new : List ℕ) → Type 0
GoesOn old new = (tail : List ℕ) × IsApart tail × (new ≡ old ++ tail)

-- four fields with one space between each two
abbrev pub four_text : Fields → List ℕ
four_text f = f.placement ++ char " " ∷ f.side ++ char " " ∷ f.castling ++ char " " ∷ f.target

abbrev pub IsBehindFields : Fields → List ℕ → Type 0
IsBehindFields f text = GoesOn (four_text f) text

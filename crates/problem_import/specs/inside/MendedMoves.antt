-- Not for believing: which move stands for a word that is mended. No contract of a public call rests on it.
use Rattle.std.specs.Prelude.{◌≡◌, ℕ, List}
use Rattle.chess_board.specs.Moves.{Move}
use Rattle.chess_board.specs.Positions.{Setup}
use Rattle.chess_notation.specs.SanText.{san_text}
use Rattle.move_words.specs.Naming.{named}
use Rattle.move_words.specs.declared.languages.Letters.{Letters}
use Rattle.move_words.specs.declared.naming.Named.TheVariants.{One}

-- The text is that of the one legal move that the word names under these letters.
abbrev pub IsMeant : Letters → Setup → List ℕ → List ℕ → Type 0
IsMeant l p word text = (m : Move) × (named l p word ≡ One m) × (text ≡ san_text p m)

-- Texts tell the legal moves of a position apart, and are short. So a word names one of them at most.
use Rattle.std.specs.Prelude.{◌≡◌, ◌↔◌, ◌≤◌, ℕ, List, length, true, Some, Contains}
use Rattle.chess_board.specs.Positions.{Setup}
use Rattle.chess_board.specs.Moves.{Move, move_text}
use Rattle.chess_moves.specs.inside.Listing.{legal_moves}
use Rattle.chess_moves.specs.Laws.{IsRising}
use Rattle.chess_notation.specs.SanText.{bare_text, san_text}
use Rattle.chess_notation.specs.AvoidMoves.{names, named}
use Rattle.chess_notation.specs.MoveReading.{tells, move_named}

-- Two legal moves of one position that have one text are one move.
abbrev pub TextsApart : Type 0
TextsApart = (p : Setup) (m n : Move) → Contains (legal_moves p) m → Contains (legal_moves p) n → san_text p m ≡ san_text p n → m ≡ n

-- So they are where their texts are the same without the suffix.
abbrev pub BareTextsApart : Type 0
BareTextsApart = (p : Setup) (m n : Move) → Contains (legal_moves p) m → Contains (legal_moves p) n → bare_text p m ≡ bare_text p n → m ≡ n

-- A text has at most seven bytes, as Qh4xe1# has.
abbrev pub TextsShort : Type 0
TextsShort = (p : Setup) (m : Move) → length (san_text p m) ≤ 7

-- A word names one legal move at most.
abbrev pub NamesOne : Type 0
NamesOne = (p : Setup) (word : List ℕ) (m n : Move) → Contains (legal_moves p) m → Contains (legal_moves p) n
    → names p word m ≡ true → names p word n ≡ true → m ≡ n

-- What words name are exactly the legal moves that some word names, in the order of moves, each once.
abbrev pub NamedRead : Type 0
NamedRead = (p : Setup) (words : List (List ℕ)) → ((m : Move) → Contains (named p words) m
    ↔ (Contains (legal_moves p) m × ((word : List ℕ) × Contains words word × (names p word m ≡ true)))) × IsRising (named p words)

-- A word tells one legal move at most, be it by SAN or by coordinates.
abbrev pub TellsOne : Type 0
TellsOne = (p : Setup) (word : List ℕ) (m n : Move) → Contains (legal_moves p) m → Contains (legal_moves p) n
    → tells p word m ≡ true → tells p word n ≡ true → m ≡ n

-- A legal move is named by its text, with its suffix or without it, and by its coordinates.
abbrev pub TextsRead : Type 0
TextsRead = (p : Setup) (m : Move) → Contains (legal_moves p) m
    → (move_named p (san_text p m) ≡ Some m) × (move_named p (bare_text p m) ≡ Some m) × (move_named p (move_text m) ≡ Some m)

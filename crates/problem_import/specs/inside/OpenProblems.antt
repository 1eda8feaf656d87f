-- Not for believing: what is to be found of what is open. No contract of a public call rests on it.
use Rattle.std.specs.Prelude.{ℕ, ◌+◌, nat_le, Bool, true, false, not, ◌&&◌}
use Rattle.problem_import.specs.declared.reading.Open.{Open}
use Rattle.problem_import.specs.declared.reading.Open.TheVariants.{Nothing, Game, Movetext, Popeye, Olive}

-- how much is to be found of it: of movetext nothing, since its game was found where its first move was
abbrev pub due : Open → ℕ
due Nothing = 0
due (Game game) = 1
due (Movetext movetext) = 0
due (Popeye problem) = 1
due (Olive problem) = 1

-- it is the tag pairs of a game, whose movetext hasn't begun
abbrev pub has_tags : Open → Bool
has_tags Nothing = false
has_tags (Game game) = not game.is_begun
has_tags (Movetext movetext) = false
has_tags (Popeye problem) = false
has_tags (Olive problem) = false

-- it is a game, or the movetext of one
abbrev pub is_game : Open → Bool
is_game Nothing = false
is_game (Game game) = true
is_game (Movetext movetext) = true
is_game (Popeye problem) = false
is_game (Olive problem) = false

-- it is a game of which the record is still to be made
abbrev pub has_game : Open → Bool
has_game Nothing = false
has_game (Game game) = true
has_game (Movetext movetext) = false
has_game (Popeye problem) = false
has_game (Olive problem) = false

-- the movetext of a game has begun
abbrev pub has_begun : Open → Bool
has_begun Nothing = false
has_begun (Game game) = game.is_begun
has_begun (Movetext movetext) = true
has_begun (Popeye problem) = false
has_begun (Olive problem) = false

-- a comment is open in it
abbrev pub in_comment : Open → Bool
in_comment Nothing = false
in_comment (Game game) = game.in_comment
in_comment (Movetext movetext) = movetext.in_comment
in_comment (Popeye problem) = false
in_comment (Olive problem) = false

abbrev pub is_popeye : Open → Bool
is_popeye Nothing = false
is_popeye (Game game) = false
is_popeye (Movetext movetext) = false
is_popeye (Popeye problem) = true
is_popeye (Olive problem) = false

abbrev pub is_olive : Open → Bool
is_olive Nothing = false
is_olive (Game game) = false
is_olive (Movetext movetext) = false
is_olive (Popeye problem) = false
is_olive (Olive problem) = true

-- A tag pair at the line of such a number belongs to them: no empty line stands between it and the last that had something.
abbrev pub goes_on : Open → ℕ → ℕ → Bool
goes_on problem last number = has_tags problem && nat_le number (last + 1)

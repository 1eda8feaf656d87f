-- Not for believing: what hashes feed, a few words. That two positions which differ feed different words is meant and not
-- proved; no contract rests on it.
use Rattle.std.specs.Prelude.{ℕ, ◌+◌, ◌*◌, List, ◌++◌, Option, Some, None, Bool, if◌then◌else◌, bit_or}
use Rattle.std.specs.Hash.{HashWrites}
use Rattle.std.specs.Hash as fed
use Rattle.chess_board.specs.declared.men.Colour.{Colour}
use Rattle.chess_board.specs.declared.men.Colour.TheVariants.{White, Black}
use Rattle.chess_board.specs.declared.men.Kind.{Kind}
use Rattle.chess_board.specs.declared.men.Kind.TheVariants.{Pawn, Knight, Bishop, Rook, Queen, King}
use Rattle.chess_board.specs.declared.men.Man.{Man}
use Rattle.chess_board.specs.declared.men.Rights.{Rights}
use Rattle.chess_board.specs.Men.{is_of}
use Rattle.chess_board.specs.Positions.{Setup}
use Rattle.chess_board.specs.inside.Boards.{is_of_kind, word_of}

-- What a hash of the board feeds: White's squares, and the three binary digits of each man's kind, numbered from 1 for a
-- pawn to 6 for a king.
abbrev pub board_words : List (Option Man) → HashWrites
board_words men =
    let kinds = λ (asked : Kind). word_of (is_of_kind asked) men in
    fed.u64 (word_of (is_of White) men)
    ++ fed.u64 (bit_or (bit_or (kinds Pawn) (kinds Bishop)) (kinds Queen))
    ++ fed.u64 (bit_or (bit_or (kinds Knight) (kinds Bishop)) (kinds King))
    ++ fed.u64 (bit_or (bit_or (kinds Rook) (kinds Queen)) (kinds King))

abbrev pub digit : Bool → ℕ
digit holds = if holds then 1 else 0

abbrev pub side_digit : Colour → ℕ
side_digit White = 0
side_digit Black = 1

-- one more than the target's number, or 0
abbrev pub target_number : Option ℕ → ℕ
target_number None = 0
target_number (Some target) = 1 + target

-- the side to move, the rights and the target in one word
abbrev pub state_word : Colour → Rights → Option ℕ → ℕ
state_word side rights target =
    side_digit side + 2 * digit rights.white_king_side + 4 * digit rights.white_queen_side
    + 8 * digit rights.black_king_side + 16 * digit rights.black_queen_side + 32 * target_number target

-- What a hash of a position feeds: the words of its board and that of the rest.
abbrev pub position_words : Setup → HashWrites
position_words p = board_words p.men ++ fed.u64 (state_word p.side p.rights p.target)

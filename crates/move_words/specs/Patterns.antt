-- What a word says of a move, and which moves fit it: those of which all that it says is true (own to this project).
use Rattle.std.specs.Prelude.{ℕ, nat_lt, List, Option, Some, None, is_some, Bool, true, false, not, ◌&&◌, ◌||◌, if◌then◌else◌}
use Rattle.std.specs.Option.{option_map_or}
use Rattle.chess_board.specs.declared.men.Kind.{Kind}
use Rattle.chess_board.specs.declared.men.Kind.TheVariants.{Pawn}
use Rattle.chess_board.specs.declared.men.Man.{Man}
use Rattle.chess_board.specs.declared.men.Wing.{Wing}
use Rattle.chess_board.specs.declared.men.Wing.TheVariants.{KingSide, QueenSide}
use Rattle.chess_board.specs.Castling.{is_castling}
use Rattle.chess_board.specs.EnPassant.{is_en_passant}
use Rattle.chess_board.specs.Men.{is_kind}
use Rattle.chess_board.specs.Moves.{Move}
use Rattle.chess_board.specs.Positions.{Setup, is_empty, man_at}
use Rattle.move_words.specs.declared.languages.Letters.{Letters}
use Rattle.move_words.specs.declared.letters.Sign.{Sign}
use Rattle.move_words.specs.declared.letters.Sign.TheVariants.{Goes, Captures}
use Rattle.move_words.specs.declared.places.Place.{Place}
use Rattle.move_words.specs.declared.parts.Parts.{Parts}
use Rattle.move_words.specs.declared.patterns.Going.{Going}
use Rattle.move_words.specs.declared.patterns.Pattern.{Pattern}
use Rattle.move_words.specs.declared.patterns.Pattern.TheVariants as patterns
use Rattle.move_words.specs.Places.{is_at, is_nowhere, is_square}
use Rattle.move_words.specs.Parts.{castling_wing, parts_of}

-- the man whose letter is there; without one a pawn, unless both squares are said
abbrev pub man_said : Option Kind → Place → Option Kind
man_said (Some kind) from = Some kind
man_said None from = if is_square from then None else Some Pawn

abbrev pub is_capture_sign : Option Sign → Bool
is_capture_sign None = false
is_capture_sign (Some Goes) = false
is_capture_sign (Some Captures) = true

abbrev pub nowhere : Place
nowhere = record { file = None; rank = None }

-- There is no man's letter, and of the square that the man comes from the rank alone. No pawn is told so.
abbrev pub is_told_by_rank : Option Kind → Place → Bool
is_told_by_rank man from = not (is_some man) && is_some from.rank && not (is_some from.file)

-- The second place is the target, and the first says where the man comes from; or the first is the target, and there is no second.
abbrev pub going_of : Parts → Option Going
going_of parts =
    if not parts.is_ended || is_told_by_rank parts.man parts.first then None
    else (if is_square parts.second then Some (record {
      man = man_said parts.man parts.first;
      from = parts.first;
      captures = is_capture_sign parts.sign;
      to = parts.second;
      promotion = parts.promotion;
    })
    else (if is_nowhere parts.second && not (is_some parts.sign) && is_square parts.first then Some (record {
      man = man_said parts.man nowhere;
      from = nowhere;
      captures = false;
      to = parts.first;
      promotion = parts.promotion;
    })
    else None))

abbrev pub going_pattern : Option Going → Option Pattern
going_pattern None = None
going_pattern (Some going) = Some (patterns.Going going)

abbrev pub pattern_or : Option Wing → Option Going → Option Pattern
pattern_or (Some wing) going = Some (patterns.Castling wing)
pattern_or None going = going_pattern going

-- What a word says: castling, or which man goes from where to where, and what it becomes.
unfoldable pub pattern_of : Letters → List ℕ → Option Pattern
pattern_of l word = pattern_or (castling_wing word) (going_of (parts_of l word))

-- The kind is what is said, if something is.
abbrev pub is_kind_said : Option Kind → Kind → Bool
is_kind_said None k = true
is_kind_said (Some said) k = is_kind said k

abbrev pub is_promotion_said : Option Kind → Option Kind → Bool
is_promotion_said None promotion = true
is_promotion_said (Some said) promotion = option_map_or (is_kind said) promotion false

-- A man stands on the target, or a pawn captures en passant.
abbrev pub captures : Setup → Man → Move → Bool
captures p man m = not (is_empty p.men m.target) || is_en_passant p man m

-- A pawn's capture is said, by its sign or by the file that the pawn comes from (FIDE Laws of Chess, appendix C); a piece's need not be.
abbrev pub may_capture : Going → Kind → Bool
may_capture going k = going.captures || is_some going.from.file || not (is_kind Pawn k)

-- A move that captures is one that may, and of a move that does not no capture is said.
abbrev pub fits_capture : Going → Kind → Bool → Bool
fits_capture going k is_capture = if is_capture then may_capture going k else not going.captures

abbrev pub fits_going : Setup → Going → Man → Move → Bool
fits_going p going man m =
    is_kind_said going.man man.kind && is_at going.from m.origin && is_at going.to m.target
    && fits_capture going man.kind (captures p man m) && is_promotion_said going.promotion m.promotion

abbrev pub is_towards : Wing → Move → Bool
is_towards KingSide m = nat_lt m.origin m.target
is_towards QueenSide m = nat_lt m.target m.origin

abbrev pub fits_man : Setup → Pattern → Man → Move → Bool
fits_man p (patterns.Castling wing) man m = is_castling man m && is_towards wing m
fits_man p (patterns.Going going) man m = fits_going p going man m

-- All that a word says is true of the move.
unfoldable pub fits : Setup → Pattern → Move → Bool
fits p pattern m = option_map_or (λ man. fits_man p pattern man m) (man_at p.men m.origin) false

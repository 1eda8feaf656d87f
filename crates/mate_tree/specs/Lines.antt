-- The lines of a tree (own to this project). The attacker's moves are numbered `1.`, `2.` .., and the defender's `1...`, whichever colour
-- attacks.
use Rattle.std.specs.Prelude.{ℕ, ◌-◌, ◌*◌, ◌==◌, ◌&&◌, List, [], ◌++◌, replicate, codes, decimal, Bool, nat_lt, if◌then◌else◌}
use Rattle.std.specs.List.{flat_map}
use Rattle.chess_board.specs.Characters.{char}
use Rattle.chess_board.specs.Positions.{Setup}
use Rattle.chess_board.specs.Moves.{Move}
use Rattle.chess_notation.specs.SanText.{san_text}

abbrev pub line : List ℕ → List ℕ
line text = text ++ codes "\n"

abbrev pub spaces : ℕ → List ℕ
spaces n = replicate n (char " ")

-- an attacker's move and its number: `2.Qxf3#`
abbrev pub attack_text : ℕ → Setup → Move → List ℕ
attack_text i p m = decimal i ++ codes "." ++ san_text p m

-- a defender's: `1...Ke3`
abbrev pub defence_text : ℕ → Setup → Move → List ℕ
defence_text i q r = decimal i ++ codes "..." ++ san_text q r

-- an attacker's moves of one number, each behind a space
abbrev pub attack_words : ℕ → Setup → List Move → List ℕ
attack_words i p ms = flat_map (λ m. codes " " ++ attack_text i p m) ms

-- Where no move below it is shown, a move that doesn't mate says within how many moves, itself counted, it does: ` #4`.
abbrev pub length_text : ℕ → ℕ → List ℕ
length_text d n = if (d == 0) && nat_lt 1 n then codes " #" ++ decimal n else []

-- the line of an attacker's move, the i-th, with which it mates in n moves; of its next moves d are shown
abbrev pub attack_line : ℕ → ℕ → ℕ → Setup → Move → List ℕ
attack_line d i n p m = spaces (4 * i - 4) ++ attack_text i p m ++ length_text d n

-- ` dual`, where the attacker has more than one move to go on
abbrev pub dual_text : Bool → List ℕ
dual_text dual = if dual then codes " dual" else []

-- the line of a defender's move, the i-th
abbrev pub defence_line : ℕ → Setup → Move → Bool → List ℕ
defence_line i q r dual = spaces (4 * i - 2) ++ defence_text i q r ++ dual_text dual

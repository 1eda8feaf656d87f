-- The solution as chess magazines print it: below a move of the attacker's the replies that parry, those together that the same mates answer.
use Rattle.std.specs.Prelude.{◌≡◌, ◌⊎◌, ℕ, zero, suc, ◌+◌, ◌-◌, ◌*◌, List, [], ◌∷◌, ◌++◌, codes, length, map, nat_lt, Bool, true, false, ◌&&◌}
use Rattle.std.specs.Prelude.{if◌then◌else◌, Contains}
use Rattle.std.specs.List.{flat_map, list_any}
use Rattle.std.specs.Str.{bytes_eq}
use Rattle.chess_board.specs.Positions.{Setup}
use Rattle.chess_board.specs.Moves.{Move, move_place}
use Rattle.chess_board.specs.MakeMove.{after_setup}
use Rattle.chess_moves.specs.Verdicts.{mating_moves}
use Rattle.chess_problems.specs.declared.outcomes.Outcome.{Outcome}
use Rattle.chess_problems.specs.declared.outcomes.Outcome.TheVariants.{Mate, NoMate}
use Rattle.chess_notation.specs.SanText.{san_text}
use Rattle.mate_tree.specs.Lines.{attack_text, attack_words, defence_line, defence_text, dual_text, length_text, spaces}
use Rattle.mate_tree.specs.Continuations.{has_dual, soonest}
use Rattle.mate_tree.specs.Threats.{idea_text}
use Rattle.mate_tree.specs.Parries.{parrying}

-- ---- replies that the same mates answer

-- the moves that mate at once after a reply, as they are written
abbrev pub mates_told : Setup → Move → List (List ℕ)
mates_told q r = map (san_text (after_setup q r)) (mating_moves (after_setup q r))

abbrev pub same_texts : List (List ℕ) → List (List ℕ) → Bool
same_texts [] [] = true
same_texts (x ∷ xs) (y ∷ ys) = bytes_eq x y && same_texts xs ys
same_texts _ _ = false

-- After each of two replies a move mates at once, and all that do are written alike.
abbrev pub are_alike : Setup → Move → Move → Bool
are_alike q r s = nat_lt 0 (length (mating_moves (after_setup q r))) && same_texts (mates_told q r) (mates_told q s)

-- Reply s is answered like r, which comes first in move order.
abbrev pub follows : Setup → Move → Move → Bool
follows q r s = nat_lt (move_place r) (move_place s) && are_alike q r s

-- A reply stands on the line of an earlier one.
abbrev pub is_told : Setup → List Move → Move → Bool
is_told q rs s = list_any (λ r. follows q r s) rs

-- ---- their lines

-- what follows a reply on its line: `, d6`
abbrev pub reply_word : Setup → Move → Move → List ℕ
reply_word q r s = if follows q r s then codes ", " ++ san_text q s else []

-- a reply and those that are answered like it: `1...d5, d6`
abbrev pub replies_text : ℕ → Setup → List Move → Move → List ℕ
replies_text i q rs r = defence_text i q r ++ flat_map (reply_word q r) rs

-- the line of replies with all that mate at once behind them: `  1...e5 2.Qa1# 2.Qb2# dual`
abbrev pub mates_line : ℕ → Setup → List Move → Move → List Move → List ℕ
mates_line i q rs r ms =
    spaces (4 * i - 2) ++ replies_text i q rs r ++ attack_words (i + 1) (after_setup q r) ms ++ dual_text (nat_lt 1 (length ms))

-- the line of an attacker's move, the i-th, with which it mates in n moves: what it threatens stands behind it
abbrev pub move_line : ℕ → ℕ → ℕ → Setup → Move → List ℕ
move_line d i n p m = spaces (4 * i - 4) ++ attack_text i p m ++ idea_text (i + 1) (n - 1) (after_setup p m) ++ length_text d n

-- ---- the variations

-- a move of the attacker's, and what stands below it
abbrev pub next_move : (ℕ → Setup → List (List ℕ)) → ℕ → ℕ → ℕ → Setup → Move → List (List ℕ)
next_move below d i n p m = move_line d i n p m ∷ below (n - 1) (after_setup p m)

abbrev pub next_moves : (ℕ → Setup → List (List ℕ)) → ℕ → ℕ → ℕ → Setup → List Move → List (List ℕ)
next_moves below d i n p ms = flat_map (next_move below d i n p) ms

-- all that mate soonest
abbrev pub sequels : (ℕ → Setup → List (List ℕ)) → ℕ → ℕ → Setup → Outcome → List (List ℕ)
sequels below d i p (Mate n keys pv) = next_moves below d i n p keys.items
sequels below d i p NoMate = []

-- a reply by the moves that mate at once after it: those answered alike on its line, or else its own and below it the attacker's moves
abbrev pub answered : (ℕ → Setup → List (List ℕ)) → ℕ → ℕ → ℕ → Setup → List Move → Move → List Move → List (List ℕ)
answered below d i k q rs r [] =
    defence_line i q r (has_dual (soonest k (after_setup q r))) ∷ sequels below d (i + 1) (after_setup q r) (soonest k (after_setup q r))
answered below d i k q rs r (m ∷ ms) = mates_line i q rs r (m ∷ ms) ∷ []

-- one reply of those that parry, unless it stands on an earlier one's line
abbrev pub variation : (ℕ → Setup → List (List ℕ)) → ℕ → ℕ → ℕ → Setup → List Move → Move → List (List ℕ)
variation below d i k q rs r = if is_told q rs r then [] else answered below d i k q rs r (mating_moves (after_setup q r))

-- all that parry, where d of the attacker's next moves are shown: none where no move is
unfoldable pub variations : ℕ → ℕ → ℕ → Setup → List (List ℕ)
variations zero i k q = []
variations (suc d) i k q = flat_map (variation (variations d (i + 1)) d i k q (parrying k q)) (parrying k q)

-- Each reply of a list has a line: its own, or that of an earlier one which is answered alike.
abbrev pub EachHasLine : Type 0
EachHasLine = (q : Setup) (rs : List Move) (r : Move) → Contains rs r →
    (is_told q rs r ≡ false) ⊎ ((s : Move) × Contains rs s × (is_told q rs s ≡ false) × (follows q s r ≡ true))

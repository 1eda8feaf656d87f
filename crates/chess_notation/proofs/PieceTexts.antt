-- What a piece's text says after its letter: what tells it from its rivals, whether it captures, and its target.
use Rattle.std.proofs.Common.{◌≡◌, ℕ, ◌+◌, ◌<◌, ◌≤◌, Bool, true, false, cond, eqb, ltb, List, [], ◌∷◌}
use Rattle.std.proofs.Common.{◌++◌, length, Option, Some, None, codes, if◌then◌else◌, refl, arith}
use Rattle.chess_board.specs.Squares.{file_of, rank_of}
use Rattle.chess_board.specs.Fields.{square_text}
use Rattle.chess_board.specs.declared.men.Man.{Man}
use Rattle.chess_board.specs.Positions.{Setup}
use Rattle.chess_board.specs.Moves.{Move}
use Rattle.chess_notation.specs.SanText.{is_capture}
use Rattle.chess_notation.specs.Disambiguation.{origin_text, some_rival}
use Rattle.chess_notation.proofs.TextBytes.{unmarked, file_unmarked, rank_unmarked, file_no_capture, rank_no_capture, file_high, rank_low}

abbrev tail_form : Bool → Bool → Bool → Bool → ℕ → ℕ → List ℕ
tail_form some on_file on_rank captures o t =
    (if some then origin_text on_file on_rank o else []) ++ (if captures then codes "x" else []) ++ square_text t

abbrev pub has_rival : Setup → Man → Move → Bool
has_rival p man m = some_rival p man m (λ n. true)

abbrev pub has_on_file : Setup → Man → Move → Bool
has_on_file p man m = some_rival p man m (λ n. eqb (file_of n.origin) (file_of m.origin))

abbrev pub has_on_rank : Setup → Man → Move → Bool
has_on_rank p man m = some_rival p man m (λ n. eqb (rank_of n.origin) (rank_of m.origin))

-- what follows the letter in a piece's text
abbrev pub tail_text : Setup → Man → Move → List ℕ
tail_text p man m = tail_form (has_rival p man m) (has_on_file p man m) (has_on_rank p man m) (is_capture p man m) m.origin m.target

-- the parts of the text, files and ranks by their bytes
pub record TailSaid : Type 0 where
  pub from_file : Option ℕ
  pub from_rank : Option ℕ
  pub to_file : ℕ
  pub to_rank : ℕ

abbrev pub said : Option ℕ → Option ℕ → ℕ → ℕ → TailSaid
said a b f r = record { from_file = a; from_rank = b; to_file = f; to_rank = r }

-- one byte before the target is the mark of a capture, a file or a rank
abbrev pub read_tail : List ℕ → TailSaid
read_tail [] = said None None 0 0
read_tail (a ∷ []) = said None None 0 0
read_tail (a ∷ b ∷ []) = said None None a b
read_tail (a ∷ b ∷ c ∷ []) = cond (eqb a 120) (said None None b c) (cond (ltb 96 a) (said (Some a) None b c) (said None (Some a) b c))
read_tail (a ∷ b ∷ c ∷ d ∷ []) = cond (eqb b 120) (cond (ltb 96 a) (said (Some a) None c d) (said None (Some a) c d)) (said (Some a) (Some b) c d)
read_tail (a ∷ b ∷ c ∷ d ∷ e ∷ rest) = said (Some a) (Some b) d e

-- the file, and the rank, that stand in what tells a man from its rivals
abbrev pub file_told : Bool → Bool → Bool → ℕ → Option ℕ
file_told some on_file on_rank f = cond some (cond on_file (cond on_rank (Some f) None) (Some f)) None

abbrev pub rank_told : Bool → Bool → ℕ → Option ℕ
rank_told some on_file r = cond some (cond on_file (Some r) None) None

abbrev tail_wrote : Bool → Bool → Bool → ℕ → ℕ → TailSaid
tail_wrote some on_file on_rank o t = said (file_told some on_file on_rank (97 + file_of o))
    (rank_told some on_file (49 + rank_of o)) (97 + file_of t) (49 + rank_of t)

read_tail-form : (some on_file on_rank captures : Bool) (o t : ℕ) → o < 64
    → read_tail (tail_form some on_file on_rank captures o t) ≡ tail_wrote some on_file on_rank o t
read_tail-form false on_file on_rank true o t on = refl
read_tail-form false on_file on_rank false o t on = refl
read_tail-form true false on_rank true o t on = simp (file_high)
read_tail-form true false on_rank false o t on = simp (file_no_capture, file_high)
read_tail-form true true false true o t on = let y = rank_low o on in simp (y)
read_tail-form true true false false o t on = let x = rank_no_capture o on in let y = rank_low o on in simp (x, y)
read_tail-form true true true true o t on = refl
read_tail-form true true true false o t on = let x = rank_no_capture o on in simp (x)

unmarked-tail_form : (some on_file on_rank captures : Bool) (o t : ℕ)
    → unmarked (tail_form some on_file on_rank captures o t) ≡ tail_form some on_file on_rank captures o t
unmarked-tail_form false on_file on_rank true o t = simp (file_unmarked, rank_unmarked)
unmarked-tail_form false on_file on_rank false o t = simp (file_unmarked, rank_unmarked)
unmarked-tail_form true false on_rank true o t = simp (file_unmarked, rank_unmarked)
unmarked-tail_form true false on_rank false o t = simp (file_unmarked, rank_unmarked)
unmarked-tail_form true true false true o t = simp (file_unmarked, rank_unmarked)
unmarked-tail_form true true false false o t = simp (file_unmarked, rank_unmarked)
unmarked-tail_form true true true true o t = simp (file_unmarked, rank_unmarked)
unmarked-tail_form true true true false o t = simp (file_unmarked, rank_unmarked)

length-tail_form : (some on_file on_rank captures : Bool) (o t : ℕ) → length (tail_form some on_file on_rank captures o t) ≤ 5
length-tail_form false on_file on_rank true o t = omega arith
length-tail_form false on_file on_rank false o t = omega arith
length-tail_form true false on_rank true o t = omega arith
length-tail_form true false on_rank false o t = omega arith
length-tail_form true true false true o t = omega arith
length-tail_form true true false false o t = omega arith
length-tail_form true true true true o t = omega arith
length-tail_form true true true false o t = omega arith

pub unmarked-tail_text : (p : Setup) (man : Man) (m : Move) → unmarked (tail_text p man m) ≡ tail_text p man m
unmarked-tail_text p man m = unmarked-tail_form (has_rival p man m) (has_on_file p man m) (has_on_rank p man m) (is_capture p man m) m.origin m.target

pub length-tail_text : (p : Setup) (man : Man) (m : Move) → length (tail_text p man m) ≤ 5
length-tail_text p man m = length-tail_form (has_rival p man m) (has_on_file p man m) (has_on_rank p man m) (is_capture p man m) m.origin m.target

-- what a tail says of the origin
abbrev pub told_file : Setup → Man → Move → Option ℕ
told_file p man m = file_told (has_rival p man m) (has_on_file p man m) (has_on_rank p man m) (97 + file_of m.origin)

abbrev pub told_rank : Setup → Man → Move → Option ℕ
told_rank p man m = rank_told (has_rival p man m) (has_on_file p man m) (49 + rank_of m.origin)

pub read_tail-text : (p : Setup) (man : Man) (m : Move) → m.origin < 64 → read_tail (tail_text p man m)
    ≡ said (told_file p man m) (told_rank p man m) (97 + file_of m.target) (49 + rank_of m.target)
read_tail-text p man m on = read_tail-form (has_rival p man m) (has_on_file p man m) (has_on_rank p man m) (is_capture p man m) m.origin m.target on

-- Where both have rivals, and one on the file wherever the files are the same, one on the rank wherever the ranks are, they are
-- told by the same only from one square.
pub told_same : (a b a' b' : Bool) (f r f' r' : ℕ) → file_told true a b f ≡ file_told true a' b' f' → rank_told true a r ≡ rank_told true a' r' →
    (f ≡ f' → a ≡ true) → (r ≡ r' → b ≡ true) → (f ≡ f') × (r ≡ r')
told_same false b false b' f r f' r' e g on_f on_r = let i : f ≡ f' = cc in let c = on_f i in cc
told_same false b true true f r f' r' e g on_f on_r = cc
told_same false b true false f r f' r' e g on_f on_r = cc
told_same true true false b' f r f' r' e g on_f on_r = cc
told_same true true true true f r f' r' e g on_f on_r = (cc, cc)
told_same true true true false f r f' r' e g on_f on_r = cc
told_same true false false b' f r f' r' e g on_f on_r = cc
told_same true false true true f r f' r' e g on_f on_r = cc
told_same true false true false f r f' r' e g on_f on_r = let i : r ≡ r' = cc in let c = on_r i in cc

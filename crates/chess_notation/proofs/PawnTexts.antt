-- What a pawn's text says: the file that it leaves, where it captures, and what it becomes.
use Rattle.std.proofs.Common.{◌≡◌, ℕ, ◌+◌, ◌<◌, ◌≤◌, Bool, true, false, cond, eqb, List, [], ◌∷◌, ◌++◌}
use Rattle.std.proofs.Common.{length, Option, Some, None, codes, if◌then◌else◌, refl, ap, arith}
use Rattle.chess_board.specs.declared.men.Kind.{Kind}
use Rattle.chess_board.specs.Squares.{file_of, rank_of}
use Rattle.chess_board.specs.Fields.{square_text}
use Rattle.chess_notation.specs.SanText.{becomes_text}
use Rattle.chess_notation.specs.Disambiguation.{file_letter}
use Rattle.chess_notation.proofs.TextBytes.{kind_said, kind_said-letter, unmarked, file_unmarked, rank_unmarked, kind_unmarked, rank_no_capture}

abbrev pub pawn_form : Bool → ℕ → ℕ → Option Kind → List ℕ
pawn_form captures o t becomes = (if captures then file_letter o ++ codes "x" else []) ++ square_text t ++ becomes_text becomes

-- the parts of the text, files and ranks by their bytes
pub record PawnSaid : Type 0 where
  pub from_file : Option ℕ
  pub to_file : ℕ
  pub to_rank : ℕ
  pub becomes : Option Kind

abbrev said : Option ℕ → ℕ → ℕ → Option Kind → PawnSaid
said from f r becomes = record { from_file = from; to_file = f; to_rank = r; becomes = becomes }

abbrev pub read_pawn : List ℕ → PawnSaid
read_pawn [] = said None 0 0 None
read_pawn (a ∷ []) = said None 0 0 None
read_pawn (a ∷ b ∷ []) = said None a b None
read_pawn (a ∷ b ∷ c ∷ []) = said None 0 0 None
read_pawn (a ∷ b ∷ c ∷ d ∷ []) = cond (eqb b 120) (said (Some a) c d None) (said None a b (kind_said d))
read_pawn (a ∷ b ∷ c ∷ d ∷ e ∷ []) = said None 0 0 None
read_pawn (a ∷ b ∷ c ∷ d ∷ e ∷ f ∷ rest) = said (Some a) c d (kind_said f)

abbrev pub pawn_wrote : Bool → ℕ → ℕ → Option Kind → PawnSaid
pawn_wrote captures o t becomes = said (cond captures (Some (97 + file_of o)) None) (97 + file_of t) (49 + rank_of t) becomes

pub read_pawn-form : (captures : Bool) (o t : ℕ) (becomes : Option Kind) → t < 64
    → read_pawn (pawn_form captures o t becomes) ≡ pawn_wrote captures o t becomes
read_pawn-form true o t None on = refl
read_pawn-form false o t None on = refl
read_pawn-form true o t (Some made) on = ap (said (Some (97 + file_of o)) (97 + file_of t) (49 + rank_of t)) (kind_said-letter made)
read_pawn-form false o t (Some made) on = let x = rank_no_capture t on in simp (x, kind_said-letter)

pub unmarked-pawn_form : (captures : Bool) (o t : ℕ) (becomes : Option Kind)
    → unmarked (pawn_form captures o t becomes) ≡ pawn_form captures o t becomes
unmarked-pawn_form true o t None = simp (file_unmarked, rank_unmarked)
unmarked-pawn_form false o t None = simp (file_unmarked, rank_unmarked)
unmarked-pawn_form true o t (Some made) = simp (file_unmarked, rank_unmarked, kind_unmarked)
unmarked-pawn_form false o t (Some made) = simp (file_unmarked, rank_unmarked, kind_unmarked)

pub length-pawn_form : (captures : Bool) (o t : ℕ) (becomes : Option Kind) → length (pawn_form captures o t becomes) ≤ 6
length-pawn_form true o t None = omega arith
length-pawn_form false o t None = omega arith
length-pawn_form true o t (Some made) = omega arith
length-pawn_form false o t (Some made) = omega arith

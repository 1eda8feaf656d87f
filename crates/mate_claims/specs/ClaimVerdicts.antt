-- The verdict on what a record claims, by what is true of its problem (own to this project).
use Rattle.std.specs.Prelude.{ℕ, nat_lt, List, [], ◌∷◌, length, codes, Bool, false, not, if◌then◌else◌}
use Rattle.std.specs.List.{list_all, list_any}
use Rattle.chess_board.specs.Moves.{Move}
use Rattle.chess_problems.specs.declared.outcomes.Outcome.{Outcome}
use Rattle.chess_problems.specs.declared.outcomes.Outcome.TheVariants.{Mate, NoMate}
use Rattle.chess_problems.specs.SameProblems.{is_same_move}
use Rattle.mate_claims.specs.declared.claim_verdicts.ClaimVerdict.{ClaimVerdict}
use Rattle.mate_claims.specs.declared.bound_sources.BoundSource.{BoundSource}
use Rattle.mate_claims.specs.declared.bound_sources.BoundSource.TheVariants.{Line, Default}
use Rattle.mate_claims.specs.declared.claim_verdicts.ClaimVerdict.TheVariants.{Sound, Several, Unclaimed, Cooked, Wrong, Short, Unsolvable, Unsolved, Undecided}

-- A verdict is printed as a word.
abbrev pub verdict_name : ClaimVerdict → List ℕ
verdict_name Sound = codes "sound"
verdict_name Several = codes "several"
verdict_name Unclaimed = codes "unclaimed"
verdict_name Cooked = codes "cooked"
verdict_name Wrong = codes "wrong"
verdict_name Short = codes "short"
verdict_name Unsolvable = codes "unsolvable"
verdict_name Unsolved = codes "unsolved"
verdict_name Undecided = codes "undecided"

-- Each of these moves is among the others.
abbrev pub are_among : List Move → List Move → Bool
are_among others moves = list_all (λ m. list_any (is_same_move m) others) moves

-- A key isn't claimed; where no move is claimed, there is more than one key.
abbrev pub is_cooked : List Move → List Move → Bool
is_cooked [] keys = nat_lt 1 (length keys)
is_cooked (m ∷ ms) keys = not (are_among (m ∷ ms) keys)

-- Where no move is claimed, nothing is found to be as claimed. A problem that is sound has one key, which is claimed.
abbrev pub verdict_of_claimed : List Move → List Move → ClaimVerdict
verdict_of_claimed [] keys = Unclaimed
verdict_of_claimed (m ∷ ms) keys = if nat_lt 1 (length keys) then Several else Sound

-- the verdict by the keys: a claimed move is no key, or a key isn't claimed, or neither
abbrev pub keys_verdict : List Move → List Move → ClaimVerdict
keys_verdict claimed keys =
    if not (are_among keys claimed) then Wrong else (if is_cooked claimed keys then Cooked else verdict_of_claimed claimed keys)

-- Only of a length that the line claims the shortest mate can fall short.
abbrev pub falls_short : BoundSource → ℕ → ℕ → Bool
falls_short Line asked n = nat_lt n asked
falls_short Default asked n = false

-- There is no mate within the number of moves that the line claims, or within one that it doesn't.
abbrev pub none_verdict : BoundSource → ClaimVerdict
none_verdict Line = Unsolvable
none_verdict Default = Unsolved

-- the first that applies: there is no mate, there is one in fewer moves than are claimed, or the verdict by its keys
unfoldable pub claim_verdict : BoundSource → ℕ → List Move → Outcome → ClaimVerdict
claim_verdict source asked claimed (Mate n keys pv) = if falls_short source asked n then Short else keys_verdict claimed keys.items
claim_verdict source asked claimed NoMate = none_verdict source

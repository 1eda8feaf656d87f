-- Not for believing: what there is to say by what was found.
use Rattle.std.specs.Prelude.{ℕ, ◌≡◌, [], Option}
use Rattle.std.specs.Option.{option_map_or}
use Rattle.chess_problems.specs.declared.outcomes.Outcome.{Outcome}
use Rattle.chess_problems.specs.declared.outcomes.Outcome.TheVariants.{Mate, NoMate}
use Rattle.mate_search.specs.declared.findings.Finding.{Finding}

-- no key and no line was found yet
abbrev pub IsBlank : Finding → Type 0
IsBlank f = (f.keys.items ≡ []) × (f.pv.items ≡ [])

-- with the least number of moves a mate, without one none
abbrev pub outcome_of : Option ℕ → Finding → Outcome
outcome_of dm f = option_map_or (λ n. Mate n f.keys f.pv) dm NoMate

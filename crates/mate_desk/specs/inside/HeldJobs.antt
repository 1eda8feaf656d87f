-- Not for believing: how jobs in hand are kept. No contract of a public call rests on it.
use Rattle.std.specs.Prelude.{◌≡◌, ℕ, ◌==◌, nat_lt, List, map, get_or, cond, count_by}
use Rattle.chess_notation.specs.Records.{problem_of}
use Rattle.mate_jobs.specs.Jobs.{Task}
use Rattle.mate_desk.specs.Holding.{nothing}

-- the jobs in the order of taking, and how many there may be
pub record HandValue : Type 0 where
  pub jobs : List Task
  pub room : ℕ

-- the job in a place; each that is asked for is there, so the default is never read
abbrev pub job_at : List Task → ℕ → Task
job_at places place = get_or places place (record { ticket = 0; problem = problem_of nothing })

-- the jobs in the order in which their places are named
abbrev pub jobs_in : List Task → List ℕ → List Task
jobs_in places order = map (job_at places) order

-- Each of so many places is named once, and no other.
abbrev pub AreNamedOnce : ℕ → List ℕ → Type 0
AreNamedOnce count order = (place : ℕ) → count_by (λ n. n == place) order ≡ cond (nat_lt place count) 1 0

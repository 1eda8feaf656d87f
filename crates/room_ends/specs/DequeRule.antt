-- The rule of the deque of orders: what the keeper put out, what waits there, and what the benches got (own to this project).
use Rattle.std.specs.Prelude.{◌≡◌, ℕ, ◌+◌, ◌≤◌, true, false, List, [], ◌∷◌, ◌++◌, length, map, replicate, flat_map, All, IsPermutation}
use Rattle.mate_jobs.specs.Jobs.{Task}
use Rattle.room_ends.specs.declared.deque_rule.Order.{Order}
use Rattle.room_ends.specs.declared.deque_rule.Order.TheVariants.{Solve, Stop}
use Rattle.room_ends.specs.declared.deque_rule.View.{View}

-- how many stops are among the orders
abbrev pub stops : List Order → ℕ
stops [] = 0
stops (Solve job ∷ rest) = stops rest
stops (Stop ∷ rest) = stops rest + 1

-- the orders are jobs, and behind them stops
abbrev pub JobsFirst : List Order → Type 0
JobsFirst orders = (jobs : List Task) × (n : ℕ) × (orders ≡ map Solve jobs ++ replicate n Stop)

-- what the benches got: the first, then the second, and so on
abbrev pub got_by : List View → List Order
got_by benches = flat_map (λ bench. bench.got) benches

-- The orders put out are a first part, and then what waits in the deque. The benches got exactly that first part, each order as
-- often as it stands there. At most as many stops were put out as passes were handed to benches, no job stands behind a stop, and
-- no bench got more than one stop.
pub record Distributed (waiting : List Order) (keeper : View) (benches : List View) : Type 0 where
  pub keeps : keeper.keeps ≡ true
  pub passes : keeper.passes ≡ length benches
  pub first : List Order
  pub in_order : keeper.orders ≡ first ++ waiting
  pub each_once : IsPermutation first (got_by benches)
  pub few_stops : stops keeper.orders ≤ length benches
  pub jobs_first : JobsFirst keeper.orders
  pub one_stop : All (λ bench. stops bench.got ≤ 1) benches

-- the rule: the keeper has the first pass, and the benches have the others
abbrev pub Ruled : List Order → List View → Type 0
Ruled waiting [] = ⊥
Ruled waiting (keeper ∷ benches) = Distributed waiting keeper benches

-- what the keeper knows that handed out so many passes and put out these orders
abbrev pub keeper_view : ℕ → List Order → View
keeper_view passes orders = record { keeps = true; passes = passes; orders = orders; got = [] }

-- what a bench knows that got these orders
abbrev pub bench_view : List Order → View
bench_view got = record { keeps = false; passes = 0; orders = []; got = got }
